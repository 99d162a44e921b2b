-- What a volume answers to a command that changes a file.
use Rattle.std.specs.Prelude.{ℕ, List, Result, Ok, Err}
use Rattle.vol_format.specs.Accepted.{IsVolume}
use Rattle.vol_format.specs.Meaning.{Meaning}
use Rattle.file_formats.specs.FileNames.{FileNameView}
use Rattle.file_formats.specs.Files.{FileMeaning}
use Rattle.edit_formats.specs.declared.error.EditError.{EditError}
use Rattle.edit_formats.specs.declared.error.EditError.TheVariants.{Check, NotFound, Name, Exists, Locked}
use Rattle.edit_formats.specs.Deleted.{HasFirstProtected, HasFirstUnprotected}
use Rattle.edit_formats.specs.Edited.{HasNoSuchFile}
use Rattle.edit_formats.specs.Erasing.{EraseMeaning}
use Rattle.edit_formats.specs.Names.{NameMeaning}
use Rattle.edit_formats.specs.Renamed.{HasFirst, HasFirstUnnamed, HasFirstBeside, HasFirstLocked, IsRenamable}

-- The answer of a volume to a name and a new one: the file is renamed, or a cause stands in the way. A failure of the
-- device and want of memory are none.
abbrev pub IsRenameAnswer : {T : Type 0} → Meaning → FileMeaning → NameMeaning → List (List ℕ) → FileNameView → List ℕ
    → Result T EditError → Type 0
IsRenameAnswer format files names store name new (Ok x) =
    HasFirst format files store name (λ directory file. IsRenamable names store directory file new)
IsRenameAnswer format files names store name new (Err Check) = ¬ IsVolume format store
IsRenameAnswer format files names store name new (Err NotFound) = HasNoSuchFile format files store name
IsRenameAnswer format files names store name new (Err Name) = HasFirstUnnamed format files names store name new
IsRenameAnswer format files names store name new (Err Exists) = HasFirstBeside format files names store name new
IsRenameAnswer format files names store name new (Err Locked) = HasFirstLocked format files names store name new
IsRenameAnswer format files names store name new (Err error) = ⊥

-- the answer of a volume to the name of a file that is to be deleted
abbrev pub IsDeleteAnswer : {T : Type 0} → Meaning → FileMeaning → EraseMeaning → List (List ℕ) → FileNameView
    → Result T EditError → Type 0
IsDeleteAnswer format files erasures store name (Ok x) = HasFirstUnprotected format files erasures store name
IsDeleteAnswer format files erasures store name (Err Check) = ¬ IsVolume format store
IsDeleteAnswer format files erasures store name (Err NotFound) = HasNoSuchFile format files store name
IsDeleteAnswer format files erasures store name (Err Locked) = HasFirstProtected format files erasures store name
IsDeleteAnswer format files erasures store name (Err error) = ⊥
