-- What an edit does to the list of the files of a volume.
use Rattle.std.specs.Prelude.{ℕ, Bool, if◌then◌else◌, List, [], ◌∷◌}
use Rattle.vol_format.specs.Files.{File}
use Rattle.vol_laws.specs.Lists.{without_first}
use Rattle.file_formats.specs.FileNames.{FileNameView}
use Rattle.file_formats.specs.Files.{FileMeaning}
use Rattle.edit_formats.specs.Edits.{EditMeaning}

-- a list of files of which the first with a name is changed
abbrev pub with_first : FileMeaning → FileNameView → (File → File) → List File → List File
with_first meaning name change [] = []
with_first meaning name change (file ∷ files) =
    if meaning.matches name file.path then (change file ∷ files) else (file ∷ with_first meaning name change files)

-- the list in which the first file with the name is locked or unlocked: bytes of its entry alone are others
abbrev pub with_lock_on : FileMeaning → EditMeaning → FileNameView → Bool → List File → List File
with_lock_on meaning edits name on =
    with_first meaning name (λ (file : File). record file { bytes = edits.locked on file.bytes })

-- the list without the first file with the name
abbrev pub without_named : FileMeaning → FileNameView → List File → List File
without_named meaning name = without_first (meaning.matches name)
