-- A change of a file: its writes, what they leave, and why it is refused.
use Rattle.std.specs.Prelude.{ℕ, true, false, List}
use Rattle.vol_format.specs.Accepted.{IsVolume}
use Rattle.vol_format.specs.Files.{File}
use Rattle.vol_format.specs.Meaning.{Meaning}
use Rattle.vol_laws.specs.Writes.{Write}
use Rattle.file_formats.specs.FileNames.{FileNameView}
use Rattle.file_formats.specs.Files.{FileMeaning}
use Rattle.edit_formats.specs.Deleted.{HasFirstProtected, IsDeleteEdit, IsOldOrErased}
use Rattle.edit_formats.specs.Edited.{HasNoSuchFile, IsLockEdit, IsOldOrChanged}
use Rattle.edit_formats.specs.Lists.{with_lock_on, without_named}
use Rattle.edit_formats.specs.Renamed.{HasFirstUnnamed, HasFirstBeside, HasFirstLocked, IsRenameEdit, with_new_name}
use Rattle.shop_jobs.specs.Job.{EditView, Lock, Unlock, Delete, Rename}
use Rattle.shop_replies.specs.declared.refusal.Refusal.{Refusal}
use Rattle.shop_replies.specs.declared.refusal.Refusal.TheVariants as refusals
use Rattle.shop_changes.specs.EditRules.{EditRules}

-- the list of the files of a volume after an edit of the first file with a name
abbrev pub edited_files : EditView → FileNameView → FileMeaning → EditRules → List File → List File
edited_files Lock name files rules = with_lock_on files rules.lock name true
edited_files Unlock name files rules = with_lock_on files rules.lock name false
edited_files Delete name files rules = without_named files name
edited_files (Rename new) name files rules = with_new_name files rules.name name new

-- these writes are the edit
abbrev pub AreWritesOf : EditView → FileNameView → FileMeaning → EditRules → Meaning → List (List ℕ) → List Write
    → Type 0
AreWritesOf Lock name files rules format store writes = IsLockEdit format files rules.lock store name true writes
AreWritesOf Unlock name files rules format store writes = IsLockEdit format files rules.lock store name false writes
AreWritesOf Delete name files rules format store writes = IsDeleteEdit format files rules.erase store name writes
AreWritesOf (Rename new) name files rules format store writes =
    IsRenameEdit format files rules.name store name new writes

-- The same store, or one whose files are those of before after the edit of their list; of a deletion at worst the
-- places of its file are lost.
abbrev pub IsOldOrEdited : EditView → FileNameView → FileMeaning → EditRules → Meaning → List (List ℕ) → List (List ℕ)
    → Type 0
IsOldOrEdited Delete name files rules format old new = IsOldOrErased format files name old new
IsOldOrEdited edit name files rules format old new = IsOldOrChanged format (edited_files edit name files rules) old new

-- Why an edit is refused, of several causes the first: the volume is not accepted; no file of it has the name; no file
-- may get the new name; an entry beside the file has it; the entry of the file does not let it be deleted or renamed.
-- Nothing else is told as refused.
abbrev pub IsCause : Refusal → EditView → FileNameView → FileMeaning → EditRules → Meaning → List (List ℕ) → Type 0
IsCause refusals.Check edit name files rules format store = ¬ IsVolume format store
IsCause refusals.NotFound edit name files rules format store = HasNoSuchFile format files store name
IsCause refusals.Name (Rename new) name files rules format store =
    HasFirstUnnamed format files rules.name store name new
IsCause refusals.Exists (Rename new) name files rules format store =
    HasFirstBeside format files rules.name store name new
IsCause refusals.Locked (Rename new) name files rules format store =
    HasFirstLocked format files rules.name store name new
IsCause refusals.Locked Delete name files rules format store = HasFirstProtected format files rules.erase store name
IsCause refusal edit name files rules format store = ⊥
