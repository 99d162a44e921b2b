-- Files that were saved to a volume, one after the other.
use Rattle.std.specs.Prelude.{◌≡◌, ℕ, ◌+◌, List, [], ◌∷◌, Option}
use Rattle.a2_device.specs.Device.{DeviceState}
use Rattle.folder_adding.specs.Items.{BatchView, ItemView, NewFile, file_at, new_file}
use Rattle.folder_adding.specs.Reads.{IsItemRead}
use Rattle.edit_formats.specs.Saves.{SaveMeaning}
use Rattle.shop_changes.specs.GivenFile.{GivenView}
use Rattle.shop_changes.specs.SaidFile.{Gives, IsSaidOutcome}
use Rattle.shop_changes.specs.Saves.{HasGivenSaved}
use Rattle.shop_changes.specs.declared.outcome.Outcome.{Outcome}
use Rattle.shop_changes.specs.declared.outcome.Outcome.TheVariants.{Changed}
use Rattle.vol_format.specs.Meaning.{Meaning}

-- what becomes of a device to which a new file is saved
abbrev pub IsNewFileOutcome : SaveMeaning → Meaning → NewFile → DeviceState → DeviceState → Outcome → Type 0
IsNewFileOutcome saves format file old new outcome = IsSaidOutcome file.path file.said saves format old new outcome

-- ---- on every device

-- bytes were read of the item's file, which has this number, and with these the item was saved
pub record IsItemAdded (batch : BatchView) (holds : Option (ℕ → List ℕ)) (saves : SaveMeaning) (format : Meaning)
    (file : ℕ) (item : ItemView) (old new : DeviceState) : Type 0 where
  pub bytes : List ℕ
  pub read : IsItemRead batch.file_system holds file item bytes
  pub saved : IsNewFileOutcome saves format (new_file batch item bytes) old new Changed

-- The items, of which the first has this number, were saved one after the other: each to the device that the one before
-- it left, and nothing else was done to it.
abbrev pub AreAdded : BatchView → Option (ℕ → List ℕ) → SaveMeaning → Meaning → ℕ → List ItemView → DeviceState
    → DeviceState → Type 0
AreAdded batch holds saves format number [] old new = new ≡ old
AreAdded batch holds saves format number (item ∷ items) old new =
    (mid : DeviceState) × IsItemAdded batch holds saves format (file_at batch number) item old mid
    × AreAdded batch holds saves format (number + 1) items mid new

-- ---- on an honest device

-- what is said of the file gives one, and the volume has the files of before and that one
pub record IsFileAdded (saves : SaveMeaning) (format : Meaning) (file : NewFile) (old new : List (List ℕ)) :
    Type 0 where
  pub given : GivenView
  pub gives : Gives file.said given
  pub saved : HasGivenSaved file.path given saves format old new

-- the files were saved one after the other: each to the volume that the one before it left
abbrev pub HasAdded : SaveMeaning → Meaning → List NewFile → List (List ℕ) → List (List ℕ) → Type 0
HasAdded saves format [] old new = new ≡ old
HasAdded saves format (file ∷ files) old new =
    (mid : List (List ℕ)) × IsFileAdded saves format file old mid × HasAdded saves format files mid new
