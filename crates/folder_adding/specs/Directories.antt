-- Directories that are there or are made, one after the other.
use Rattle.std.specs.Prelude.{◌≡◌, ◌≢◌, ◌⊎◌, ◌↔◌, ℕ, Bool, true, false, List, [], ◌∷◌, ◌++◌, Err, IsTrue, length}
use Rattle.a2_device.specs.Device.{DeviceState, OnlyReads}
use Rattle.file_edits.specs.Directories.{DirectoryMeaning}
use Rattle.edit_formats.specs.Refusal.{told_device}
use Rattle.edit_formats.specs.Renamed.{IsReadRefusal}
use Rattle.edit_formats.specs.declared.error.EditError.{EditError}
use Rattle.edit_formats.specs.declared.error.EditError.TheVariants.{Check}
use Rattle.folder_adding.specs.HostPaths.{Text}
use Rattle.folder_adding.specs.declared.making.Unmade.{Unmade}
use Rattle.pro_dir.specs.declared.date.ProDate.{ProDate}
use Rattle.shop_changes.specs.MakingOutcome.{IsMakingOutcome}
use Rattle.shop_changes.specs.Refusals.{reply_to_edit_refusal}
use Rattle.shop_changes.specs.declared.outcome.Outcome.TheVariants.{Changed, Unfinished}
use Rattle.shop_replies.specs.declared.reply.Reply.{Reply}
use Rattle.vol_format.specs.Accepted.{IsVolume}
use Rattle.vol_format.specs.Files.{File, HasFiles}
use Rattle.vol_format.specs.Meaning.{Meaning}
use Rattle.vol_laws.specs.Deleted.{IsLostOn}

-- what directories are to a volume, what its units mean, and the date of each directory that is made
pub record Making : Type 1 where
  pub directories : DirectoryMeaning
  pub format : Meaning
  pub date : ProDate

abbrev pub making_by : DirectoryMeaning → Meaning → ProDate → Making
making_by directories format date = record { directories = directories; format = format; date = date }

-- ---- on every device

-- the device was looked at for the directory of a path, and on an honest one it is so
pub record IsLooked (making : Making) (there : Bool) (path : Text) (old new : DeviceState) : Type 0 where
  pub reads : OnlyReads false old new
  pub is : IsTrue old.honest → making.directories.IsThere there old.store path

-- the directory was not there, and was made
pub record IsMadeAnew (making : Making) (path : Text) (old new : DeviceState) : Type 0 where
  pub looked : DeviceState
  pub lacks : IsLooked making false path old looked
  pub made : IsMakingOutcome path making.date making.directories making.format looked new Changed

-- the directory was there, and nothing was done, or it was made
abbrev pub IsKept : Making → Text → DeviceState → DeviceState → Type 0
IsKept making path old new = IsLooked making true path old new ⊎ IsMadeAnew making path old new

-- so with each of some, one after the other
abbrev pub AreKept : Making → List Text → DeviceState → DeviceState → Type 0
AreKept making [] old new = new ≡ old
AreKept making (path ∷ paths) old new = (mid : DeviceState) × IsKept making path old mid × AreKept making paths mid new

-- the device failed while it was looked at, or there was no memory for it
pub record IsNotLooked (old new : DeviceState) (reply : Reply) : Type 0 where
  pub error : EditError
  pub is : IsReadRefusal error
  pub reads : OnlyReads (told_device {T = Unit {0}} (Err error)) old new
  pub sound : IsTrue old.honest → error ≢ Check
  pub told : reply ≡ reply_to_edit_refusal error

-- the directory was not there, and was not made, for the cause that is told
pub record IsNotMade (making : Making) (path : Text) (old new : DeviceState) (reply : Reply) : Type 0 where
  pub looked : DeviceState
  pub lacks : IsLooked making false path old looked
  pub unmade : IsMakingOutcome path making.date making.directories making.format looked new (Unfinished reply)

abbrev pub IsNotKept : Making → Text → DeviceState → DeviceState → Reply → Type 0
IsNotKept making path old new reply = IsNotLooked old new reply ⊎ IsNotMade making path old new reply

-- Behind directories that are there comes the one that is told, which is not; nothing was done after that.
pub record HasNoDirectory (making : Making) (paths : List Text) (old new : DeviceState)
    (unmade : Unmade) : Type 0 where
  pub before : List Text
  pub path : Text
  pub behind : List Text
  pub all : paths ≡ before ++ path ∷ behind
  pub number : unmade.directory ≡ length before
  pub mid : DeviceState
  pub kept : AreKept making before old mid
  pub refusal : IsNotKept making path mid new unmade.reply

-- ---- on an honest device

-- the directory was there, and the volume is as it was, or it was made
abbrev pub HasKept : Making → Text → List (List ℕ) → List (List ℕ) → Type 0
HasKept making path old new =
    (making.directories.IsThere true old path × (new ≡ old))
    ⊎ (making.directories.IsThere false old path × making.directories.HasMade old path making.date new)

abbrev pub HasDirectories : Making → List Text → List (List ℕ) → List (List ℕ) → Type 0
HasDirectories making [] old new = new ≡ old
HasDirectories making (path ∷ paths) old new =
    (mid : List (List ℕ)) × HasKept making path old mid × HasDirectories making paths mid new

-- The volume is accepted, its files are those of before, and the same places are lost.
pub record KeepsVolume (format : Meaning) (old new : List (List ℕ)) : Type 0 where
  pub volume : IsVolume format new
  pub files : (all : List File) → HasFiles format old all → HasFiles format new all
  pub lost : (place : ℕ) → IsLostOn format new place ↔ IsLostOn format old place

-- so it is with all directories that are kept on an accepted volume
abbrev pub KeepFiles : DirectoryMeaning → Meaning → Type 0
KeepFiles directories format =
    (date : ProDate) (paths : List Text) (old new : List (List ℕ)) → IsVolume format old
    → HasDirectories (making_by directories format date) paths old new → KeepsVolume format old new
