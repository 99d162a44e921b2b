-- What is found of the files of two volumes.
use Rattle.std.specs.Prelude.{◌≡◌, ◌<◌, ◌⊎◌, ℕ, List, Option, Some, None, length, slice_index_or, sum_by}
use Rattle.a2_device.specs.Device.{DeviceState}
use Rattle.vol_layout.specs.declared.form.PlaceForm.{PlaceForm}
use Rattle.vol_format.specs.Directory.{Directory}
use Rattle.vol_format.specs.Meaning.{Meaning}
use Rattle.file_formats.specs.Files.{FileMeaning}
use Rattle.file_cmds.specs.ReadingOn.{FailedInFile}
use Rattle.volume_compare.specs.Contents.{FileContent, IsContent, IsJudged, IsUnread, SeenVolume, volume_in}
use Rattle.volume_compare.specs.Pairs.{IsPartner, path_at, paths_of}
use Rattle.volume_compare.specs.declared.finding.Finding.{Finding}
use Rattle.volume_compare.specs.declared.finding.Finding.TheVariants.{Unreadable, Only, Body, Entry, Same}
use Rattle.volume_compare.specs.declared.finding.Found.{Found}
use Rattle.volume_compare.specs.declared.finding.Side.TheVariants.{First, Second}

-- Two volumes that are compared, and of which files of each the read of a unit has failed.
pub record Compared : Type 1 where
  pub first : SeenVolume
  pub second : SeenVolume
  pub first_failed : ℕ → Type 0
  pub second_failed : ℕ → Type 0

-- the paths of the files of a volume
abbrev pub paths_in : SeenVolume → List (Option (List ℕ))
paths_in volume = paths_of volume.files volume.directory

abbrev pub ArePartners : Compared → ℕ → ℕ → Type 0
ArePartners compared file other = IsPartner (paths_in compared.first) (paths_in compared.second) file other

-- how many bytes of both volumes were read
abbrev pub HasBytes : Found → ℕ → ℕ → Type 0
HasBytes found first second = (found.first_bytes ≡ first) × (found.second_bytes ≡ second)

-- a file of the first volume can't be read
pub record IsUnreadableFirst (compared : Compared) (file : ℕ) (found : Found) : Type 0 where
  pub unread : IsUnread compared.first compared.first_failed file
  pub bytes : HasBytes found 0 0

-- it can be read, and has no partner
pub record IsOnlyFirst (compared : Compared) (file : ℕ) (found : Found) : Type 0 where
  pub content : FileContent
  pub is_content : IsContent compared.first file content
  pub alone : (other : ℕ) → ¬ ArePartners compared file other
  pub bytes : HasBytes found (length content.text) 0

-- it can be read, and its partner can't
pub record IsUnreadableSecond (compared : Compared) (file : ℕ) (found : Found) : Type 0 where
  pub content : FileContent
  pub is_content : IsContent compared.first file content
  pub other : ℕ
  pub partners : ArePartners compared file other
  pub unread : IsUnread compared.second compared.second_failed other
  pub bytes : HasBytes found (length content.text) 0

-- both can be read
pub record AreBothRead (compared : Compared) (file : ℕ) (found : Found) : Type 0 where
  pub content : FileContent
  pub is_content : IsContent compared.first file content
  pub other : ℕ
  pub partners : ArePartners compared file other
  pub other_content : FileContent
  pub is_other : IsContent compared.second other other_content
  pub judged : IsJudged content other_content found.finding
  pub bytes : HasBytes found (length content.text) (length other_content.text)

-- what is found of a file of the first volume, and of its partner
abbrev pub IsFinding : Compared → ℕ → Found → Finding → Type 0
IsFinding compared file found (Unreadable First) = IsUnreadableFirst compared file found
IsFinding compared file found (Unreadable Second) = IsUnreadableSecond compared file found
IsFinding compared file found (Only First) = IsOnlyFirst compared file found
IsFinding compared file found (Only Second) = ⊥
IsFinding compared file found Body = AreBothRead compared file found
IsFinding compared file found Entry = AreBothRead compared file found
IsFinding compared file found Same = AreBothRead compared file found

abbrev pub IsFound : Compared → ℕ → Found → Type 0
IsFound compared file found = IsFinding compared file found found.finding

-- a file of the second volume that has no partner can't be read
pub record IsUnreadableAlone (compared : Compared) (other : ℕ) (found : Found) : Type 0 where
  pub unread : IsUnread compared.second compared.second_failed other
  pub bytes : HasBytes found 0 0

-- it can be read
pub record IsOnlySecond (compared : Compared) (other : ℕ) (found : Found) : Type 0 where
  pub content : FileContent
  pub is_content : IsContent compared.second other content
  pub bytes : HasBytes found 0 (length content.text)

-- what is found of a file of the second volume that has no partner
abbrev pub IsFindingAlone : Compared → ℕ → Found → Finding → Type 0
IsFindingAlone compared other found (Unreadable Second) = IsUnreadableAlone compared other found
IsFindingAlone compared other found (Only Second) = IsOnlySecond compared other found
IsFindingAlone compared other found finding = ⊥

abbrev pub IsFoundAlone : Compared → ℕ → Found → Type 0
IsFoundAlone compared other found = IsFindingAlone compared other found found.finding

-- ---- what is told

-- a file that is told of: its path, and what was found
pub record Told : Type 0 where
  pub path : List ℕ
  pub found : Found

-- of the file of an entry of the first volume; a directory is not told of
abbrev pub IsTold : Compared → ℕ → Option Told → Type 0
IsTold compared file (Some told) =
    (path_at (paths_in compared.first) file ≡ Some told.path) × IsFound compared file told.found
IsTold compared file None = path_at (paths_in compared.first) file ≡ None

-- of that of an entry of the second; neither a directory is told of nor a partner
abbrev pub IsToldAlone : Compared → ℕ → Option Told → Type 0
IsToldAlone compared other (Some told) =
    (path_at (paths_in compared.second) other ≡ Some told.path) × ((file : ℕ) → ¬ ArePartners compared file other)
    × IsFoundAlone compared other told.found
IsToldAlone compared other None =
    (path_at (paths_in compared.second) other ≡ None) ⊎ ((file : ℕ) × ArePartners compared file other)

abbrev pub told_at : List (Option Told) → ℕ → Option Told
told_at told file = slice_index_or told file None

-- of those of the first entries of a volume
pub record AreToldUpTo (compared : Compared) (many : ℕ) (told : List (Option Told)) : Type 0 where
  pub long : length told ≡ many
  pub each : (file : ℕ) → file < many → IsTold compared file (told_at told file)

pub record AreToldAloneUpTo (compared : Compared) (many : ℕ) (told : List (Option Told)) : Type 0 where
  pub long : length told ≡ many
  pub each : (other : ℕ) → other < many → IsToldAlone compared other (told_at told other)

-- how many bytes were read of them
abbrev pub first_bytes_of : Option Told → ℕ
first_bytes_of (Some told) = told.found.first_bytes
first_bytes_of None = 0

abbrev pub second_bytes_of : Option Told → ℕ
second_bytes_of (Some told) = told.found.second_bytes
second_bytes_of None = 0

abbrev pub first_bytes : List (Option Told) → ℕ
first_bytes told = sum_by first_bytes_of told

abbrev pub second_bytes : List (Option Told) → ℕ
second_bytes told = sum_by second_bytes_of told

-- two volumes as two devices had them, on which reads may have failed since
abbrev pub compared_in : PlaceForm → FileMeaning → Meaning → Directory → Directory → DeviceState → DeviceState
    → DeviceState → DeviceState → Compared
compared_in form files meaning first second device device_now other other_now = record {
  first = volume_in form files meaning first device.store;
  second = volume_in form files meaning second other.store;
  first_failed = FailedInFile meaning first device device_now;
  second_failed = FailedInFile meaning second other other_now;
}
