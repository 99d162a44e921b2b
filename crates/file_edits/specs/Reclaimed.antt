-- What reclaiming lost places leaves of a volume, and why it is refused.
use Rattle.std.specs.Prelude.{◌≡◌, ◌⊎◌, ◌↔◌, ◌<◌, ℕ, true, List, length, map, Contains}
use Rattle.a2_device.specs.Device.{unit_at}
use Rattle.vol_format.specs.Accepted.{IsAccepted, IsVolume}
use Rattle.vol_format.specs.Directory.{Directory, is_free, map_place}
use Rattle.vol_format.specs.Files.{File, HasFiles, KeepsFiles}
use Rattle.vol_format.specs.Layout.{HasLayout}
use Rattle.vol_format.specs.Meaning.{Meaning}
use Rattle.vol_format.specs.Standing.{IsLost}
use Rattle.vol_laws.specs.Deleted.{IsLostOn}
use Rattle.vol_laws.specs.Markings.{Marking, marking_of, marking_write}
use Rattle.vol_laws.specs.System.{SameSystem}
use Rattle.vol_laws.specs.Writes.{Write}
use Rattle.edit_formats.specs.declared.error.EditError.{EditError}
use Rattle.edit_formats.specs.declared.error.EditError.TheVariants.{Check, Device, Memory}

-- a lost place whose mark stands in this unit of the map
pub record IsLostHere (format : Meaning) (directory : Directory) (store : List (List ℕ)) (at place : ℕ) : Type 0 where
  pub lost : IsLost format directory store place
  pub here : map_place directory place ≡ at

-- The writes that mark the lost places free (Beneath Apple DOS, chapter 4; ProDOS 8 Technical Reference Manual,
-- appendix B). They are of units of the map, in rising order and each once. In each the lost places whose marks stand
-- there are marked free, these alone and one at the least; and the unit of each lost place is among them.
pub record IsReclaiming (format : Meaning) (directory : Directory) (store : List (List ℕ)) (writes : List Write)
    : Type 0 where
  pub markings : List Marking
  pub are : writes ≡ map (marking_write format true store) markings
  pub rising : (j k : ℕ) → j < k → k < length markings → (marking_of markings j).at < (marking_of markings k).at
  pub own : (k : ℕ) → k < length markings → (place : ℕ)
      → Contains (marking_of markings k).places place
      ↔ IsLostHere format directory store (marking_of markings k).at place
  pub some : (k : ℕ) → k < length markings → 0 < length (marking_of markings k).places
  pub each : (place : ℕ) → IsLost format directory store place
      → (k : ℕ) × (k < length markings) × ((marking_of markings k).at ≡ map_place directory place)

-- The writes that reclaim the lost places of an accepted volume. They are kept in memory until the first is made, and
-- there are fewer of them than a device can count.
pub record IsReclaimEdit (format : Meaning) (store : List (List ℕ)) (writes : List Write) : Type 0 where
  pub directory : Directory
  pub accepted : IsAccepted format directory store
  pub reclaiming : IsReclaiming format directory store writes
  pub few : length writes < 18446744073709551616

-- a place that is marked free on an accepted volume
abbrev pub IsFreeOn : Meaning → List (List ℕ) → ℕ → Type 0
IsFreeOn format store place =
    (directory : Directory) × IsAccepted format directory store × (is_free directory place ≡ true)

-- a unit of the map that has the mark of a place which is lost on an accepted volume
abbrev pub HasLostMark : Meaning → List (List ℕ) → ℕ → Type 0
HasLostMark format store at =
    (directory : Directory) × IsAccepted format directory store
    × ((place : ℕ) × IsLostHere format directory store at place)

-- Some of the places that were lost are marked free, and nothing else is changed. The volume is accepted; it has the
-- same files, and their parts stand where they stood. What was marked free still is, and besides it those places alone
-- that were lost and are no longer. Each unit without the mark of a lost place is as it was, and of the units of the
-- system each has the content that it had, marks aside.
pub record IsPartlyReclaimed (format : Meaning) (old new : List (List ℕ)) : Type 0 where
  pub volume : IsVolume format new
  pub keeps : KeepsFiles format old new
  pub files : (all : List File) → HasFiles format old all ↔ HasFiles format new all
  pub layout : (at : List ℕ) → HasLayout format old at ↔ HasLayout format new at
  pub lost : (place : ℕ) → IsLostOn format new place → IsLostOn format old place
  pub free : (place : ℕ)
      → IsFreeOn format new place
      ↔ (IsFreeOn format old place ⊎ (IsLostOn format old place × ¬ IsLostOn format new place))
  pub size : length new ≡ length old
  pub rest : (at : ℕ) → ¬ HasLostMark format old at → unit_at new at ≡ unit_at old at
  pub system : (before after : Directory) → format.Describes old before → format.Describes new after
      → SameSystem format before after old new

-- the same, and no place is lost
pub record HasReclaimed (format : Meaning) (old new : List (List ℕ)) : Type 0 where
  pub partly : IsPartlyReclaimed format old new
  pub none_lost : (place : ℕ) → ¬ IsLostOn format new place

-- the same store, or one of which some lost places are reclaimed
abbrev pub IsOldOrReclaimed : Meaning → List (List ℕ) → List (List ℕ) → Type 0
IsOldOrReclaimed format old new = (new ≡ old) ⊎ IsPartlyReclaimed format old new

-- why lost places are not reclaimed: no other refusal is told
abbrev pub IsReclaimRefusal : EditError → Type 0
IsReclaimRefusal Check = Unit {0}
IsReclaimRefusal Device = Unit {0}
IsReclaimRefusal Memory = Unit {0}
IsReclaimRefusal error = ⊥
