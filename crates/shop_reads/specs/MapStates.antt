-- What is at each place of a volume.
use Rattle.std.specs.Prelude.{◌≡◌, ◌<◌, ℕ, true, false, List, length, Contains, slice_index, slice_index_or}
use Rattle.a2_device.specs.declared.part.Part.{Part}
use Rattle.vol_layout.specs.Layouts.{IsMisplaced}
use Rattle.vol_format.specs.Accepted.{IsAccepted}
use Rattle.vol_format.specs.Directory.{Directory, is_free, is_system}
use Rattle.vol_format.specs.Meaning.{Meaning}
use Rattle.vol_format.specs.Reach.{IsPartsOf}
use Rattle.vol_format.specs.Standing.{IsLost, layout_of, no_part}
use Rattle.shop_reads.specs.declared.place_state.PlaceState.{PlaceState}
use Rattle.shop_reads.specs.declared.place_state.PlaceState.TheVariants as states

-- A volume whose map is drawn: what its header, directory and map say, what they say where nothing is reserved, and the
-- parts of its files, in order.
pub record Mapped : Type 0 where
  pub directory : Directory
  pub own : Directory
  pub parts : List Part

-- where its parts stand, by the numbers of available places
abbrev pub layout_in : Mapped → List ℕ
layout_in volume = layout_of volume.directory volume.parts

-- part k stands at a place
abbrev pub StandsAt : List Part → ℕ → ℕ → Type 0
StandsAt parts k place = (k < length parts) × ((slice_index_or parts k no_part).place ≡ place)

-- A place is in a state. The target of part k is the available place of number k.
abbrev pub IsInState : Meaning → List (List ℕ) → Mapped → ℕ → PlaceState → Type 0
IsInState format store volume place states.System =
    (is_system volume.directory place ≡ true) × (is_system volume.own place ≡ true)
IsInState format store volume place states.Reserved =
    (is_system volume.directory place ≡ true) × (is_system volume.own place ≡ false)
IsInState format store volume place states.InOrder =
    (k : ℕ) × StandsAt volume.parts k place × (slice_index (layout_in volume) k ≡ k)
IsInState format store volume place states.Elsewhere =
    (k : ℕ) × StandsAt volume.parts k place × IsMisplaced (layout_in volume) k
IsInState format store volume place states.Lost = IsLost format volume.directory store place
IsInState format store volume place states.Free =
    Contains volume.directory.available place × (is_free volume.directory place ≡ true)

-- the states of all places of a volume
pub record AreStates (format : Meaning) (store : List (List ℕ)) (volume : Mapped)
    (places : List PlaceState) : Type 0 where
  pub all : length places ≡ volume.directory.places
  pub each : (place : ℕ) → place < volume.directory.places
      → IsInState format store volume place (slice_index_or places place states.Free)

-- the volume is accepted, and these are the states of its places, where it has so many parts
pub record IsMap (format unreserved : Meaning) (store : List (List ℕ)) (parts : ℕ)
    (places : List PlaceState) : Type 0 where
  pub volume : Mapped
  pub accepted : IsAccepted format volume.directory store
  pub own : unreserved.Describes store volume.own
  pub are_parts : IsPartsOf format volume.directory store volume.parts
  pub many : parts ≡ length volume.parts
  pub are_states : AreStates format store volume places
