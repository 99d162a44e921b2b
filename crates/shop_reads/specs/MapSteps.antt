-- How the states of the places of a volume are found: first those at which no part stands, then the parts', and last
-- what is reserved.
use Rattle.std.specs.Prelude.{◌≡◌, ◌≢◌, ◌⊎◌, ◌<◌, ◌==◌, ℕ, Bool, false, List, length, map, nat_lt, slice_index, slice_index_or, if◌then◌else◌}
use Rattle.std.specs.List.{range_with_len}
use Rattle.a2_device.specs.declared.part.Part.{Part}
use Rattle.vol_format.specs.Accepted.{IsAccepted}
use Rattle.vol_format.specs.Directory.{Directory, is_free, is_system}
use Rattle.vol_format.specs.Meaning.{Meaning}
use Rattle.vol_format.specs.Reach.{IsPartsOf}
use Rattle.vol_format.specs.Standing.{layout_of, no_part}
use Rattle.shop_reads.specs.MapStates.{AreStates}
use Rattle.shop_reads.specs.declared.place_state.PlaceState.{PlaceState}
use Rattle.shop_reads.specs.declared.place_state.PlaceState.TheVariants as states

abbrev pub state_at : List PlaceState → ℕ → PlaceState
state_at places place = slice_index_or places place states.Free

-- the state of a place at which no part stands
abbrev pub vacant_state : Directory → ℕ → PlaceState
vacant_state directory place =
    if is_system directory place then states.System else (if is_free directory place then states.Free else states.Lost)

-- the state of the place of part k, which is the available one of this number
abbrev pub part_state : ℕ → ℕ → PlaceState
part_state k number = if number == k then states.InOrder else states.Elsewhere

-- none of the first parts stands at a place, and its state is as before; or one does, and it tells of that
abbrev pub PutsAt : ℕ → List Part → List ℕ → List PlaceState → List PlaceState → ℕ → Type 0
PutsAt many parts at old new place =
    (((k : ℕ) → k < many → (slice_index_or parts k no_part).place ≢ place) × (state_at new place ≡ state_at old place))
    ⊎ ((k : ℕ) × (k < many) × ((slice_index_or parts k no_part).place ≡ place)
    × (state_at new place ≡ part_state k (slice_index at k)))

-- the first parts were put into a table
pub record PutsParts (many : ℕ) (parts : List Part) (at : List ℕ) (old new : List PlaceState) : Type 0 where
  pub size : length new ≡ length old
  pub each : (place : ℕ) → place < length old → PutsAt many parts at old new place

-- the state of a place, once it is known whether it is the system's where nothing is reserved
abbrev pub reserved_state : Bool → PlaceState → PlaceState
reserved_state false states.System = states.Reserved
reserved_state own state = state

-- of the first places it was told that they are reserved
pub record TellsReserved (many : ℕ) (own : Directory) (old new : List PlaceState) : Type 0 where
  pub size : length new ≡ length old
  pub each : (place : ℕ) → state_at new place
      ≡ (if nat_lt place many then reserved_state (is_system own place) (state_at old place) else state_at old place)

-- the states of a volume's places, as its directory and the places of its parts tell them
pub record IsPutOn (directory : Directory) (parts : List Part) (places : List PlaceState) : Type 0 where
  pub vacant : List PlaceState
  pub is : vacant ≡ map (vacant_state directory) (range_with_len 0 directory.places)
  pub put : PutsParts (length parts) parts (layout_of directory parts) vacant places

-- the volume is accepted, and these are the states of its places, as long as nothing is told of what is reserved
pub record IsBareMap (format : Meaning) (store : List (List ℕ)) (many : ℕ) (places : List PlaceState) : Type 0 where
  pub directory : Directory
  pub accepted : IsAccepted format directory store
  pub parts : List Part
  pub are_parts : IsPartsOf format directory store parts
  pub are_many : many ≡ length parts
  pub are_states : AreStates format store (record { directory = directory; own = directory; parts = parts }) places
