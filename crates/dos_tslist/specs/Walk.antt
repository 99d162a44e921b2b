-- What is known at each moment of a walk over a file.
use Rattle.std.specs.Prelude.{◌≡◌, ◌≢◌, ◌⊎◌, ◌↔◌, ◌<◌, ℕ, suc, ◌+◌, ◌*◌, Bool, true, false, List, [], ◌∷◌, Option, Some, None, not, count_by, ◌≤◌, slice_index_or, AllPairs, Contains}
use Rattle.a2_device.specs.Device.{unit_at}
use Rattle.a2_device.specs.Table.{IsTable}
use Rattle.a2_device.specs.declared.part.Part.{Part}
use Rattle.a2_device.specs.declared.part.PartKind.{PartKind}
use Rattle.a2_device.specs.declared.fault.Fault.{Fault}
use Rattle.a2_device.specs.declared.fault.Fault.TheVariants.{OutOfRange, Shared}
use Rattle.dos_vtoc.specs.Vtoc.{link_of}
use Rattle.dos_tslist.specs.Pointers.{pair_of}
use Rattle.dos_tslist.specs.Reach.{InFile, ListAt, rank, is_wild, place_named}

abbrev pub part_of : ℕ → PartKind → ℕ → ℕ → Part
part_of file kind number place = record { file = file; kind = kind; number = number; place = place }

-- the part that a pointer leads to, if it leads to one
abbrev pub pointed : ℕ → PartKind → ℕ → Option ℕ → List Part
pointed file kind number None = []
pointed file kind number (Some place) = part_of file kind number place ∷ []

-- the parts so far are those of the file whose rank is below a number, in order, and no pointer followed was wild
pub record IsWalked (store : List (List ℕ)) (file : ℕ) (first : Option (ℕ × ℕ)) (below : ℕ)
    (parts : List Part) : Type 0 where
  pub members : (part : Part) → Contains parts part ↔ (InFile store file first part × (rank part < below))
  pub ordered : AllPairs (λ part later. rank part < rank later) parts
  pub entry : 0 < below → is_wild first ≡ false
  pub links : (number list : ℕ) → ListAt store first number list → 123 * (number + 1) < below
      → is_wild (link_of (unit_at store list)) ≡ false
  pub pairs : (number list pair : ℕ) → ListAt store first number list → pair < 122 → 123 * number + 1 + pair < below
      → is_wild (pair_of (unit_at store list) pair) ≡ false

-- why a pointer is refused: it is wild, or names a place that was met
abbrev pub IsRefusedAt : List Bool → ℕ → Option (ℕ × ℕ) → Fault → Type 0
IsRefusedAt met holder pointer (OutOfRange place) = (place ≡ holder) × (is_wild pointer ≡ true)
IsRefusedAt met holder pointer (Shared place) =
    (place_named pointer ≡ Some place) × (slice_index_or met place false ≡ true)
IsRefusedAt met holder pointer fault = ⊥

-- what is known while the pairs of one list are taken
pub record IsPairing (file number holder : ℕ) (unit : List ℕ) (old_met met : List Bool) (old_parts parts : List Part)
    (pair : ℕ) : Type 0 where
  pub table : IsTable old_met old_parts → IsTable met parts
  pub fewer : count_by not met ≤ count_by not old_met
  pub walked : (store : List (List ℕ)) (first : Option (ℕ × ℕ)) → unit_at store holder ≡ unit
      → ListAt store first number holder
      → IsWalked store file first (123 * number + 1) old_parts
      → IsWalked store file first (123 * number + 1 + pair) parts

-- what is known before a list is read: its place, if it is there, and the parts before it and the list itself
pub record IsAtList (store : List (List ℕ)) (file : ℕ) (first : Option (ℕ × ℕ)) (list : Option ℕ) (number : ℕ)
    (parts : List Part) : Type 0 where
  pub walked : IsWalked store file first (123 * number + 1) parts
  pub here : (place : ℕ) → (list ≡ Some place) ↔ ListAt store first number place
