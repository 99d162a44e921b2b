-- What the pointers of a file reach: its lists and the units of its body, each by its number.
use Rattle.std.specs.Prelude.{◌≡◌, ◌≢◌, ◌⊎◌, ◌↔◌, ◌<◌, ℕ, zero, suc, ◌+◌, ◌*◌, ◌/◌, ◌%◌, ◌||◌, nat_lt, Bool, true, false, List, Option, Some, None, if◌then◌else◌, AllPairs, Contains}
use Rattle.a2_device.specs.Device.{unit_at}
use Rattle.a2_device.specs.declared.part.Part.{Part}
use Rattle.a2_device.specs.declared.part.PartKind.{PartKind}
use Rattle.a2_device.specs.declared.part.PartKind.TheVariants.{List as AList, Body}
use Rattle.a2_device.specs.declared.fault.Fault.{Fault}
use Rattle.a2_device.specs.declared.fault.Fault.TheVariants.{OutOfRange, Shared}
use Rattle.dos_vtoc.specs.Vtoc.{link_of}
use Rattle.dos_catalog.specs.declared.entry.Entry.{Entry}
use Rattle.dos_tslist.specs.Pointers.{pointer_of, pair_of}

-- the pointer of a file's entry, to its first list
abbrev pub entry_pointer : Entry → Option (ℕ × ℕ)
entry_pointer entry = pointer_of entry.bytes 0

-- a pointer to a track past 34 or a sector past 15 is wild
abbrev pub is_wild : Option (ℕ × ℕ) → Bool
is_wild None = false
is_wild (Some pointer) = nat_lt 34 pointer.0 || nat_lt 15 pointer.1

-- the place that a pointer names: none and a wild one name no place
abbrev pub place_named : Option (ℕ × ℕ) → Option ℕ
place_named None = None
place_named (Some pointer) = if nat_lt 34 pointer.0 || nat_lt 15 pointer.1 then None
    else Some (16 * pointer.0 + pointer.1)

-- List 0 is where the entry points, and list n + 1 where the link of list n leads.
abbrev pub ListAt : List (List ℕ) → Option (ℕ × ℕ) → ℕ → ℕ → Type 0
ListAt store first zero place = place_named first ≡ Some place
ListAt store first (suc number) place =
    (list : ℕ) × ListAt store first number list × (place_named (link_of (unit_at store list)) ≡ Some place)

-- Unit 122 n + i of the body is where pair i of list n leads.
abbrev pub BodyAt : List (List ℕ) → Option (ℕ × ℕ) → ℕ → ℕ → Type 0
BodyAt store first number place =
    (list : ℕ) × ListAt store first (number / 122) list
    × (place_named (pair_of (unit_at store list) (number % 122)) ≡ Some place)

abbrev pub PlacedAt : List (List ℕ) → Option (ℕ × ℕ) → PartKind → ℕ → ℕ → Type 0
PlacedAt store first AList number place = ListAt store first number place
PlacedAt store first Body number place = BodyAt store first number place
PlacedAt store first kind number place = ⊥

-- the parts of a file whose entry has this pointer
abbrev pub InFile : List (List ℕ) → ℕ → Option (ℕ × ℕ) → Part → Type 0
InFile store file first part = (part.file ≡ file) × PlacedAt store first part.kind part.number part.place

-- the order of a file's parts: list 0, the units that its pairs name, list 1, and so on
abbrev pub rank_of : PartKind → ℕ → ℕ
rank_of AList number = 123 * number
rank_of kind number = 123 * (number / 122) + 1 + number % 122

abbrev pub rank : Part → ℕ
rank part = rank_of part.kind part.number

-- the parts of a file, in order
pub record IsPartsOf (store : List (List ℕ)) (file : ℕ) (first : Option (ℕ × ℕ)) (parts : List Part) : Type 0 where
  pub members : (part : Part) → Contains parts part ↔ InFile store file first part
  pub ordered : AllPairs (λ part later. rank part < rank later) parts

-- a file's entry and its lists have no wild pointer
pub record HasNoWild (store : List (List ℕ)) (first : Option (ℕ × ℕ)) : Type 0 where
  pub entry : is_wild first ≡ false
  pub links : (number list : ℕ) → ListAt store first number list → is_wild (link_of (unit_at store list)) ≡ false
  pub pairs : (number list pair : ℕ) → ListAt store first number list → pair < 122
      → is_wild (pair_of (unit_at store list) pair) ≡ false

-- A fault of a file: a wild pointer in the entry or in a list, or two parts at one place.
abbrev pub FileFaultAt : List (List ℕ) → ℕ → Option (ℕ × ℕ) → ℕ → Fault → Type 0
FileFaultAt store file first entry (OutOfRange place) =
    ((place ≡ entry) × (is_wild first ≡ true))
    ⊎ ((number : ℕ) × ListAt store first number place
    × ((is_wild (link_of (unit_at store place)) ≡ true)
    ⊎ ((pair : ℕ) × (pair < 122) × (is_wild (pair_of (unit_at store place) pair) ≡ true))))
FileFaultAt store file first entry (Shared place) =
    (part : Part) × (other : Part) × InFile store file first part × InFile store file first other × (part.place ≡ place)
    × (other.place ≡ place) × (part ≢ other)
FileFaultAt store file first entry fault = ⊥
