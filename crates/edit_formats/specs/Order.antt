-- The order of the parts of a new file.
use Rattle.std.specs.Prelude.{◌≡◌, ◌⊎◌, ◌↔◌, ◌<◌, ℕ, ◌+◌, ◌/◌, true, Bool, List, length, slice_index_or, Contains}
use Rattle.a2_device.specs.declared.part.PartKind.TheVariants.{List as AList, Master, Index, Body}
use Rattle.edit_formats.specs.declared.new_part.NewPart.{NewPart}
use Rattle.edit_formats.specs.Parts.{is_stored, new_part}

abbrev pub no_part : NewPart
no_part = new_part AList 0

-- number k of some parts
abbrev pub part_at : List NewPart → ℕ → NewPart
part_at parts k = slice_index_or parts k no_part

-- DOS 3.3: a list names the units of its 122 pairs, and the next list
abbrev pub IsOfList : NewPart → NewPart → Type 0
IsOfList table part = (table.kind ≡ AList)
    × (((part.kind ≡ Body) × (part.number / 122 ≡ table.number))
    ⊎ ((part.kind ≡ AList) × (part.number ≡ table.number + 1)))

-- ProDOS: a master index names 128 indexes, an index 256 units of the body
abbrev pub IsOfIndex : NewPart → NewPart → Type 0
IsOfIndex table part =
    ((table.kind ≡ Master) × (part.kind ≡ Index) × (part.number / 128 ≡ table.number))
    ⊎ ((table.kind ≡ Index) × (part.kind ≡ Body) × (part.number / 256 ≡ table.number))

-- Parts in order: of two parts of one kind the earlier has the lower number, so that no two have the same kind and
-- number; and each part but the first stands behind the table that names it, a unit of the body with only such units
-- between.
pub record AreOrdered (Names : NewPart → NewPart → Type 0) (parts : List NewPart) : Type 0 where
  pub some : 0 < length parts
  pub rising : (j k : ℕ) → j < k → k < length parts → (part_at parts j).kind ≡ (part_at parts k).kind
      → (part_at parts j).number < (part_at parts k).number
  pub above : (k : ℕ) → 0 < k → k < length parts
      → (j : ℕ) × (j < k) × Names (part_at parts j) (part_at parts k)
      × ((part_at parts k).kind ≡ Body → (m : ℕ) → j < m → m < k → (part_at parts m).kind ≡ Body)

-- The parts of a DOS 3.3 file: list 0 is the first, and the rest are lists, five at most, and units of the body.
pub record AreDosParts (parts : List NewPart) : Type 0 where
  pub ordered : AreOrdered IsOfList parts
  pub first : part_at parts 0 ≡ new_part AList 0
  pub kinds : (k : ℕ) → k < length parts
      → (((part_at parts k).kind ≡ AList) × ((part_at parts k).number < 5)) ⊎ ((part_at parts k).kind ≡ Body)

-- The parts of a ProDOS file of a storage type: the one unit of a seedling, or an index first, or a master index.
pub record AreProParts (storage : ℕ) (parts : List NewPart) : Type 0 where
  pub ordered : AreOrdered IsOfIndex parts
  pub first : ((storage ≡ 1) × (part_at parts 0 ≡ new_part Body 0) × (length parts ≡ 1))
      ⊎ ((storage ≡ 2) × (part_at parts 0 ≡ new_part Index 0))
      ⊎ ((storage ≡ 3) × (part_at parts 0 ≡ new_part Master 0))
  pub kinds : (k : ℕ) → k < length parts
      → ((part_at parts k).kind ≡ Body) ⊎ ((part_at parts k).kind ≡ Index) ⊎ ((part_at parts k).kind ≡ Master)

-- the units of the body among some parts are those that are stored
abbrev pub HasStored : List Bool → List NewPart → Type 0
HasStored stored parts = (number : ℕ) → Contains parts (new_part Body number) ↔ (is_stored stored number ≡ true)
