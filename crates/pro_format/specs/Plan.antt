-- A plan of a ProDOS file: its parts, and the blocks built for them. Each index comes after the master index, and each
-- unit of the body after its index (ProDOS 8 Technical Reference Manual, Appendix B).
use Rattle.std.specs.Prelude.{◌≡◌, ◌≢◌, ◌⊎◌, ◌<◌, ℕ, ◌+◌, ◌*◌, ◌/◌, ◌%◌, List, [], ◌∷◌, length, map, slice_index_or}
use Rattle.a2_device.specs.declared.part.Part.{Part}
use Rattle.a2_device.specs.declared.part.PartKind.{PartKind}
use Rattle.a2_device.specs.declared.part.PartKind.TheVariants.{Master, Index, Body}
use Rattle.vol_format.specs.Standing.{no_part}
use Rattle.pro_tree.specs.Content.{CanNameBlock}
use Rattle.pro_tree.specs.Pointers.{pointer_of}
use Rattle.vol_laws.specs.Built.{Planned, part_of, place_of, unit_of}

-- a kind of block with so many pointers, and the kind that they name
abbrev pub IsTable : PartKind → ℕ → PartKind → Type 0
IsTable kind width child = ((kind ≡ Master) × (width ≡ 128) × (child ≡ Index))
    ⊎ ((kind ≡ Index) × (width ≡ 256) × (child ≡ Body))

-- the storage type of a file whose first part is of a kind: a seedling, a sapling or a tree
abbrev pub IsStorageOf : ℕ → PartKind → Type 0
IsStorageOf storage kind = ((storage ≡ 1) × (kind ≡ Body)) ⊎ ((storage ≡ 2) × (kind ≡ Index))
    ⊎ ((storage ≡ 3) × (kind ≡ Master))

-- Pointers can name the places, all distinct. Each pointer of an index or a master index is 0 or names the part of the
-- plan with its number; each part but the first is named by its index, or the master index, before it.
pub record IsProPlan (places file : ℕ) (planned : List Planned) : Type 0 where
  pub some : 0 < length planned
  pub in_file : (k : ℕ) → k < length planned → (part_of planned k).file ≡ file
  pub named : (k : ℕ) → k < length planned → CanNameBlock places (place_of planned k)
  pub once : (j k : ℕ) → j < k → k < length planned → place_of planned j ≢ place_of planned k
  pub kinds : (k : ℕ) → k < length planned
      → ((part_of planned k).kind ≡ Body) ⊎ ((part_of planned k).kind ≡ Index) ⊎ ((part_of planned k).kind ≡ Master)
  pub pointers : (k width i : ℕ) (child : PartKind) → k < length planned → IsTable (part_of planned k).kind width child
      → i < width
      → (pointer_of (unit_of planned k) i ≡ 0)
      ⊎ ((m : ℕ) × (m < length planned) × ((part_of planned m).kind ≡ child)
      × ((part_of planned m).number ≡ width * (part_of planned k).number + i)
      × (pointer_of (unit_of planned k) i ≡ place_of planned m))
  pub above : (k : ℕ) → 0 < k → k < length planned
      → (j width i : ℕ) × (j < k) × IsTable (part_of planned j).kind width (part_of planned k).kind × (i < width)
      × ((part_of planned k).number ≡ width * (part_of planned j).number + i)
      × (pointer_of (unit_of planned j) i ≡ place_of planned k)

-- number k of some parts
abbrev pub part_at : List Part → ℕ → Part
part_at parts k = slice_index_or parts k no_part

-- a part is named by one of the pointers, so many, of a block that name parts of a kind
abbrev pub IsBelow : Part → ℕ → PartKind → Part → Type 0
IsBelow table width child part = (part.kind ≡ child) × (part.number / width ≡ table.number)

-- The parts of a plan without their blocks: each part but the first has its index, or the master index, before it.
pub record ArePlannedParts (places file : ℕ) (parts : List Part) : Type 0 where
  pub some : 0 < length parts
  pub in_file : (k : ℕ) → k < length parts → (part_at parts k).file ≡ file
  pub named : (k : ℕ) → k < length parts → CanNameBlock places (part_at parts k).place
  pub once : (j k : ℕ) → j < k → k < length parts → (part_at parts j).place ≢ (part_at parts k).place
  pub kinds : (k : ℕ) → k < length parts
      → ((part_at parts k).kind ≡ Body) ⊎ ((part_at parts k).kind ≡ Index) ⊎ ((part_at parts k).kind ≡ Master)
  pub above : (k : ℕ) → 0 < k → k < length parts
      → (j width : ℕ) × (j < k) × IsTable (part_at parts j).kind width (part_at parts k).kind
      × ((part_at parts k).number / width ≡ (part_at parts j).number)

-- The block of an index or a master index with the pointers to those of the first parts, so many, that it names: each
-- of them is named by its pointer, and each other pointer is 0.
pub record HasPointers (table : Part) (width : ℕ) (child : PartKind) (parts : List Part) (upto : ℕ)
    (unit : List ℕ) : Type 0 where
  pub pointers : (i : ℕ) → i < width
      → (pointer_of unit i ≡ 0)
      ⊎ ((m : ℕ) × (m < upto) × ((part_at parts m).kind ≡ child) × ((part_at parts m).number ≡ width * table.number + i)
      × (pointer_of unit i ≡ (part_at parts m).place))
  pub each : (m : ℕ) → m < upto → IsBelow table width child (part_at parts m)
      → pointer_of unit ((part_at parts m).number % width) ≡ (part_at parts m).place

-- each index and each master index of a plan has its pointers to all its parts
abbrev pub ArePointed : List Part → List Planned → Type 0
ArePointed parts planned = (k width : ℕ) (child : PartKind) → k < length planned
    → IsTable (part_of planned k).kind width child
    → HasPointers (part_of planned k) width child parts (length parts) (unit_of planned k)

abbrev pub parts_of : List Planned → List Part
parts_of planned = map (λ (plan : Planned). plan.part) planned

-- the plan of a seedling: the one block of its body
abbrev pub seedling_plan : ℕ → ℕ → List ℕ → List Planned
seedling_plan file place unit =
    record { part = record { file = file; kind = Body; number = 0; place = place }; unit = unit } ∷ []
