-- Where the parts of a file stand (ProDOS 8 Technical Reference Manual, Appendix B).
use Rattle.std.specs.Prelude.{◌≡◌, ◌⊎◌, ◌<◌, ℕ, ◌/◌, ◌%◌, List, length}
use Rattle.a2_device.specs.Device.{unit_at}
use Rattle.a2_device.specs.declared.part.Part.{Part}
use Rattle.a2_device.specs.declared.part.PartKind.{PartKind}
use Rattle.a2_device.specs.declared.part.PartKind.TheVariants.{List as AList, Master, Index, Body}
use Rattle.vol_format.specs.declared.link.Link.TheVariants.{To}
use Rattle.pro_tree.specs.Pointers.{pointer_of}
use Rattle.pro_tree.specs.Reach.{pro_root, pro_child}
use Rattle.pro_tree.specs.Content.{CanNameBlock}

-- a block number names a place: 0 and one that the volume has not name none
abbrev pub Names : List (List ℕ) → ℕ → ℕ → Type 0
Names store block place = (place ≡ block) × CanNameBlock (length store) block

-- A tree has a master index, at its key pointer.
abbrev pub MasterAt : List (List ℕ) → ℕ → ℕ → ℕ → Type 0
MasterAt store storage key place = (storage ≡ 3) × Names store key place

-- A sapling has index 0, at its key pointer, and a tree index m at pointer m of its master index, for m below 128.
abbrev pub IndexAt : List (List ℕ) → ℕ → ℕ → ℕ → ℕ → Type 0
IndexAt store storage key m place =
    ((storage ≡ 2) × (m ≡ 0) × Names store key place)
    ⊎ ((master : ℕ) × MasterAt store storage key master × (m < 128)
    × Names store (pointer_of (unit_at store master) m) place)

-- A seedling has unit 0 of its body at its key pointer, and the others have unit 256 m + i at pointer i of index m.
abbrev pub BodyAt : List (List ℕ) → ℕ → ℕ → ℕ → ℕ → Type 0
BodyAt store storage key n place =
    ((storage ≡ 1) × (n ≡ 0) × Names store key place)
    ⊎ ((index : ℕ) × IndexAt store storage key (n / 256) index
    × Names store (pointer_of (unit_at store index) (n % 256)) place)

abbrev pub PlacedAt : List (List ℕ) → ℕ → ℕ → PartKind → ℕ → ℕ → Type 0
PlacedAt store storage key Master number place = (number ≡ 0) × MasterAt store storage key place
PlacedAt store storage key Index number place = IndexAt store storage key number place
PlacedAt store storage key Body number place = BodyAt store storage key number place
PlacedAt store storage key AList number place = ⊥

-- the least set with what the key pointer names, and what the blocks of its members name
pub data InFile (store : List (List ℕ)) (file storage key : ℕ) : Part → Type 0 where
  at_key : {part : Part} → pro_root (length store) file storage key ≡ To part → InFile store file storage key part
  at_pointer : {parent part : Part} (i : ℕ) → InFile store file storage key parent
      → pro_child (length store) parent.kind parent.file parent.number (unit_at store parent.place) i ≡ To part
      → InFile store file storage key part
