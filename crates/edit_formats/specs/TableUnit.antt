-- The block of an index or a master index of a new file (ProDOS 8 Technical Reference Manual, Appendix B).
use Rattle.std.specs.Prelude.{◌≡◌, ◌≢◌, ◌⊎◌, ◌<◌, ℕ, ◌+◌, ◌*◌, List, length, slice_index}
use Rattle.a2_device.specs.declared.part.PartKind.{PartKind}
use Rattle.a2_device.specs.declared.part.PartKind.TheVariants.{Master, Index, Body}
use Rattle.pro_tree.specs.Pointers.{pointer_of}
use Rattle.vol_laws.specs.Built.{Planned, unit_of}
use Rattle.edit_formats.specs.declared.new_part.NewPart.{NewPart}
use Rattle.edit_formats.specs.Order.{part_at}
use Rattle.edit_formats.specs.Parts.{new_part}

-- A pointer names a part: it is the number of the part's block, or 0 where the file has no such part.
abbrev pub PointsTo : List NewPart → List ℕ → NewPart → List ℕ → ℕ → Type 0
PointsTo parts places part unit i =
    ((k : ℕ) × (k < length parts) × (part_at parts k ≡ part) × (pointer_of unit i ≡ slice_index places k))
    ⊎ (((k : ℕ) → k < length parts → part_at parts k ≢ part) × (pointer_of unit i ≡ 0))

-- a block of 256 pointers that name the parts of a kind from a number on
pub record IsTableUnit (parts : List NewPart) (places : List ℕ) (child : PartKind) (first : ℕ)
    (unit : List ℕ) : Type 0 where
  pub size : length unit ≡ 512
  pub pointers : (i : ℕ) → i < 256 → PointsTo parts places (new_part child (first + i)) unit i

-- Each index of a plan has a block that names 256 units of the body, and its master index one that names the indexes. A
-- file has at most 128 of these, so the other pointers are 0.
pub record HasTableUnits (parts : List NewPart) (places : List ℕ) (planned : List Planned) : Type 0 where
  pub indexes : (k : ℕ) → k < length parts → (part_at parts k).kind ≡ Index
      → IsTableUnit parts places Body (256 * (part_at parts k).number) (unit_of planned k)
  pub master : (k : ℕ) → k < length parts → (part_at parts k).kind ≡ Master
      → IsTableUnit parts places Index 0 (unit_of planned k)
