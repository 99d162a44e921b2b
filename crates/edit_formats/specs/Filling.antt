-- What is known of a unit while its pointers are written.
use Rattle.std.specs.Prelude.{◌≡◌, ◌≢◌, ◌⊎◌, ◌<◌, ◌≤◌, ℕ, ◌+◌, ◌*◌, List, length, slice_index}
use Rattle.a2_device.specs.declared.part.PartKind.{PartKind}
use Rattle.a2_device.specs.declared.part.PartKind.TheVariants.{Body}
use Rattle.dos_tslist.specs.Pointers.{pair_offset}
use Rattle.dos_format.specs.Plan.{NamesAt}
use Rattle.pro_tree.specs.Pointers.{pointer_of}
use Rattle.edit_formats.specs.declared.new_part.NewPart.{NewPart}
use Rattle.edit_formats.specs.Order.{part_at}
use Rattle.edit_formats.specs.Parts.{new_part}

-- the units of the body behind a table end before a number
pub record IsEnd (parts : List NewPart) (at end : ℕ) : Type 0 where
  pub behind : at < end
  pub within : end ≤ length parts
  pub bodies : (k : ℕ) → at < k → k < end → (part_at parts k).kind ≡ Body
  pub next : end < length parts → (part_at parts end).kind ≢ Body

-- of the parts between two numbers one is this part
abbrev pub Between : List NewPart → ℕ → ℕ → NewPart → ℕ → Type 0
Between parts at upto part k = (at < k) × (k < upto) × (part_at parts k ≡ part)

-- the unit of a list with the pairs of the parts between two numbers
pub record HasPairs (parts : List NewPart) (places : List ℕ) (number at upto : ℕ) (unit : List ℕ) : Type 0 where
  pub size : length unit ≡ 256
  pub pairs : (i : ℕ) → i < 122
      → ((k : ℕ) × Between parts at upto (new_part Body (122 * number + i)) k
      × NamesAt unit (pair_offset i) (slice_index places k))
      ⊎ (((k : ℕ) → Between parts at upto (new_part Body (122 * number + i)) k → ⊥) × NamesAt unit (pair_offset i) 0)
  pub rest : (byte : ℕ) → byte < 0x0c → slice_index unit byte ≡ 0

-- a block of pointers with those of the parts between two numbers
pub record HasPointers (parts : List NewPart) (places : List ℕ) (child : PartKind) (first at upto : ℕ)
    (unit : List ℕ) : Type 0 where
  pub size : length unit ≡ 512
  pub pointers : (i : ℕ) → i < 256
      → ((k : ℕ) × Between parts at upto (new_part child (first + i)) k × (pointer_of unit i ≡ slice_index places k))
      ⊎ (((k : ℕ) → Between parts at upto (new_part child (first + i)) k → ⊥) × (pointer_of unit i ≡ 0))
