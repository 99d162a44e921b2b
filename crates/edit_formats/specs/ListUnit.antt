-- The unit of a track/sector list of a new file (Beneath Apple DOS, chapter 4).
use Rattle.std.specs.Prelude.{◌≡◌, ◌≢◌, ◌⊎◌, ◌<◌, ◌≤◌, ℕ, ◌+◌, ◌*◌, ◌/◌, ◌%◌, List, length, slice_index}
use Rattle.a2_device.specs.declared.part.PartKind.TheVariants.{List as AList, Body}
use Rattle.dos_tslist.specs.Pointers.{link_offset, pair_offset}
use Rattle.dos_format.specs.Plan.{NamesAt}
use Rattle.vol_laws.specs.Built.{Planned, unit_of}
use Rattle.edit_formats.specs.declared.new_part.NewPart.{NewPart}
use Rattle.edit_formats.specs.Order.{part_at}
use Rattle.edit_formats.specs.Parts.{new_part}

-- A part is named at a byte of a unit: the track and the sector of its place stand there, or 00 00 where the file has
-- no such part.
abbrev pub NamesPart : List NewPart → List ℕ → NewPart → List ℕ → ℕ → Type 0
NamesPart parts places part unit at =
    ((k : ℕ) × (k < length parts) × (part_at parts k ≡ part) × NamesAt unit at (slice_index places k))
    ⊎ (((k : ℕ) → k < length parts → part_at parts k ≢ part) × NamesAt unit at 0)

-- the bytes of a list that have no meaning
abbrev pub IsUnused : ℕ → Type 0
IsUnused byte = (byte ≡ 0x00) ⊎ (byte ≡ 0x03) ⊎ (byte ≡ 0x04) ⊎ ((0x07 ≤ byte) × (byte < 0x0c))

-- The unit of the list of a number: the link to the next list, the number of its first unit of the body with the low
-- byte first, and the pairs, each naming one unit of the body. All other bytes are 00.
pub record IsListUnit (parts : List NewPart) (places : List ℕ) (number : ℕ) (unit : List ℕ) : Type 0 where
  pub size : length unit ≡ 256
  pub link : NamesPart parts places (new_part AList (number + 1)) unit link_offset
  pub first : (slice_index unit 0x05 ≡ 122 * number % 256) × (slice_index unit 0x06 ≡ 122 * number / 256)
  pub pairs : (i : ℕ) → i < 122 → NamesPart parts places (new_part Body (122 * number + i)) unit (pair_offset i)
  pub unused : (byte : ℕ) → IsUnused byte → slice_index unit byte ≡ 0

-- each list of a plan has its unit
abbrev pub HasListUnits : List NewPart → List ℕ → List Planned → Type 0
HasListUnits parts places planned =
    (k : ℕ) → k < length parts → (part_at parts k).kind ≡ AList
    → IsListUnit parts places (part_at parts k).number (unit_of planned k)
