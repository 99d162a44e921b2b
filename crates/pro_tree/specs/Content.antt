-- What a move writes into an index, and what of an index is not a pointer to a part.
use Rattle.std.specs.Prelude.{◌<◌, ℕ, ◌%◌, ◌==◌, nat_lt, not, ◌&&◌, if◌then◌else◌, Bool, List, map, slice_index}
use Rattle.std.specs.List.{range_with_len}
use Rattle.a2_device.specs.declared.part.PartKind.{PartKind}
use Rattle.a2_device.specs.declared.part.PartKind.TheVariants.{Master, Index, Body}
use Rattle.pro_tree.specs.Pointers.{pointer_of, with_pointer}

-- pointers can name each block but 0
abbrev pub CanNameBlock : ℕ → ℕ → Type 0
CanNameBlock places block = (0 < block) × (block < places)

abbrev pub names_part : ℕ → ℕ → Bool
names_part places block = not (block == 0) && nat_lt block places

-- an index with one of its 256 pointers to a block
abbrev pub pro_with_pointer : List ℕ → ℕ → ℕ → List ℕ
pro_with_pointer unit i block = if nat_lt i 256 then with_pointer i block unit else unit

-- Byte n of each half belongs to pointer n; whether that is one of the first `width` pointers and names a part.
abbrev pub is_of_part : ℕ → ℕ → List ℕ → ℕ → Bool
is_of_part places width unit at = nat_lt (at % 256) width && names_part places (pointer_of unit (at % 256))

-- an index with its first pointers put to 0 where they name parts
unfoldable pub cleared : ℕ → ℕ → List ℕ → List ℕ
cleared places width unit = map (λ at. if is_of_part places width unit at then 0 else slice_index unit at)
    (range_with_len 0 512)

-- a block of a file with its pointers to parts put to 0
abbrev pub pro_content : ℕ → PartKind → List ℕ → List ℕ
pro_content places Master unit = cleared places 128 unit
pro_content places Index unit = cleared places 256 unit
pro_content places kind unit = unit

-- the pointer that names a part of this kind and number, in the block above it
abbrev pub pro_slot : PartKind → ℕ → ℕ
pro_slot Index number = number % 128
pro_slot Body number = number % 256
pro_slot kind number = 0
