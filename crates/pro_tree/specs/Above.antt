-- Which of the parts of files has the pointer to another.
use Rattle.std.specs.Prelude.{◌≡◌, ◌<◌, ℕ, Bool, true, false, List, slice_index_or}
use Rattle.a2_device.specs.declared.part.Part.{Part}
use Rattle.a2_device.specs.declared.part.PartKind.{PartKind}
use Rattle.a2_device.specs.declared.part.PartKind.TheVariants.{Master, Index, Body}
use Rattle.vol_format.specs.Standing.{no_part}

abbrev pub part_of : List Part → ℕ → Part
part_of parts k = slice_index_or parts k no_part

-- a master index names indexes, and an index units of the body
abbrev pub is_above : PartKind → PartKind → Bool
is_above Master Index = true
is_above Index Body = true
is_above above below = false

-- The nearest part of a kind that names part k, before it and of its file, with parts of that file alone between.
pub record IsAbove (parts : List Part) (k above : ℕ) : Type 0 where
  pub before : above < k
  pub kind : is_above (part_of parts above).kind (part_of parts k).kind ≡ true
  pub file : (part_of parts above).file ≡ (part_of parts k).file
  pub nearest : (between : ℕ) → above < between → between < k
      → ((part_of parts between).file ≡ (part_of parts k).file)
      × (is_above (part_of parts between).kind (part_of parts k).kind ≡ false)
