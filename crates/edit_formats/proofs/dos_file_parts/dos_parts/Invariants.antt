use Rattle.std.proofs.Common.{◌≡◌}
use Rattle.std.specs.Prelude.{flat_map}
use Rattle.std.specs.List.{range_with_len}
use Rattle.edit_formats.specs.Parts.{list_with_bodies}
use Rattle.edit_formats.proofs.dos_file_parts.dos_parts.Given as goal

abbrev pub invariant-loop-number : goal.invariant-loop-number
invariant-loop-number g l = l.parts.items ≡ flat_map (list_with_bodies l.stored) (range_with_len 0 l.number)
