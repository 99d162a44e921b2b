use Rattle.std.proofs.Common.{◌≡◌, map}
use Rattle.std.specs.List.{range_with_len}
use Rattle.pro_dir.specs.Listed.{directory_of}
use Rattle.pro_format.specs.Pro.{is_fixed}
use Rattle.pro_format.proofs.places.fixed_places.Given as goal

abbrev pub invariant-loop-place : goal.invariant-loop-place
invariant-loop-place g l = l.table.items ≡ map (is_fixed l.reserved (directory_of l.directory)) (range_with_len 0 l.place)
