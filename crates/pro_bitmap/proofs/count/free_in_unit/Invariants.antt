use Rattle.std.proofs.Common.{◌≡◌, ◌*◌}
use Rattle.pro_bitmap.specs.Bitmap.{free_below}
use Rattle.pro_bitmap.proofs.count.free_in_unit.Given as goal

abbrev pub invariant-loop-group : goal.invariant-loop-group
invariant-loop-group l = l.free ≡ free_below l.unit (128 * l.group)

abbrev pub invariant-loop-number : goal.invariant-loop-number
invariant-loop-number l = l.free ≡ free_below l.unit l.number
