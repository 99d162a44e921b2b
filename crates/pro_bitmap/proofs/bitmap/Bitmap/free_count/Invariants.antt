use Rattle.std.proofs.Common.{◌≡◌, ◌<◌, ◌-◌, ◌*◌, ◌^◌}
use Rattle.pro_bitmap.proofs.Counting.{free_before}
use Rattle.pro_bitmap.proofs.bitmap.Bitmap.free_count.Given as goal

abbrev pub invariant-loop-unit : goal.invariant-loop-unit
invariant-loop-unit g l = record {
  small : l.self.total < 2 ^ 32;
  left : l.left ≡ l.self.total - 4096 * l.unit-index;
  free : l.free ≡ free_before l.self (l.self.total - l.left);
}
