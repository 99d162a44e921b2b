use Rattle.std.proofs.Common.{◌≡◌, length}
use Rattle.vol_format.specs.Ordered.{AreNumbers}
use Rattle.vol_format.proofs.order.numbers_of.Given as goal

abbrev pub invariant-loop-number : goal.invariant-loop-number
invariant-loop-number g l = record {
  size : length l.numbers.items ≡ l.places;
  named : AreNumbers l.order l.number l.numbers.items;
}
