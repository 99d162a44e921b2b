use Rattle.std.proofs.Common.{◌≡◌}
use Rattle.pro_format.specs.Pro.{first_available}
use Rattle.pro_format.proofs.places.available_places.Given as goal

abbrev pub invariant-loop-place : goal.invariant-loop-place
invariant-loop-place g l = l.available.items ≡ first_available l.system l.place
