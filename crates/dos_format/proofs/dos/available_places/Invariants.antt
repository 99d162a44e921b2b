use Rattle.std.proofs.Common.{◌≡◌}
use Rattle.dos_format.specs.Dos.{first_available}
use Rattle.dos_format.proofs.dos.available_places.Given as goal

abbrev pub invariant-loop-number : goal.invariant-loop-number
invariant-loop-number g l = l.available.items ≡ first_available l.data_disk l.reserved l.number
