use Rattle.std.proofs.Common.{◌≡◌, ◌++◌, ◌-◌}
use Rattle.edit_formats.specs.Parts.{bodies}
use Rattle.edit_formats.proofs.taking.take_bodies.Given as goal

abbrev pub invariant-loop-number : goal.invariant-loop-number
invariant-loop-number g l = l.parts.items ≡ l.fn.parts.items ++ bodies l.stored l.first (l.number - l.first)
