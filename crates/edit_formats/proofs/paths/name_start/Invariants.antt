use Rattle.std.proofs.Common.{◌≡◌}
use Rattle.std.specs.Prelude.{take}
use Rattle.edit_formats.specs.ProSaves.{name_start}
use Rattle.edit_formats.proofs.paths.name_start.Given as goal

abbrev pub invariant-loop-at : goal.invariant-loop-at
invariant-loop-at l = l.start ≡ name_start (take l.at l.path)
