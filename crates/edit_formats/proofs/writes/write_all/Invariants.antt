use Rattle.std.proofs.Common.{map}
use Rattle.edit_formats.specs.Prepared.{write_of}
use Rattle.edit_formats.proofs.Making.{HasMade}
use Rattle.edit_formats.proofs.writes.write_all.Given as goal

abbrev pub invariant-loop-write : goal.invariant-loop-write
invariant-loop-write g l = HasMade (map write_of l.writes) l.write-index (g.D.Device.state l.fn.device) (g.D.Device.state l.device)
