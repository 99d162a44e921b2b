use Rattle.std.proofs.Common.{◌-◌, false}
use Rattle.a2_device.specs.Device.{OnlyReads}
use Rattle.edit_formats.specs.Markings.{IsMarking}
use Rattle.edit_formats.proofs.marking.mark_all.Given as goal

abbrev pub invariant-loop-at : goal.invariant-loop-at
invariant-loop-at g l =
    OnlyReads false (g.D.Device.state l.fn.device) (g.D.Device.state l.device)
    × IsMarking (g.F.Format.meaning l.format) l.free (g.F.Format.directory l.format l.volume) l.places (g.D.Device.state l.fn.device) l.fn.writes.items l.from l.writes.items

abbrev pub decreases-loop-at : goal.decreases-loop-at
decreases-loop-at g l = (g.F.Format.directory l.format l.volume).places - l.from
