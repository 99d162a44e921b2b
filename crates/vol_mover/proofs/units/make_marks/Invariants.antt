use Rattle.std.proofs.Common.{◌≡◌, drop}
use Rattle.vol_laws.specs.Marked.{with_marks}
use Rattle.vol_mover.proofs.units.make_marks.Given as goal

abbrev pub invariant-loop-mark : goal.invariant-loop-mark
invariant-loop-mark g l = with_marks (g.F.Format.meaning l.format) l.unit (drop l.mark-index l.marks) ≡ with_marks (g.F.Format.meaning l.format) l.fn.unit l.marks
