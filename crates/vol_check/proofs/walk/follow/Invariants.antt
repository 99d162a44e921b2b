-- what is noted so far, and then what is left, is all
use Rattle.std.proofs.Common.{◌≡◌}
use Rattle.vol_check.specs.Marks.{KeepsMarks}
use Rattle.vol_check.specs.Walk.{lists, followed}
use Rattle.vol_check.proofs.walk.follow.Given as goal

abbrev pub invariant-loop-pointer : goal.invariant-loop-pointer
invariant-loop-pointer g l =
    let format = g.F.Format.meaning l.format in
    let links = format.child (g.F.Format.directory l.format l.volume).places l.part l.unit in
    record {
      walk : followed links l.part.place l.pointer (lists l.walk) ≡ followed links l.part.place (format.pointers l.part) (lists l.fn.walk);
      marks : KeepsMarks (lists l.fn.walk) (lists l.walk);
    }
