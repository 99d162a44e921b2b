use Rattle.std.proofs.Common.{◌≡◌, ◌∙◌, ◌+◌, ◌-◌, arith}
use Rattle.vol_check.specs.Walk.{lists}
use Rattle.vol_check.proofs.Marks.{followed_before, marks_then}
use Rattle.vol_check.proofs.walk.follow.Goals as goal

pub loop-pointer-preserved : goal.loop-pointer-preserved
loop-pointer-preserved g c =
    let links = (g.F.Format.meaning c.args.format.now).child (g.F.Format.directory c.args.format.now c.args.volume.now).places c.args.part c.args.unit.now in
    let before = c.loop-pointer.pointer - 1 in
    let next : before + 1 ≡ c.loop-pointer.pointer = omega (arith, c.loop-pointer-test.true) in
    record {
      walk = followed_before links c.args.part.place before c.loop-pointer.pointer c.child.result (lists c.loop-pointer.walk) (lists c.note.new.walk) next
          c.child.ensures c.in_ok-note.ensures.walk ∙ c.loop-pointer.invariant.walk;
      marks = marks_then (lists c.args.walk.now) (lists c.loop-pointer.walk) (lists c.note.new.walk) c.loop-pointer.invariant.marks c.note.ensures.marks;
    }

pub returns-in_err-note-clause-marks : goal.returns-in_err-note-clause-marks
returns-in_err-note-clause-marks g c =
    marks_then (lists c.args.walk.now) (lists c.loop-pointer.walk) (lists c.note.new.walk) c.loop-pointer.invariant.marks c.note.ensures.marks
