use Rattle.vol_check.specs.Walk.{lists}
use Rattle.vol_check.proofs.Marks.{marks_then}
use Rattle.vol_check.proofs.walk.visit.Goals as goal

pub returns-in_ok-follow-clause-marks : goal.returns-in_ok-follow-clause-marks
returns-in_ok-follow-clause-marks g c =
    marks_then (lists c.args.walk.now) (lists c.admit.new.walk) (lists c.follow.new.walk) c.admit.ensures.marks c.follow.ensures.marks

pub returns-in_err-follow-clause-marks : goal.returns-in_err-follow-clause-marks
returns-in_err-follow-clause-marks g c =
    marks_then (lists c.args.walk.now) (lists c.admit.new.walk) (lists c.follow.new.walk) c.admit.ensures.marks c.follow.ensures.marks
