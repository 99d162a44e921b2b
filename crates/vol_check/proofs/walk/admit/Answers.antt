use Rattle.std.proofs.Common.{sym, ◌∙◌}
use Rattle.vol_check.specs.Walk.{lists}
use Rattle.vol_check.proofs.Admitting.{hindered, unhindered}
use Rattle.vol_check.proofs.walk.admit.Goals as goal

pub returns-in-Some-clause-taken : goal.returns-in-Some-clause-taken
returns-in-Some-clause-taken g c =
    sym (hindered (g.F.Format.directory c.args.format.now c.args.volume.now) c.args.part (lists c.args.walk.now) c.in-Some.fault (sym c.hindrance.ensures ∙ c.in-Some.is)).0

pub returns-in-Some-clause-walk : goal.returns-in-Some-clause-walk
returns-in-Some-clause-walk g c =
    c.in_ok-tell.ensures.walk
    ∙ sym (hindered (g.F.Format.directory c.args.format.now c.args.volume.now) c.args.part (lists c.args.walk.now) c.in-Some.fault (sym c.hindrance.ensures ∙ c.in-Some.is)).1

pub returns-clause-taken : goal.returns-clause-taken
returns-clause-taken g c =
    sym (unhindered (g.F.Format.directory c.args.format.now c.args.volume.now) c.args.part (lists c.args.walk.now) (sym c.hindrance.ensures ∙ c.in_default.is)).0

pub returns-clause-walk : goal.returns-clause-walk
returns-clause-walk g c =
    c.in_ok-take_up.ensures.walk
    ∙ sym (unhindered (g.F.Format.directory c.args.format.now c.args.volume.now) c.args.part (lists c.args.walk.now) (sym c.hindrance.ensures ∙ c.in_default.is)).1
