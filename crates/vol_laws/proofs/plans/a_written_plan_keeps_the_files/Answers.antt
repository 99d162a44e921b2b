use Rattle.vol_laws.proofs.Keeping.{written_kept, still_lost, plan_held}
use Rattle.vol_laws.proofs.plans.a_written_plan_keeps_the_files.Goals as goal

pub returns-clause-keeps : goal.returns-clause-keeps
returns-clause-keeps g c =
    let format = c.args.format.now in
    λ directory store planned accepted lost.
    written_kept (g.F.Format.meaning format) (g.met.F.Format.readable format) (g.met.F.WritableFormat.movable format) directory store accepted planned lost

pub returns-clause-lost : goal.returns-clause-lost
returns-clause-lost g c =
    let format = c.args.format.now in
    λ directory store planned accepted lost.
    still_lost (g.F.Format.meaning format) (g.met.F.Format.readable format) (g.met.F.WritableFormat.movable format) directory store accepted planned lost

pub returns-clause-held : goal.returns-clause-held
returns-clause-held g c =
    let format = c.args.format.now in
    λ directory store planned accepted lost once.
    plan_held (g.F.Format.meaning format) (g.met.F.Format.readable format) (g.met.F.WritableFormat.movable format) directory store accepted planned lost once
