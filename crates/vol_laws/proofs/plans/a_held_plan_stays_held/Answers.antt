use Rattle.vol_laws.proofs.Keeping.{held_after}
use Rattle.vol_laws.proofs.plans.a_held_plan_stays_held.Goals as goal

pub returns : goal.returns
returns g c =
    let format = c.args.format.now in
    let movable = g.met.F.WritableFormat.movable format in
    λ directory old new planned accepted lost rest held.
    held_after (g.F.Format.meaning format) directory (movable.described old directory accepted.described) old new planned lost rest held
