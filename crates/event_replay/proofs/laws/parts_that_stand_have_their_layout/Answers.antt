use Rattle.event_replay.proofs.Layouts.{stands_as}
use Rattle.event_replay.proofs.laws.parts_that_stand_have_their_layout.Goals as goal

pub returns : goal.returns
returns g c =
    let format = c.args.format.now in
    λ directory store parts at accepted stands.
    let movable = g.met.F.WritableFormat.movable format in
    stands_as (g.F.Format.meaning format) movable directory (movable.described store directory accepted.described) store parts at stands accepted
