use Rattle.vol_check.proofs.Index.{index_in-from_slice_get}
use Rattle.vol_check.proofs.standing.number_of.Goals as goal

pub returns : goal.returns
returns g c =
    index_in-from_slice_get (g.F.Format.directory c.args.format.now c.args.volume.now).available c.in-Some.number c.args.place
    (g.met.F.Format.rooted c.args.format.now c.args.volume.now).available_once c.in-Some.ensures.some
