use Rattle.vol_check.proofs.Index.{found_distinct, found_in_range}
use Rattle.vol_check.proofs.standing.layout_of.Goals as goal

pub layout_at-requires-clause-distinct : goal.layout_at-requires-clause-distinct
layout_at-requires-clause-distinct g c =
    found_distinct (g.F.Format.meaning c.args.format.now) (g.F.Format.directory c.args.format.now c.args.volume.now)
    (g.met.F.Format.rooted c.args.format.now c.args.volume.now) c.args.parts.now c.requires.places c.requires.outside
    c.in_ok-at.at.items c.in_ok-at.ensures c.requires.apart

pub layout_at-requires-clause-in_range : goal.layout_at-requires-clause-in_range
layout_at-requires-clause-in_range g c =
    found_in_range (g.F.Format.meaning c.args.format.now) (g.F.Format.directory c.args.format.now c.args.volume.now)
    (g.met.F.Format.rooted c.args.format.now c.args.volume.now) c.args.parts.now c.requires.places c.requires.outside
    c.in_ok-at.at.items c.count_available.result c.in_ok-at.ensures c.count_available.ensures
