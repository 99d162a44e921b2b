use Rattle.std.proofs.Common.{sym, ◌∙◌}
use Rattle.vol_mover.proofs.Numbers.{get_some, none_within, place_inside}
use Rattle.vol_mover.proofs.session.Session.place.Goals as goal

pub returns-clause-inside : goal.returns-clause-inside
returns-clause-inside g c =
    let self = c.args.self.now in
    let opening = g.F.Format.directory self.format.now self.volume in
    place_inside (g.F.Format.meaning self.format.now) opening (g.met.F.Format.rooted self.format.now self.volume) c.args.number c.in-Some.place c.requires
    (get_some opening.available c.args.number c.in-Some.place (sym c.available.ensures ∙ c.in-Some.is))

pub unreachable-requires : goal.unreachable-requires
unreachable-requires g c =
    none_within (g.F.Format.directory c.args.self.now.format.now c.args.self.now.volume).available c.args.number c.requires (sym c.available.ensures ∙ c.in-None.is)

pub returns-clause-is : goal.returns-clause-is
returns-clause-is g c =
    get_some (g.F.Format.directory c.args.self.now.format.now c.args.self.now.volume).available c.args.number c.in-Some.place (sym c.available.ensures ∙ c.in-Some.is)
