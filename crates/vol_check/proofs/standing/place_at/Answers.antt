use Rattle.std.proofs.lemmas.Option.{slice_get_within, get_or_from_slice_get}
use Rattle.std.proofs.Common.{sym, ◌∙◌}
use Rattle.vol_check.proofs.standing.place_at.Goals as goal

pub returns-clause-inside : goal.returns-clause-inside
returns-clause-inside g c =
    let directory = g.F.Format.directory c.args.format.now c.args.volume.now in
    let of = g.met.F.Format.rooted c.args.format.now c.args.volume.now in
    let at = sym c.available.ensures ∙ c.in-Some.is in
    ((of.available_of c.in-Some.place).0 (
      c.args.number,
      slice_get_within directory.available c.args.number c.in-Some.place at,
      get_or_from_slice_get directory.available c.args.number c.in-Some.place c.in-Some.place at,
    )).0
