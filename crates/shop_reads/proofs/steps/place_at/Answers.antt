use Rattle.std.proofs.Common.{◌∙◌, get_or, sym}
use Rattle.std.proofs.lemmas.Option.{get_or_from_slice_get, none-some, slice_get-get_or}
use Rattle.shop_reads.proofs.steps.place_at.Goals as goal

pub returns : goal.returns
returns g c = sym (get_or_from_slice_get (g.F.Format.directory c.args.format.now c.args.volume.now).available c.args.number c.in-Some.place 0 (sym c.in-Some.ensures))

pub unreachable-requires : goal.unreachable-requires
unreachable-requires g c =
    let available = (g.F.Format.directory c.args.format.now c.args.volume.now).available in
    none-some (get_or available c.args.number 0) (c.in-None.ensures ∙ slice_get-get_or available c.args.number 0 c.requires)
