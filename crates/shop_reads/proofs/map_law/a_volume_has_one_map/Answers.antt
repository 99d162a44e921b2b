use Rattle.std.proofs.Common.{◌∙◌, sym, ap}
use Rattle.shop_reads.specs.MapText.{map_text}
use Rattle.shop_reads.proofs.OneMap.{one_map}
use Rattle.shop_reads.proofs.map_law.a_volume_has_one_map.Goals as goal

pub returns : goal.returns
returns g c = λ store text other is is'.
    let format = c.args.format.now in
    let plain = g.F.ShownFormat.unreserved format in
    let form = g.F.ShownFormat.form format in
    let same = one_map (g.F.Format.meaning format) (g.F.Format.meaning plain) (g.met.F.Format.readable format) (g.met.F.Format.readable plain)
    (λ store directory described. (g.met.F.WritableFormat.movable format).described store directory described)
    store is.parts is'.parts is.places is'.places is.of_volume is'.of_volume in
    is.is ∙ ap (λ parts. map_text form parts is.places) same.0 ∙ ap (λ places. map_text form is'.parts places) same.1 ∙ sym is'.is
