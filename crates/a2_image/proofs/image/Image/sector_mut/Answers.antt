use Rattle.std.proofs.Common.{refl, sym, ◌∙◌, ap, arith, Some}
use Rattle.std.proofs.lemmas.List.{nil_from_length}
use Rattle.a2_image.proofs.LentLemmas.{view_left, begins, ends, sector_lent, nothing_lent}
use Rattle.a2_image.proofs.image.Image.sector_mut.Goals as goal

pub returns : goal.returns
returns g c =
    let image = c.args.self.now in
    let order = c.self.inside.order in
    let bytes = c.self.inside.bytes.items in
    let fields = c.self.inside.fields.items in
    let range = c.lent_range-start.result in
    let of = c.lent_range-start.ensures.range in (
      (refl, λ w. view_left image order bytes fields c.self.view_is c.self.invariant c.args.track c.args.sector range of w c.self.inside.bytes.len c.self.inside.bytes.ok.0),
      record {
        writes_back = tt;
        content = λ can. sector_lent image order bytes fields c.self.view_is c.self.invariant c.args.track c.args.sector range of can
            ∙ ap Some (sym c.slice_mut.ensures.value);
        long = λ can. omega (
          arith,
          c.slice_mut.ensures.len,
          begins image order bytes fields c.self.view_is c.self.invariant c.args.track c.args.sector range of can,
          ends image order bytes fields c.self.view_is c.self.invariant c.args.track c.args.sector range of can,
        );
        none = λ cannot. nil_from_length c.slice_mut.result.now (omega (
          arith,
          c.slice_mut.ensures.len,
          nothing_lent image order bytes fields c.self.view_is c.self.invariant c.args.track c.args.sector range of cannot,
        ));
      },
    )
