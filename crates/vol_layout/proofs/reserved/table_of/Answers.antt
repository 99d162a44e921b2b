use Rattle.std.proofs.Common.{◌<◌, subst, arith, ◌∙◌}
use Rattle.std.proofs.lemmas.List.{length-set, take_all}
use Rattle.std.proofs.lemmas.List.Elements.{All-get_or}
use Rattle.vol_layout.specs.Reserved.{HasPlaces}
use Rattle.vol_layout.proofs.Tables.{table_more}
use Rattle.vol_layout.proofs.reserved.table_of.Goals as goal

pub loop-place-preserved : goal.loop-place-preserved
loop-place-preserved g c =
    let fits = All-get_or (λ p. p < c.args.count) c.args.places.now c.loop-place.place-index 0 c.loop-place-test.true c.requires in (
      length-set _ _ _ ∙ c.loop-place.invariant.0,
      table_more c.loop-place.table.items c.args.places.now c.loop-place.place-index c.loop-place-test.true (omega (arith, fits, c.loop-place.invariant.0))
          c.loop-place.invariant.1,
    )

pub returns : goal.returns
returns g c = subst (HasPlaces c.loop-place.table.items) (take_all c.loop-place.place-index c.args.places.now (omega (arith, c.loop-place-test.false))) c.loop-place.invariant.1
