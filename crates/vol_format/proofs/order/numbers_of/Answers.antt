use Rattle.std.proofs.Common.{◌<◌, refl, ◌∙◌, length-set, arith}
use Rattle.std.specs.Prelude.{slice_index_or, Some}
use Rattle.vol_format.proofs.Numbers.{one_more}
use Rattle.vol_format.proofs.order.numbers_of.Goals as goal

pub loop-number-preserved : goal.loop-number-preserved
loop-number-preserved g c =
    let now = c.loop-number in
    let place = slice_index_or c.args.order.now now.number 0 in
    let below : place < c.args.places = c.requires.below now.number 0 c.loop-number-test.true in
    record {
      size = length-set now.numbers.items place (Some now.number) ∙ now.invariant.size;
      named = one_more c.args.order.now now.number place now.numbers.items _ c.loop-number-test.true refl (omega (arith, below, now.invariant.size)) refl now.invariant.named;
    }
