use Rattle.std.proofs.Common.{◌≡◌, ◌+◌, ◌<◌, arith, ◌∙◌, map, count_ones, w8}
use lib.Lanes.{chunk, sum_l}
use Rattle.std.proofs.lemmas.Simd.{Each1-weaker, sum_fits, fold-sum}
use Rattle.pro_bitmap.proofs.Lanes.{few_ones, sum_small, sum_is}
use Rattle.pro_bitmap.proofs.count.free_in_group.Goals as goal

pub overflow_cast-result : goal.overflow_cast-result
overflow_cast-result c = Each1-weaker _ _ (λ n le. record { fits = omega (arith, le) }) _ (few_ones c.args.unit.now c.args.at c.requires (λ k. (c.type_inv.unit k).fits))

pub overflow_add-result : goal.overflow_add-result
overflow_add-result c = sum_fits w8 0 _ (omega (arith, sum_small c.args.unit.now c.args.at c.requires (λ k. (c.type_inv.unit k).fits)))

pub returns : goal.returns
returns c = fold-sum 0 (map (λ n. n) (map count_ones (chunk c.args.at 16 c.args.unit.now)))
    ∙ omega (arith, sum_is c.args.unit.now c.args.at c.requires (λ k. (c.type_inv.unit k).fits))
