use Rattle.std.proofs.Common.{◌≡◌, ◌+◌, ◌<◌, arith, ap, sym, refl, ◌∙◌, map, count_ones, bit_and, w8, get_or, ℕ}
use lib.Lanes.{zip2, chunk, sum_l}
use Rattle.std.proofs.lemmas.Simd.{Each1-weaker, sum_fits, fold-sum}
use Rattle.dos_vtoc.proofs.Lanes.{used_bytes, few_ones, sum_small, sum_is}
use Rattle.dos_vtoc.proofs.count.free_in_group.Goals as goal

pub overflow_cast-result : goal.overflow_cast-result
overflow_cast-result c = Each1-weaker _ _ (λ n le. record { fits = omega (arith, le) }) _ (few_ones c.args.vtoc.now c.args.at c.requires (λ k. (c.type_inv.vtoc k).fits))

pub overflow_add-result : goal.overflow_add-result
overflow_add-result c = sum_fits w8 0 _ (omega (arith, sum_small c.args.vtoc.now c.args.at c.requires (λ k. (c.type_inv.vtoc k).fits)))

pub returns : goal.returns
returns c = fold-sum 0 (map (λ n. n) (map count_ones (zip2 bit_and (chunk c.args.at 16 c.args.vtoc.now) (used_bytes 4))))
    ∙ omega (arith, sum_is c.args.vtoc.now c.args.at c.requires (λ k. (c.type_inv.vtoc k).fits))
