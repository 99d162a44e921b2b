use Rattle.std.proofs.Common.{◌≡◌, ◌∙◌, ◌+◌, ◌*◌, ◌<◌, Bool, true, false, ap, sym, arith, refl}
use Rattle.std.specs.Prelude.{nat_lt, ◌&&◌}
use Rattle.std.proofs.lemmas.Bool.Decides.{nat_tests}
use Rattle.new_volumes.specs.ProUnits.{is_free_block}
use Rattle.new_volumes.proofs.Bits.{none_free}
use Rattle.new_volumes.proofs.pro.map_block.Goals as goal

pub loop-bit-init : goal.loop-bit-init
loop-bit-init c = (
  refl,
  λ k low.
      let test : nat_lt k 0 ≡ false = grind (arith, nat_tests) in
      none_free k low ∙ sym (ap (λ (b : Bool). b && is_free_block c.args.blocks (4096 * c.args.number + k)) test),
)

pub returns : goal.returns
returns c =
    let past = c.loop-bit-test.false in
    record {
      size = c.loop-bit.invariant.0;
      bits = λ k low.
          let below : k < c.loop-bit.bit = omega (arith, past, low) in
          let test : nat_lt k c.loop-bit.bit ≡ true = grind (arith, nat_tests) in
          c.loop-bit.invariant.1 k low ∙ ap (λ (b : Bool). b && is_free_block c.args.blocks (4096 * c.args.number + k)) test;
    }
