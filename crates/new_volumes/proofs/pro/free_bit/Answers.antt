use Rattle.std.proofs.Common.{◌∙◌, ◌/◌, ◌<◌, ℕ, length, get_or, set, bit_or, ap, arith}
use Rattle.pro_bitmap.specs.Bitmap.{is_free_in}
use Rattle.new_volumes.proofs.Bits.{with_bit-own, with_bit-others}
use Rattle.new_volumes.proofs.pro.free_bit.Goals as goal

pub returns-clause-own : goal.returns-clause-own
returns-clause-own c =
    let unit = c.args.unit.now in
    let bit = c.args.bit in
    let within : bit / 8 < length unit = omega (arith, c.requires, c.told-unit) in
    ap (λ (n : ℕ). is_free_in (set unit (bit / 8) (bit_or (get_or unit (bit / 8) 0) n)) bit) c.bit_of.ensures ∙ with_bit-own unit bit within

pub returns-clause-others : goal.returns-clause-others
returns-clause-others c = λ other apart.
    let unit = c.args.unit.now in
    let bit = c.args.bit in
    let within : bit / 8 < length unit = omega (arith, c.requires, c.told-unit) in
    ap (λ (n : ℕ). is_free_in (set unit (bit / 8) (bit_or (get_or unit (bit / 8) 0) n)) other) c.bit_of.ensures ∙ with_bit-others unit bit within other apart
