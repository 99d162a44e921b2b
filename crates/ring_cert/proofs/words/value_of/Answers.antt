use Rattle.std.proofs.Common.{◌≡◌, ◌-◌, get_or, arith}
use Rattle.ring_cert.proofs.Spelling.{value_fits, value_more}
use Rattle.ring_cert.proofs.words.value_of.Goals as goal

pub overflow_mul-value : goal.overflow_mul-value
overflow_mul-value c =
    omega (arith, value_fits c.args.digits.now c.loop-digit.digit-index c.requires.digits c.requires.few (omega arith), c.loop-digit.invariant)

pub overflow_add-value : goal.overflow_add-value
overflow_add-value c =
    let digit = c.requires.digits c.loop-digit.digit-index c.loop-digit-test.true in
    omega (arith, value_fits c.args.digits.now c.loop-digit.digit-index c.requires.digits c.requires.few (omega arith), c.loop-digit.invariant, c.from.ensures, digit.1)

pub loop-digit-preserved : goal.loop-digit-preserved
loop-digit-preserved c =
    let more = value_more c.args.digits.now c.loop-digit.digit-index c.requires.digits c.loop-digit-test.true in
    let digit : c.from.result ≡ get_or c.args.digits.now c.loop-digit.digit-index 0 - 48 = c.from.ensures in
    let before = c.loop-digit.invariant in
    omega arith
