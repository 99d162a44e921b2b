use Rattle.std.proofs.Common.{◌+◌, arith}
use Rattle.applesoft.proofs.Split.{too_great, value_more}
use Rattle.applesoft.proofs.numbers.number_of.Goals as goal

pub returns-then-number-gt65535 : goal.returns-then-number-gt65535
returns-then-number-gt65535 c =
    too_great c.args.digits.now (c.loop-digit.digit-index + 1)
    (omega (
      arith,
      value_more c.args.digits.now c.loop-digit.digit-index c.loop-digit-test.true c.requires,
      c.loop-digit.invariant.0,
      c.from.ensures,
      c.if-number-gt65535.true,
    ))

pub loop-digit-preserved : goal.loop-digit-preserved
loop-digit-preserved c = (
  omega (arith, value_more c.args.digits.now c.loop-digit.digit-index c.loop-digit-test.true c.requires, c.loop-digit.invariant.0, c.from.ensures),
  omega (arith, c.if-number-gt65535.false),
)
