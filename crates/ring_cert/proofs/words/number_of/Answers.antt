use Rattle.std.proofs.Common.{◌≡◌, ◌≢◌, ◌<◌, length, get_or, arith, rules}
use Rattle.std.proofs.lemmas.Bool.{both_ways}
use Rattle.ring_cert.proofs.Spelling.{decimal_some, decimal_plain, decimal_few, decimal_of_value, value_of_decimal}
use Rattle.ring_cert.proofs.words.number_of.Goals as goal

pub returns-then-is_empty-clause-none : goal.returns-then-is_empty-clause-none
returns-then-is_empty-clause-none c = λ n small e.
    let none : length c.args.digits.now ≡ 0 = search rules in
    omega (arith, decimal_some c.args.digits.now n small e)

pub returns-then-digits-gt-MOST_DIGITS-clause-none : goal.returns-then-digits-gt-MOST_DIGITS-clause-none
returns-then-digits-gt-MOST_DIGITS-clause-none c = λ n small e. omega (arith, decimal_few c.args.digits.now n small e)

pub returns-then-has_zero_in_front-clause-none : goal.returns-then-has_zero_in_front-clause-none
returns-then-has_zero_in_front-clause-none c = λ n small e.
    let zero = c.has_zero_in_front.ensures.0 c.if-has_zero_in_front.true in
    decimal_plain c.args.digits.now n small e zero.0 zero.1

pub returns-then-value-from-clause-none : goal.returns-then-value-from-clause-none
returns-then-value-from-clause-none c = λ n small e.
    omega (arith, value_of_decimal c.args.digits.now n small e, c.value_of-value.ensures, c.from.ensures, c.if-value-from.true)

pub returns-clause-found : goal.returns-clause-found
returns-clause-found c =
    let some : 0 < length c.args.digits.now = search rules in
    let plain : 1 < length c.args.digits.now → get_or c.args.digits.now 0 0 ≢ 48 =
    λ many zero. both_ways c.has_zero_in_front.result c.if-has_zero_in_front.false (c.has_zero_in_front.ensures.1 (many, zero)) in
    rw c.value_of-value.ensures
    (decimal_of_value c.args.digits.now c.requires some plain (omega (arith, c.value_of-value.ensures, c.from.ensures, c.if-value-from.false)))
