use Rattle.std.proofs.Common.{◌∙◌, subst, arith}
use Rattle.std.proofs.lemmas.Bool.{both_ways}
use Rattle.vol_layout.specs.Words.{IsPlain}
use Rattle.vol_layout.proofs.Numbers.{word_is_plain, word_of_number, read_too_great, read_as_none}
use Rattle.vol_layout.proofs.words.number_of.Goals as goal

pub returns-then-not-is_plain-clause-none : goal.returns-then-not-is_plain-clause-none
returns-then-not-is_plain-clause-none c = λ n small is.
    let plain : IsPlain c.as_bytes.result.now = word_is_plain _ n (omega (arith, c.ranges.greatest.fits, small)) (c.as_bytes.ensures.value ∙ is) in
    both_ways c.is_plain.result c.if-not-is_plain.true (c.is_plain.ensures.1 plain)

pub returns-in-Ok-clause-some : goal.returns-in-Ok-clause-some
returns-in-Ok-clause-some c =
    let plain : IsPlain c.args.word.now = subst IsPlain c.as_bytes.ensures.value (c.is_plain.ensures.0 c.if-not-is_plain.false) in
    (word_of_number c.args.word.now c.in-Ok.number c.parse.result plain c.parse.ensures.value.0 c.in-Ok.is, c.if-number-greatest.true)

pub returns-in_default-clause-none : goal.returns-in_default-clause-none
returns-in_default-clause-none c = λ n small is.
    read_too_great c.args.word.now c.in-Ok.number n c.args.greatest c.parse.result (omega (arith, c.ranges.greatest.fits)) small c.if-number-greatest.false is
    c.parse.ensures.value.0 c.in-Ok.is

pub returns-in_default-2-clause-none : goal.returns-in_default-2-clause-none
returns-in_default-2-clause-none c = λ n small is.
    read_as_none c.args.word.now c.in_default.field-0 n c.args.greatest c.parse.result (omega (arith, c.ranges.greatest.fits)) small is
    c.parse.ensures.value.0 c.in_default.is
