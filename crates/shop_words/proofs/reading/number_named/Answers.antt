use Rattle.std.proofs.Common.{◌∙◌, ap, sym}
use Rattle.std.specs.Char.{is_ascii_digit}
use Rattle.std.specs.List.{list_all}
use Rattle.shop_words.proofs.Numbers.{number_named-unread}
use Rattle.shop_words.proofs.reading.number_named.Goals as goal

pub returns-in-Err-clause-value : goal.returns-in-Err-clause-value
returns-in-Err-clause-value c =
    number_named-unread c.args.greatest c.args.word.now c.parse.result _ c.ranges.greatest.fits
    (ap (list_all is_ascii_digit) (sym c.as_bytes.ensures.value) ∙ sym c.is_digits.ensures ∙ c.if-not-is_digits.false) c.parse.ensures.value.0 c.in-Err.is
