use Rattle.std.proofs.Common.{◌≡◌, true, All, arith, sym, subst, ap, ◌∙◌, take}
use Rattle.std.specs.Char.{is_ascii_digit}
use Rattle.applesoft.proofs.Split.{prefix_all, prefix_le}
use Rattle.applesoft.proofs.numbers.split_digits.Goals as goal

pub split_at-requires : goal.split_at-requires
split_at-requires c = omega (arith, c.digits_len.ensures, prefix_le is_ascii_digit c.args.text.now)

pub returns-clause-are : goal.returns-clause-are
returns-clause-are c =
    subst (All (λ d. is_ascii_digit d ≡ true))
    (sym (c.split_at.ensures.front ∙ ap (λ n. take n c.args.text.now) c.digits_len.ensures)) (prefix_all is_ascii_digit c.args.text.now)
