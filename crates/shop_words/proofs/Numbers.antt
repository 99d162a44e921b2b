-- Words of decimal digits.
use Rattle.std.proofs.Common.{◌≡◌, ◌∙◌, ℕ, ◌<◌, ◌^◌, sym, ap, subst, refl, Bool, true, false, ◌&&◌, nat_le, [], ◌∷◌, length, None, Result, Err, OkIff, arith, leb-true}
use Rattle.std.proofs.lemmas.Str.Parse.{numerals_by_value, parse_digits, tells_all_ascii_digits}
use Rattle.std.specs.Char.{is_ascii_digit}
use Rattle.std.specs.List.{list_all}
use Rattle.std.specs.Str.{all_ascii_digits}
use Rattle.std.specs.Str.Parse.{ParsesUnsigned, digits_value}
use Rattle.shop_words.specs.Table.{Text}
use Rattle.shop_words.specs.Job.{number_named}

all_ascii_digits-list_all : (word : Text) → list_all is_ascii_digit word ≡ all_ascii_digits word
all_ascii_digits-list_all [] = refl
all_ascii_digits-list_all (x ∷ xs) = ap (λ b. is_ascii_digit x && b) (all_ascii_digits-list_all xs)

digits_read : {E : Type 0} (word : Text) (r : Result ℕ E) → list_all is_ascii_digit word ≡ true → ParsesUnsigned 64 10 word r
    → OkIff r ((0 < length word) × (digits_value 10 word < 2 ^ 64)) (digits_value 10 word)
digits_read word r digits parses =
    parse_digits (numerals_by_value (λ ds. all_ascii_digits ds ≡ true) tells_all_ascii_digits) 64 word r parses (sym (all_ascii_digits-list_all word) ∙ digits)

-- digits that are not read write too great a number, or none
pub number_named-unread : {E : Type 0} (greatest : ℕ) (word : Text) (r : Result ℕ E) (e : E) → greatest < 2 ^ 64 → list_all is_ascii_digit word ≡ true
    → ParsesUnsigned 64 10 word r → r ≡ Err e → None ≡ number_named greatest word
number_named-unread greatest [] r e small digits parses is = refl
number_named-unread greatest (x ∷ xs) r e small digits parses is =
    let unread : ¬ ((0 < length (x ∷ xs)) × (digits_value 10 (x ∷ xs) < 2 ^ 64)) =
    subst (λ o. OkIff o ((0 < length (x ∷ xs)) × (digits_value 10 (x ∷ xs) < 2 ^ 64)) (digits_value 10 (x ∷ xs))) is (digits_read (x ∷ xs) r digits parses) in
    by_test (nat_le (digits_value 10 (x ∷ xs)) greatest) refl unread where
      by_test : (b : Bool) → nat_le (digits_value 10 (x ∷ xs)) greatest ≡ b → ¬ ((0 < length (x ∷ xs)) × (digits_value 10 (x ∷ xs) < 2 ^ 64))
          → None ≡ number_named greatest (x ∷ xs)
      by_test true fits unread =
          let within = leb-true (digits_value 10 (x ∷ xs)) greatest fits in absurd (unread (omega arith, omega (arith, within, small)))
      by_test false past unread = rw (digits, past) refl
