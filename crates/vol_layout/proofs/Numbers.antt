-- Numbers as words: each has one.
use Rattle.std.proofs.Common.{◌≡◌, ◌≢◌, ℕ, ◌^◌, ◌<◌, ◌≤◌, Result, Ok, Err, List, length, get_or, arith, sym, ap, ◌∙◌, subst, inl, inr}
use Rattle.std.specs.Int.{IsInRange}
use Rattle.std.specs.Fmt.{decimal}
use Rattle.std.specs.Str.Parse.{digits_value, ParsesUnsigned}
use Rattle.std.proofs.lemmas.Result.{OkIff-at_ok}
use Rattle.std.proofs.lemmas.Fmt.{decimal_nonempty, first_decimal, decimal_digit, digits_decimal, decimal-digits_value, parse-decimal}
use Rattle.std.proofs.lemmas.Str.Parse.{IsNumeralModel, numerals_by_value, tells_by_index, parse_plain}
use Rattle.std.proofs.lemmas.Bool.{cases_lt}
use Rattle.vol_layout.specs.Words.{IsPlain}

-- each byte is the code of a decimal digit
abbrev pub AreDigits : List ℕ → Type 0
AreDigits bytes = (i : ℕ) → i < length bytes → IsInRange 48 57 (get_or bytes i 0)

pub own : IsNumeralModel AreDigits (digits_value 10)
own = numerals_by_value AreDigits tells_by_index

pub decimal_is_plain : (n : ℕ) → n < 2 ^ 32 → IsPlain (decimal n)
decimal_is_plain n small =
    let some : 0 < length (decimal n) = decimal_nonempty n (omega arith) in
    record {
      some = some;
      digit = digits_decimal own n (omega arith) 0 some;
      alone = λ zero_first. elim (cases_lt 0 n) [
        | inl more ↦ omega (arith, first_decimal n more (omega arith))
        | inr none ↦ let is : n ≡ 0 = omega arith in ap (λ m. length (decimal m)) is ∙ ap length (decimal_digit 0 (omega arith))
      ];
    }

pub word_is_plain : (word : List ℕ) (n : ℕ) → n < 2 ^ 32 → word ≡ decimal n → IsPlain word
word_is_plain word n small is = subst IsPlain (sym is) (decimal_is_plain n small)

-- a plain word that is read as a number is that number's word
pub word_of_number : {E : Type 0} (word : List ℕ) (n : ℕ) (r : Result ℕ E) → IsPlain word → ParsesUnsigned 32 10 word r → r ≡ Ok n → word ≡ decimal n
word_of_number word n r plain reads is =
    let no_sign : get_or word 0 0 ≢ 43 = λ plus. omega (arith, plain.digit.0, plus) in
    let read = OkIff-at_ok r _ (digits_value 10 word) n (parse_plain own 32 word r reads no_sign) is in
    let spelled : decimal (digits_value 10 word) ≡ word = decimal-digits_value own word read.0.0 plain.some plain.alone (omega (arith, read.0.2)) in
    sym spelled ∙ ap decimal (sym read.1)

-- a number's word is read as that number, and as nothing else
pub number_of_word : {E : Type 0} (word : List ℕ) (n : ℕ) (r : Result ℕ E) → n < 2 ^ 32 → word ≡ decimal n → ParsesUnsigned 32 10 word r → r ≡ Ok n
number_of_word word n r small is reads = parse-decimal 32 n word r small (omega arith) is reads

same_number : {E : Type 0} (m n : ℕ) (r : Result ℕ E) → r ≡ Ok m → r ≡ Ok n → m ≡ n
same_number m n r first second = cc

not_none : {E : Type 0} (n : ℕ) (e : E) (r : Result ℕ E) → r ≡ Err e → r ≡ Ok n → ⊥
not_none n e r first second = cc

pub read_too_great : {E : Type 0} (word : List ℕ) (m n greatest : ℕ) (r : Result ℕ E) → greatest < 2 ^ 32 → n ≤ greatest → greatest < m → word ≡ decimal n
    → ParsesUnsigned 32 10 word r → r ≡ Ok m → ⊥
read_too_great word m n greatest r fits small great is reads read =
    omega (arith, same_number m n r read (number_of_word word n r (omega arith) is reads))

pub read_as_none : {E : Type 0} (word : List ℕ) (e : E) (n greatest : ℕ) (r : Result ℕ E) → greatest < 2 ^ 32 → n ≤ greatest → word ≡ decimal n
    → ParsesUnsigned 32 10 word r → r ≡ Err e → ⊥
read_as_none word e n greatest r fits small is reads read = not_none n e r read (number_of_word word n r (omega arith) is reads)
