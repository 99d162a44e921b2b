-- Numbers and words: each has one spelling, and it ends where no digit follows.
use Rattle.std.proofs.Common.{◌≡◌, ◌≢◌, ℕ, suc, ◌+◌, ◌*◌, ◌^◌, ◌<◌, ◌≤◌, List, [], ◌∷◌, ◌++◌, length, get_or, take, arith, refl, sym, ap, ◌∙◌, subst, inl, inr, append_assoc, codes, ◌-◌}
use Rattle.std.specs.List.{All, flat_map}
use Rattle.std.specs.Int.{IsInRange}
use Rattle.std.specs.Fmt.{decimal}
use Rattle.std.specs.Str.Parse.{digits_value}
use Rattle.std.proofs.lemmas.Fmt.{decimal_injective, decimal_nonempty, first_decimal, decimal_digit, length-decimal-le, digits_decimal, digits_value-decimal, decimal-digits_value}
use Rattle.std.proofs.lemmas.Str.Parse.{IsNumeralModel, numerals_by_value, tells_by_index, digits_value_short}
use Rattle.std.proofs.lemmas.List.{append_cancel_left, append-nil, flat_map_more, get_or-take, length-append, length-take-le}
use Rattle.std.proofs.lemmas.List.Elements.{All-head, All-tail, All-nil, All-push}
use Rattle.std.proofs.lemmas.Bool.{cases_lt}
use Rattle.std.proofs.lemmas.Str.{digit_value_digit}
use Rattle.std.proofs.lemmas.Int.Digits.{digits_value_more}
use Rattle.ring_cert.specs.Certificates.{IsSmall, IsRingTold, word, line, ring_line}
use Rattle.ring_cert.specs.Reading.{AreDigits, BeginsWithNoDigit, HasWords, Lacks, LacksTwo, LacksWord}

pub own : IsNumeralModel AreDigits (digits_value 10)
own = numerals_by_value AreDigits tells_by_index

pub AreDigits-tail : (d : ℕ) (ds : List ℕ) → AreDigits (d ∷ ds) → AreDigits ds
AreDigits-tail d ds digits = λ i h. digits (suc i) (omega arith)

-- digits up to the first byte that is none
pub digits_same :
    (ds es u v : List ℕ) → AreDigits ds → AreDigits es → BeginsWithNoDigit u → BeginsWithNoDigit v → ds ++ u ≡ es ++ v → (ds ≡ es) × (u ≡ v)
digits_same [] [] u v digits others end_u end_v e = (refl, e)
digits_same [] (x ∷ es) u v digits others end_u end_v e =
    let none : BeginsWithNoDigit (x ∷ (es ++ v)) = subst BeginsWithNoDigit e end_u in
    absurd (none (others 0 (omega arith)))
digits_same (x ∷ ds) [] u v digits others end_u end_v e =
    let none : BeginsWithNoDigit (x ∷ (ds ++ u)) = subst BeginsWithNoDigit (sym e) end_v in
    absurd (none (digits 0 (omega arith)))
digits_same (x ∷ ds) (y ∷ es) u v digits others end_u end_v e =
    let tails : ds ++ u ≡ es ++ v = cc in
    let heads : x ≡ y = cc in
    let rest = digits_same ds es u v (AreDigits-tail x ds digits) (AreDigits-tail y es others) end_u end_v tails in
    let same : ds ≡ es = rest.0 in
    (cc, rest.1)

pub small_fits : (n : ℕ) → IsSmall n → n < 2 ^ 64
small_fits n small = omega arith

-- a word ends where no digit follows
pub word_same :
    (m n : ℕ) (u v : List ℕ) → IsSmall m → IsSmall n → BeginsWithNoDigit u → BeginsWithNoDigit v → word m ++ u ≡ word n ++ v → (m ≡ n) × (u ≡ v)
unfolding word
word_same m n u v small small' end_u end_v e =
    let tails : decimal m ++ u ≡ decimal n ++ v = cc in
    let both = digits_same (decimal m) (decimal n) u v (digits_decimal own m (small_fits m small)) (digits_decimal own n (small_fits n small')) end_u end_v tails in
    (decimal_injective m n (small_fits m small) (small_fits n small') both.0, both.1)

-- a list with an element
cons_some : (n : ℕ) (ns : List ℕ) → (n ∷ ns) ≢ []
cons_some n ns e = cc

-- a word begins with no line feed
pub no_word : (n : ℕ) (rest more : List ℕ) → 10 ∷ more ≡ word n ++ rest → ⊥
unfolding word
no_word n rest more e = omega (arith, ap (λ xs. get_or xs 0 0) e)

words_end : (ns rest : List ℕ) → BeginsWithNoDigit rest → BeginsWithNoDigit (flat_map word ns ++ rest)
unfolding word
words_end [] rest end = end
words_end (n ∷ ns) rest end = λ digit. omega (arith, digit.0)

-- words, and then a line feed, begin with no digit
pub words_begin : (ns more : List ℕ) → BeginsWithNoDigit (flat_map word ns ++ 10 ∷ more)
unfolding word
words_begin [] more = λ digit. omega (arith, digit.0)
words_begin (n ∷ ns) more = λ digit. omega (arith, digit.0)

-- one more digit
pub AreDigits-more :
    (bytes : List ℕ) (len : ℕ) → AreDigits (take len bytes) → len < length bytes → IsInRange 48 57 (get_or bytes len 0) → AreDigits (take (len + 1) bytes)
AreDigits-more bytes len digits within digit = λ i h.
    let short : i < len + 1 = omega (arith, length-take-le (len + 1) bytes (omega arith)) in
    rw (get_or-take (len + 1) bytes i 0 short)
    (elim (cases_lt i len) [
      | inl lt ↦ subst (IsInRange 48 57) (get_or-take len bytes i 0 lt) (digits i (omega (arith, length-take-le len bytes (omega arith))))
      | inr ge ↦ let last : len ≡ i = omega arith in subst (λ j. IsInRange 48 57 (get_or bytes j 0)) last digit
    ])

-- what digits are worth, and that this is the number that they spell
pub value_fits : (digits : List ℕ) (i : ℕ) → AreDigits digits → length digits ≤ 10 → i ≤ length digits → digits_value 10 (take i digits) < 10 ^ 10
value_fits digits i all few within =
    digits_value_short own (take i digits) 10
    (λ j h. let lt : j < i = omega (arith, length-take-le i digits within) in rw (get_or-take i digits j 0 lt) (all j (omega arith)))
    (omega (arith, length-take-le i digits within))

pub value_more :
    (digits : List ℕ) (i : ℕ) → AreDigits digits → i < length digits
    → digits_value 10 (take i digits) * 10 + (get_or digits i 0 - 48) ≡ digits_value 10 (take (i + 1) digits)
value_more digits i all within =
    let worth = digit_value_digit (get_or digits i 0) (all i within) in
    let more = digits_value_more 10 digits i within in
    omega arith

pub decimal_of_value :
    (digits : List ℕ) → AreDigits digits → 0 < length digits → (1 < length digits → get_or digits 0 0 ≢ 48) → digits_value 10 digits < 2 ^ 64
    → digits ≡ decimal (digits_value 10 digits)
decimal_of_value digits all some plain fits =
    sym (decimal-digits_value own digits all some
    (λ zero_first.
    elim (cases_lt 1 (length digits)) [ inl many ↦ absurd (plain many zero_first) | inr one ↦ omega arith ])
    fits)

pub value_of_decimal : (digits : List ℕ) (n : ℕ) → IsSmall n → digits ≡ decimal n → digits_value 10 digits ≡ n
value_of_decimal digits n small e = ap (digits_value 10) e ∙ digits_value-decimal own n (small_fits n small)

-- a number has digits, at most ten, and no zero in front of others
pub decimal_some : (digits : List ℕ) (n : ℕ) → IsSmall n → digits ≡ decimal n → 0 < length digits
decimal_some digits n small e = rw e (decimal_nonempty n (small_fits n small))

pub decimal_few : (digits : List ℕ) (n : ℕ) → IsSmall n → digits ≡ decimal n → length digits ≤ 10
decimal_few digits n small e =
    let below : n < 10 ^ 10 = omega arith in
    rw e (length-decimal-le 10 n (omega arith) below (small_fits n small))

pub decimal_plain : (digits : List ℕ) (n : ℕ) → IsSmall n → digits ≡ decimal n → 1 < length digits → get_or digits 0 0 ≢ 48
decimal_plain digits n small e many zero_first =
    let first : get_or (decimal n) 0 0 ≡ 48 = ap (λ ds. get_or ds 0 0) (sym e) ∙ zero_first in
    elim (cases_lt 0 n) [
      | inl some ↦ omega (arith, first_decimal n some (small_fits n small))
      | inr none ↦
          let is : n ≡ 0 = omega arith in
          let one : length (decimal n) ≡ 1 = ap (λ m. length (decimal m)) is ∙ ap length (decimal_digit 0 (omega arith)) in
          omega (arith, ap length e)
    ]

-- the word at the front of some bytes
pub word_no_space : (bytes : List ℕ) → ((rest : List ℕ) → bytes ≢ (32 ∷ []) ++ rest) → LacksWord bytes
unfolding word
word_no_space bytes none n more small end e = none (decimal n ++ more) e

pub word_no_number :
    (bytes spaced digits rest : List ℕ) → bytes ≡ (32 ∷ []) ++ spaced → spaced ≡ digits ++ rest → AreDigits digits → BeginsWithNoDigit rest
    → ((n : ℕ) → IsSmall n → digits ≡ decimal n → ⊥) → LacksWord bytes
unfolding word
word_no_number bytes spaced digits rest space split all end none n more small end_more e =
    let tails : digits ++ rest ≡ decimal n ++ more = cc in
    none n small (digits_same digits (decimal n) rest more all (digits_decimal own n (small_fits n small)) end end_more tails).0

pub word_found :
    (bytes spaced digits rest : List ℕ) (n : ℕ) → bytes ≡ (32 ∷ []) ++ spaced → spaced ≡ digits ++ rest → digits ≡ decimal n → bytes ≡ word n ++ rest
unfolding word
word_found bytes spaced digits rest n space split is = space ∙ ap (λ xs. 32 ∷ xs) (split ∙ ap (λ ds. ds ++ rest) is)

-- a line and what follows it, with its parts apart
pub line_apart : (name ns more : List ℕ) → line name ns ++ more ≡ name ++ (flat_map word ns ++ 10 ∷ more)
unfolding line
line_apart name ns more =
    append_assoc name (flat_map word ns ++ 10 ∷ []) more ∙ ap (λ xs. name ++ xs) (append_assoc (flat_map word ns) (10 ∷ []) more)

pub line_of_one : (name : List ℕ) (n : ℕ) (more : List ℕ) → line name (n ∷ []) ++ more ≡ name ++ (word n ++ 10 ∷ more)
line_of_one name n more = line_apart name (n ∷ []) more ∙ ap (λ xs. name ++ (xs ++ 10 ∷ more)) (append-nil (word n))

pub end_begins : (more : List ℕ) → BeginsWithNoDigit (10 ∷ more)
end_begins more digit = omega (arith, digit.0)

-- the line of one number at the front of some bytes
pub one_no_name : (bytes name : List ℕ) → ((rest : List ℕ) → bytes ≢ name ++ rest) → Lacks IsSmall (λ n. line name (n ∷ [])) bytes
one_no_name bytes name none n more small e = none (word n ++ 10 ∷ more) (e ∙ line_of_one name n more)

pub one_no_word : (bytes name named : List ℕ) → bytes ≡ name ++ named → LacksWord named → Lacks IsSmall (λ n. line name (n ∷ [])) bytes
one_no_word bytes name named is none n more small e =
    none n (10 ∷ more) small (end_begins more) (append_cancel_left name named (word n ++ 10 ∷ more) (sym is ∙ (e ∙ line_of_one name n more)))

pub one_no_end :
    (bytes name named : List ℕ) (m : ℕ) (rest : List ℕ) → bytes ≡ name ++ named → named ≡ word m ++ rest → IsSmall m → BeginsWithNoDigit rest
    → ((next : List ℕ) → rest ≢ (10 ∷ []) ++ next) → Lacks IsSmall (λ n. line name (n ∷ [])) bytes
one_no_end bytes name named m rest is found small_m end none n more small e =
    let tails : named ≡ word n ++ 10 ∷ more = append_cancel_left name named (word n ++ 10 ∷ more) (sym is ∙ (e ∙ line_of_one name n more)) in
    none more (word_same m n rest (10 ∷ more) small_m small end (end_begins more) (sym found ∙ tails)).1

pub one_found :
    (bytes name named : List ℕ) (m : ℕ) (rest next : List ℕ) → bytes ≡ name ++ named → named ≡ word m ++ rest → rest ≡ (10 ∷ []) ++ next
    → bytes ≡ line name (m ∷ []) ++ next
one_found bytes name named m rest next is found end =
    is ∙ (ap (λ xs. name ++ xs) (found ∙ ap (λ xs. word m ++ xs) end) ∙ sym (line_of_one name m next))

-- a line of one number begins with no digit if its name does not
pub line_begins : (name : List ℕ) (n : ℕ) (more : List ℕ) → BeginsWithNoDigit name → BeginsWithNoDigit (line name (n ∷ []) ++ more)
unfolding line word
line_begins [] n more none = λ digit. omega (arith, digit.0)
line_begins (c ∷ cs) n more none = none

-- the line of two numbers at the front of some bytes
pub two_no_name : (bytes name second : List ℕ) → ((rest : List ℕ) → bytes ≢ name ++ rest) → LacksTwo name second bytes
two_no_name bytes name second none m n more small small' e = none (word m ++ (line second (n ∷ []) ++ more)) e

pub two_no_word :
    (bytes name second named : List ℕ) → BeginsWithNoDigit second → bytes ≡ name ++ named → LacksWord named → LacksTwo name second bytes
two_no_word bytes name second named begins is none m n more small small' e =
    none m (line second (n ∷ []) ++ more) small (line_begins second n more begins)
    (append_cancel_left name named (word m ++ (line second (n ∷ []) ++ more)) (sym is ∙ e))

pub two_no_line :
    (bytes name second named : List ℕ) (k : ℕ) (rest : List ℕ) → BeginsWithNoDigit second → bytes ≡ name ++ named → named ≡ word k ++ rest
    → IsSmall k → BeginsWithNoDigit rest → Lacks IsSmall (λ n. line second (n ∷ [])) rest → LacksTwo name second bytes
two_no_line bytes name second named k rest begins is found small_k end none m n more small small' e =
    let tails : named ≡ word m ++ (line second (n ∷ []) ++ more) =
    append_cancel_left name named (word m ++ (line second (n ∷ []) ++ more)) (sym is ∙ e) in
    none n more small' (word_same k m rest (line second (n ∷ []) ++ more) small_k small end (line_begins second n more begins) (sym found ∙ tails)).1

-- words up to what is none
pub words_same :
    (ms ns more rest : List ℕ) → All IsSmall ms → All IsSmall ns → (ns ≢ [] → BeginsWithNoDigit rest) → LacksWord rest
    → flat_map word ms ++ 10 ∷ more ≡ flat_map word ns ++ rest → (ms ≡ ns) × (10 ∷ more ≡ rest)
words_same [] [] more rest small small' end none e = (refl, e)
words_same [] (n ∷ ns) more rest small small' end none e = absurd (no_word n (flat_map word ns ++ rest) more (e ∙ append_assoc (word n) (flat_map word ns) rest))
words_same (m ∷ ms) [] more rest small small' end none e =
    absurd (none m (flat_map word ms ++ 10 ∷ more) (All-head IsSmall m ms small) (words_begin ms more) (sym e ∙ append_assoc (word m) (flat_map word ms) (10 ∷ more)))
words_same (m ∷ ms) (n ∷ ns) more rest small small' end none e =
    let both = word_same m n (flat_map word ms ++ 10 ∷ more) (flat_map word ns ++ rest) (All-head IsSmall m ms small) (All-head IsSmall n ns small')
    (words_begin ms more) (words_end ns rest (end (cons_some n ns)))
    (sym (append_assoc (word m) (flat_map word ms) (10 ∷ more)) ∙ (e ∙ append_assoc (word n) (flat_map word ns) rest)) in
    let rest_of = words_same ms ns more rest (All-tail IsSmall m ms small) (All-tail IsSmall n ns small') (λ _. end (cons_some n ns)) none both.1 in
    let heads : m ≡ n = both.0 in
    let tails : ms ≡ ns = rest_of.0 in
    (cc, rest_of.1)

-- words that were read
pub HasWords-none : (bytes : List ℕ) → HasWords bytes [] bytes
HasWords-none bytes = record { is = refl; small = All-nil IsSmall; end = λ some. absurd (some refl) }

pub HasWords-more :
    (bytes parts rest : List ℕ) (n : ℕ) (next : List ℕ) → HasWords bytes parts rest → rest ≡ word n ++ next → IsSmall n → BeginsWithNoDigit next
    → HasWords bytes (parts ++ n ∷ []) next
HasWords-more bytes parts rest n next before found small end =
    record {
      is = before.is ∙ (ap (λ xs. flat_map word parts ++ xs) found
          ∙ (sym (append_assoc (flat_map word parts) (word n) next) ∙ ap (λ xs. xs ++ next) (flat_map_more word [] parts n)));
      small = All-push IsSmall parts n before.small small;
      end = λ some. end;
    }

pub word_longer : (rest : List ℕ) (n : ℕ) (next : List ℕ) → rest ≡ word n ++ next → length next < length rest
unfolding word
word_longer rest n next is = omega (arith, ap length is, length-append (decimal n) next)

-- the line of a ring at the front of some bytes
pub ring_no_name : (bytes : List ℕ) → ((rest : List ℕ) → bytes ≢ codes "RING" ++ rest) → Lacks IsRingTold ring_line bytes
ring_no_name bytes none ring more told e = none (flat_map word ring ++ 10 ∷ more) (e ∙ line_apart (codes "RING") ring more)

-- behind the name of a ring's line these words were read
module _ (bytes named parts rest : List ℕ) (name : bytes ≡ codes "RING" ++ named) (has : HasWords named parts rest) where
  ring_read : bytes ≡ codes "RING" ++ (flat_map word parts ++ rest)
  ring_read = name ∙ ap (λ xs. codes "RING" ++ xs) has.is

  -- the words of a ring's line are those that were read, and then the line ends
  ring_same : LacksWord rest → (ring more : List ℕ) → IsRingTold ring → bytes ≡ ring_line ring ++ more → (ring ≡ parts) × (10 ∷ more ≡ rest)
  ring_same none ring more told e =
      words_same ring parts more rest told.parts has.small has.end none
      (append_cancel_left (codes "RING") (flat_map word ring ++ 10 ∷ more) (flat_map word parts ++ rest)
      (sym (line_apart (codes "RING") ring more) ∙ (sym e ∙ ring_read)))

  pub ring_no_end : LacksWord rest → ((next : List ℕ) → rest ≢ (10 ∷ []) ++ next) → Lacks IsRingTold ring_line bytes
  ring_no_end none end ring more told e = end more (sym (ring_same none ring more told e).1)

  pub ring_no_part : LacksWord rest → parts ≡ [] → Lacks IsRingTold ring_line bytes
  ring_no_part none empty ring more told e = told.some ((ring_same none ring more told e).0 ∙ empty)

  pub ring_found : (next : List ℕ) → rest ≡ (10 ∷ []) ++ next → bytes ≡ ring_line parts ++ next
  ring_found next end = ring_read ∙ (ap (λ xs. codes "RING" ++ (flat_map word parts ++ xs)) end ∙ sym (line_apart (codes "RING") parts next))
