-- Lists that are cut at their first line, body or digit.
use Rattle.std.proofs.Common.{◌≡◌, ◌≢◌, ℕ, zero, suc, ◌+◌, ◌-◌, ◌*◌, ◌<◌, ◌≤◌, ◌==◌, Bool, true, false, cond, List, [], ◌∷◌, ◌++◌, Option, Some, None, IfNone, IfSome, All, length, get_or, take, drop, arith, refl, sym, ap, ◌∙◌, subst, inl, inr, length-take, length-drop}
use Rattle.std.specs.List.{onto_first, prefix_len, slice_split}
use Rattle.std.specs.Char.{digit_value, is_ascii_digit}
use Rattle.std.specs.Str.Lines.{lines, lines_of_parts, strip_carriage_return}
use Rattle.std.specs.Str.Parse.{digits_value, digits_value_after}
use Rattle.std.proofs.Math.Seq.{split_at, take-length, take-suc, get_or-append_seam}
use Rattle.std.proofs.Math.ListN.{get_or-append}
use Rattle.std.proofs.lemmas.List.{get_or-take}
use Rattle.std.proofs.lemmas.List.Elements.{All-cons, All-get_or, All-head, All-nil, All-tail}
use Rattle.std.proofs.lemmas.Grind.{common_steps}
use Rattle.std.proofs.lemmas.Bool.{cases_eq, cases_lt}
use Rattle.std.proofs.lemmas.Str.Parse.{digits_value-take-le}
use Rattle.apple_text.specs.Shown.{Text}
use Rattle.applesoft.specs.Program.{IsCode}
use Rattle.applesoft.specs.Reading.{EndsAt, HasNoBody, IsBodyOf, IsNewlineAt}

pub on_none : {X : Type 0} {P : Type 0} (result : Option X) → P → IfNone result P
on_none None holds = holds
on_none (Some x) holds = tt

-- what `&xs[n..]` is
pub whole_drop : (n : ℕ) (xs : List ℕ) → take (length xs - n) (drop n xs) ≡ drop n xs
whole_drop n xs = ap (λ m. take m (drop n xs)) (sym (length-drop n xs)) ∙ take-length (drop n xs)

-- ---- the body of a line

pub body_at : (bytes : List ℕ) (place : ℕ) → EndsAt bytes place → IsBodyOf bytes (take place bytes) (drop (suc place) bytes)
body_at bytes place ends = record {
  codes = ends.codes;
  split = split_at bytes place 0 ends.within ∙ ap (λ b. take place bytes ++ b ∷ drop (suc place) bytes) ends.zero;
}

-- a body is not shorter than the characters and tokens that the bytes begin with
zero_at : (bytes body rest : List ℕ) → IsBodyOf bytes body rest → get_or bytes (length body) 0 ≡ 0
zero_at bytes body rest is = ap (λ b. get_or b (length body) 0) is.split ∙ get_or-append_seam body 0 rest 0

longer : (bytes body rest : List ℕ) (n : ℕ) → All IsCode (take n bytes) → n ≤ length bytes → IsBodyOf bytes body rest → n ≤ length body
longer bytes body rest n codes within is = elim (cases_lt (length body) n) [
  | inl less ↦
      let there : length body < length (take n bytes) = omega (arith, length-take n bytes, less, within) in
      let code = All-get_or IsCode (take n bytes) (length body) 0 there codes in
      absurd (code.some (get_or-take n bytes (length body) 0 less ∙ zero_at bytes body rest is))
  | inr not_less ↦ omega arith
]

-- where they end, none begins with a body
pub no_end : (bytes : List ℕ) → All IsCode (take (length bytes) bytes) → HasNoBody bytes
no_end bytes codes body rest is =
    omega (arith, longer bytes body rest (length bytes) codes (omega arith) is, ap length is.split, length_behind body rest)
  where
    length_behind : (body rest : List ℕ) → length (body ++ 0 ∷ rest) ≡ length body + suc (length rest)
    length_behind body rest = grind (arith, common_steps)

-- nor where a byte comes that is neither
pub no_code : (bytes : List ℕ) (n : ℕ) → All IsCode (take n bytes) → n < length bytes → 0xeb ≤ get_or bytes n 0 → HasNoBody bytes
no_code bytes n codes within great body rest is = elim (cases_lt n (length body)) [
  | inl less ↦
      let code = All-get_or IsCode body n 0 less is.codes in
      let there : get_or bytes n 0 ≡ get_or body n 0 = ap (λ b. get_or b n 0) is.split ∙ get_or-append body (0 ∷ rest) 0 n less in
      omega (arith, code.token, there, great)
  | inr not_less ↦
      let same : length body ≡ n = omega (arith, longer bytes body rest n codes (omega arith) is, not_less) in
      let zero' : get_or bytes n 0 ≡ 0 = ap (λ m. get_or bytes m 0) (sym same) ∙ zero_at bytes body rest is in
      omega (arith, zero', great)
]

-- ---- lines

split_within : (c : ℕ) (cs : Text) → c ≢ 10 → slice_split (λ b. b == 10) (c ∷ cs) ≡ onto_first c (slice_split (λ b. b == 10) cs)
split_within c cs other = grind (arith, common_steps)

split_end : (c : ℕ) (cs : Text) → c ≡ 10 → slice_split (λ b. b == 10) (c ∷ cs) ≡ [] ∷ slice_split (λ b. b == 10) cs
split_end c cs is = ap (λ d. cond (d == 10) ([] ∷ slice_split (λ b. b == 10) cs) (onto_first d (slice_split (λ b. b == 10) cs))) is

split_some : (text : Text) → (y : Text) × (ys : List Text) × (slice_split (λ c. c == 10) text ≡ y ∷ ys)
split_some [] = ([], [], refl)
split_some (c ∷ cs) = elim (cases_eq c 10) [
  | inl is ↦ ([], slice_split (λ b. b == 10) cs, ap (λ b. cond (b == 10) ([] ∷ slice_split (λ b. b == 10) cs) (onto_first b (slice_split (λ b. b == 10) cs))) is)
  | inr other ↦ let later = split_some cs in
      (c ∷ later.0, later.1, split_within c cs other ∙ ap (onto_first c) later.2)
]

parts_at : (text : Text) (n : ℕ) → n < length text → get_or text n 0 ≡ 10 → All (λ c. c ≢ 10) (take n text)
    → slice_split (λ b. b == 10) text ≡ take n text ∷ slice_split (λ b. b == 10) (drop (suc n) text)
parts_at [] n within is before = absurd (omega (arith, within))
parts_at (c ∷ cs) zero within is before = split_end c cs is
parts_at (c ∷ cs) (suc n) within is before =
    split_within c cs (All-head (λ c. c ≢ 10) c (take n cs) before)
    ∙ ap (onto_first c) (parts_at cs n (omega (arith, within)) is (All-tail (λ c. c ≢ 10) c (take n cs) before))

parts_alone : (text : Text) → All (λ c. c ≢ 10) text → slice_split (λ b. b == 10) text ≡ text ∷ []
parts_alone [] none = refl
parts_alone (c ∷ cs) none =
    split_within c cs (All-head (λ c. c ≢ 10) c cs none) ∙ ap (onto_first c) (parts_alone cs (All-tail (λ c. c ≢ 10) c cs none))

more_parts : (x : Text) (parts : List Text) (y : Text) (ys : List Text) → parts ≡ y ∷ ys → lines_of_parts (x ∷ parts) ≡ strip_carriage_return x ∷ lines_of_parts parts
more_parts x parts y ys is = ap (λ p. lines_of_parts (x ∷ p)) is ∙ ap (λ p. strip_carriage_return x ∷ lines_of_parts p) (sym is)

pub lines_at : (text : Text) (n : ℕ) → IsNewlineAt text n → lines text ≡ strip_carriage_return (take n text) ∷ lines (drop (suc n) text)
lines_at text n at =
    let some = split_some (drop (suc n) text) in
    ap lines_of_parts (parts_at text n at.within at.newline at.before)
    ∙ more_parts (take n text) (slice_split (λ b. b == 10) (drop (suc n) text)) some.0 some.1 some.2

pub line_first : (text line : Text) (n : ℕ) → IsNewlineAt text n → line ≡ strip_carriage_return (take n text)
    → lines text ≡ line ∷ lines (take (length text - (n + 1)) (drop (n + 1) text))
line_first text line n at is =
    let next : suc n ≡ n + 1 = omega arith in
    lines_at text n at ∙ ap (λ l. l ∷ lines (drop (suc n) text)) (sym is)
    ∙ ap (λ m. line ∷ lines (drop m text)) next ∙ ap (λ r. line ∷ lines r) (sym (whole_drop (n + 1) text))

positive : (c : ℕ) (cs : Text) → (length (c ∷ cs) == 0) ≡ false
positive c cs = grind (arith, common_steps)

pub line_alone : (text : Text) → text ≢ [] → All (λ c. c ≢ 10) text → lines text ≡ text ∷ []
line_alone [] some none = absurd (some refl)
line_alone (c ∷ cs) some none = ap lines_of_parts (parts_alone (c ∷ cs) none) ∙ ap (λ b. cond b [] ((c ∷ cs) ∷ [])) (positive c cs)

-- ---- numbers

value_snoc : (n : ℕ) (digits : List ℕ) (digit : ℕ) → digits_value_after 10 n (digits ++ digit ∷ []) ≡ digits_value_after 10 n digits * 10 + digit_value digit
value_snoc n [] digit = refl
value_snoc n (d ∷ ds) digit = value_snoc (n * 10 + digit_value d) ds digit

digit_is : (digit : ℕ) → is_ascii_digit digit ≡ true → (48 ≤ digit) × (digit_value digit ≡ digit - 48)
digit_is digit is = (grind (arith, common_steps), grind (arith, common_steps))

pub value_more : (digits : List ℕ) (i : ℕ) → i < length digits → All (λ c. is_ascii_digit c ≡ true) digits
    → digits_value 10 (take (i + 1) digits) ≡ 10 * digits_value 10 (take i digits) + (get_or digits i 0 - 48)
value_more digits i within are =
    let next : i + 1 ≡ suc i = omega arith in
    let longer : take (i + 1) digits ≡ take i digits ++ (get_or digits i 0 ∷ []) = ap (λ n. take n digits) next ∙ take-suc digits i 0 within in
    omega (
      arith,
      ap (digits_value 10) longer,
      value_snoc 0 (take i digits) (get_or digits i 0),
      (digit_is (get_or digits i 0) (All-get_or (λ c. is_ascii_digit c ≡ true) digits i 0 within are)).1,
    )

pub digit_some : (digits : List ℕ) (i : ℕ) → i < length digits → All (λ c. is_ascii_digit c ≡ true) digits → 48 ≤ get_or digits i 0
digit_some digits i within are = (digit_is (get_or digits i 0) (All-get_or (λ c. is_ascii_digit c ≡ true) digits i 0 within are)).0

pub too_great : (digits : List ℕ) (i : ℕ) → 65535 < digits_value 10 (take i digits) → digits_value 10 digits < 65536 → ⊥
too_great digits i great small = omega (arith, digits_value-take-le 10 digits i (omega arith), great, small)

-- what a test for an empty list answers
pub none_left : (xs : List ℕ) (test : Bool) → test ≡ (length xs == 0) → test ≡ true → xs ≡ []
none_left [] test is yes' = refl
none_left (c ∷ cs) test is yes' = grind (arith, common_steps)

pub some_left : (xs : List ℕ) (test : Bool) → test ≡ (length xs == 0) → test ≡ false → xs ≢ []
some_left [] test is no' = grind (arith, common_steps)
some_left (c ∷ cs) test is no' = λ e. cc

-- ---- what begins with digits

pub prefix_le : (p : ℕ → Bool) (xs : List ℕ) → prefix_len p xs ≤ length xs
prefix_le p [] = omega arith
prefix_le p (x ∷ xs) = pick (p x) (prefix_len p xs) (length xs) (prefix_le p xs)
  where
    pick : (b : Bool) (m n : ℕ) → m ≤ n → cond b (1 + m) 0 ≤ suc n
    pick true m n less = omega (arith, less)
    pick false m n less = omega arith

pub prefix_all : (p : ℕ → Bool) (xs : List ℕ) → All (λ c. p c ≡ true) (take (prefix_len p xs) xs)
prefix_all p [] = All-nil (λ c. p c ≡ true)
prefix_all p (x ∷ xs) = pick (p x) refl (prefix_all p xs)
  where
    pick : (b : Bool) → p x ≡ b → All (λ c. p c ≡ true) (take (prefix_len p xs) xs) → All (λ c. p c ≡ true) (take (cond b (1 + prefix_len p xs) 0) (x ∷ xs))
    pick true is all =
        let next : suc (prefix_len p xs) ≡ 1 + prefix_len p xs = omega arith in
        subst (λ n. All (λ c. p c ≡ true) (take n (x ∷ xs))) next (All-cons (λ c. p c ≡ true) x (take (prefix_len p xs) xs) is all)
    pick false is all = All-nil (λ c. p c ≡ true)

-- ---- cases of results

pub some_at : {X : Type 0} (r : Option X) (x : X) → r ≡ Some x → (P : X → Type 0) → IfSome r P → P x
some_at None x is P holds = absurd (let no' : None ≡ Some x = is in cc)
some_at (Some y) x is P holds = let same : y ≡ x = cc in subst P same holds

pub none_at : {X P : Type 0} (r : Option X) → r ≡ None → IfNone r P → P
none_at None is holds = holds
none_at (Some x) is holds = absurd (let no' : Some x ≡ None = is in cc)
