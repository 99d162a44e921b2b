-- Bytes are taken from a text one by one.
use Rattle.std.proofs.Common.{◌≡◌, ◌≢◌, ◌⊎◌, ℕ, ◌+◌, ◌<◌, List, [], ◌∷◌, ◌++◌, All, arith, refl, sym, ap, ◌∙◌, inl, inr, append_assoc, length, length-append}
use Rattle.std.proofs.lemmas.Grind.{common_steps}
use Rattle.std.proofs.lemmas.Bool.{cases_lt, cases_eq}
use Rattle.std.proofs.lemmas.List.Elements.{All-cons, All-head, All-tail}
use Rattle.apple_text.specs.declared.form.HighBit.{HighBit}
use Rattle.apple_text.specs.declared.form.HighBit.TheVariants.{On, Off}
use Rattle.apple_text.specs.declared.form.TextForm.{TextForm}
use Rattle.apple_text.specs.Shown.{Text, low, shown_code, shown_text, with_high}
use Rattle.apple_text.specs.Taken.{CanBeTaken, IsAllowed, IsTaken, without_returns}
use Rattle.apple_text.specs.Reading.{BeginsWith, IsFirstByte, IsStuck}
use Rattle.apple_text.proofs.Alike.{front, some}

-- ---- returns

pub kept : (c : ℕ) (cs : Text) → c ≢ 13 → without_returns (c ∷ cs) ≡ c ∷ without_returns cs
kept c [] other = refl
kept c (d ∷ cs) other = grind (arith, common_steps)

kept_newline : (cs : Text) → without_returns (10 ∷ cs) ≡ 10 ∷ without_returns cs
kept_newline cs = kept 10 cs (λ e. omega arith)

pub kept_code : (code : ℕ) (rest : Text) → code < 128 → without_returns (shown_code code ++ rest) ≡ shown_code code ++ without_returns rest
kept_code code rest small = grind (arith, common_steps, kept)

dropped : (rest : Text) → without_returns (13 ∷ 10 ∷ rest) ≡ 10 ∷ without_returns rest
dropped rest = kept_newline rest

pub behind : (text : Text) (code : ℕ) (rest : Text) → BeginsWith text code rest → without_returns text ≡ shown_code code ++ without_returns rest
behind text code rest begins = elim begins.split [
  | inl is ↦ ap without_returns is ∙ kept_code code rest begins.small
  | inr is ↦ ap without_returns is.1 ∙ dropped rest ∙ sym (ap (λ c. shown_code c ++ without_returns rest) is.0)
]

returns_or_kept : (x y : ℕ) (xs : Text) → ((x ≡ 13) × (y ≡ 10)) ⊎ (without_returns (x ∷ y ∷ xs) ≡ x ∷ without_returns (y ∷ xs))
returns_or_kept x y xs = elim (cases_eq x 13) [
  | inl is ↦ elim (cases_eq y 10) [
    | inl is' ↦ inl (is, is')
    | inr other ↦ inr (grind (arith, common_steps))
  ]
  | inr other ↦ inr (kept x (y ∷ xs) other)
]

-- ---- what shows a code within a line: one byte, or the three of a picture

pub data IsPiece (piece : Text) : Type 0 where
  one : (c : ℕ) → c ≢ 10 → piece ≡ c ∷ [] → IsPiece piece
  three : (c : ℕ) → c ≢ 10 → piece ≡ 0xe2 ∷ 0x90 ∷ c ∷ [] → IsPiece piece

pub piece_of : (code : ℕ) → code < 128 → code ≢ 13 → IsPiece (shown_code code)
piece_of code small within = elim (cases_eq code 9) [
  | inl is ↦ one 9 (λ e. omega arith) (grind (arith, common_steps))
  | inr other ↦ elim (cases_lt code 32) [
    | inl low ↦ three (0x80 + code) (λ e. omega arith) (grind (arith, common_steps))
    | inr printed ↦ elim (cases_eq code 127) [
      | inl is ↦ three 0xa1 (λ e. omega arith) (grind (arith, common_steps))
      | inr other' ↦ one code (λ e. omega arith) (grind (arith, common_steps))
    ]
  ]
]

-- where a text without returns begins with a byte, the text does
peeled : (text : Text) (c : ℕ) (s : Text) → c ≢ 10 → without_returns text ≡ c ∷ s → (rest : Text) × (text ≡ c ∷ rest) × (without_returns rest ≡ s)
peeled [] c s other e = absurd (let no : [] ≡ c ∷ s = e in cc)
peeled (x ∷ []) c s other e = let is : x ∷ [] ≡ c ∷ s = e in ([], cc, cc)
peeled (x ∷ y ∷ xs) c s other e = elim (returns_or_kept x y xs) [
  | inl (is, is') ↦ absurd (
      let dropped' : without_returns (x ∷ y ∷ xs) ≡ 10 ∷ without_returns xs = ap (λ a. without_returns (a ∷ y ∷ xs)) is ∙ ap (λ b. without_returns (13 ∷ b ∷ xs)) is' ∙ dropped xs in
      let same : 10 ∷ without_returns xs ≡ c ∷ s = sym dropped' ∙ e in
      let ten : 10 ≡ c = cc in
      other (sym ten))
  | inr kept' ↦
      let same : x ∷ without_returns (y ∷ xs) ≡ c ∷ s = sym kept' ∙ e in
      (y ∷ xs, cc, cc)
]

-- where it begins with a newline, the text does, or with a return and a newline
ended : (text s : Text) → without_returns text ≡ 10 ∷ s
    → (rest : Text) × ((text ≡ 10 ∷ rest) ⊎ (text ≡ 13 ∷ 10 ∷ rest)) × (without_returns rest ≡ s)
ended [] s e = absurd (let no : [] ≡ 10 ∷ s = e in cc)
ended (x ∷ []) s e = let is : x ∷ [] ≡ 10 ∷ s = e in ([], inl cc, cc)
ended (x ∷ y ∷ xs) s e = elim (returns_or_kept x y xs) [
  | inl (is, is') ↦
      let dropped' : without_returns (x ∷ y ∷ xs) ≡ 10 ∷ without_returns xs = ap (λ a. without_returns (a ∷ y ∷ xs)) is ∙ ap (λ b. without_returns (13 ∷ b ∷ xs)) is' ∙ dropped xs in
      let same : 10 ∷ without_returns xs ≡ 10 ∷ s = sym dropped' ∙ e in
      (xs, inr cc, cc)
  | inr kept' ↦
      let same : x ∷ without_returns (y ∷ xs) ≡ 10 ∷ s = sym kept' ∙ e in
      (y ∷ xs, inl cc, cc)
]

begun_within : (text : Text) (code : ℕ) (s : Text) → code < 128 → IsPiece (shown_code code) → without_returns text ≡ shown_code code ++ s
    → (rest : Text) × (text ≡ shown_code code ++ rest) × (without_returns rest ≡ s)
begun_within text code s small (one c other is) e =
    let first = peeled text c s other (e ∙ ap (λ p. p ++ s) is) in
    (first.0, first.1 ∙ sym (ap (λ p. p ++ first.0) is), first.2)
begun_within text code s small (three c other is) e =
    let first = peeled text 0xe2 (0x90 ∷ c ∷ s) (λ ten. omega arith) (e ∙ ap (λ p. p ++ s) is) in
    let second = peeled first.0 0x90 (c ∷ s) (λ ten. omega arith) first.2 in
    let third = peeled second.0 c s other second.2 in
    (third.0, first.1 ∙ ap (λ t. 0xe2 ∷ t) second.1 ∙ ap (λ t. 0xe2 ∷ 0x90 ∷ t) third.1 ∙ sym (ap (λ p. p ++ third.0) is), third.2)

pub begun : (text : Text) (code : ℕ) (s : Text) → code < 128 → without_returns text ≡ shown_code code ++ s
    → (rest : Text) × BeginsWith text code rest × (without_returns rest ≡ s)
begun text code s small e = elim (cases_eq code 13) [
  | inl is ↦
      let newline : shown_code code ≡ 10 ∷ [] = ap shown_code is in
      let end = ended text s (e ∙ ap (λ p. p ++ s) newline) in (
        end.0,
        record {
          small = small;
          split = elim end.1 [
            | inl alone ↦ inl (alone ∙ sym (ap (λ p. p ++ end.0) newline))
            | inr both ↦ inr (is, both)
          ];
        },
        end.2,
      )
  | inr within ↦
      let first = begun_within text code s small (piece_of code small within) e in
      (first.0, record { small = small; split = inl first.1 }, first.2)
]

-- ---- one byte more, and one less

pub low_small : (byte : ℕ) → low byte < 128
low_small byte = omega arith

pub low_high : (high : HighBit) (code : ℕ) → code < 128 → low (with_high high code) ≡ code
low_high On code small = omega arith
low_high Off code small = omega arith

pub taken_more : (form : TextForm) (text : Text) (byte : ℕ) (rest : Text) (bytes : List ℕ) → IsFirstByte form text byte rest
    → IsTaken form rest bytes → IsTaken form text (byte ∷ bytes)
taken_more form text byte rest bytes first taken = record {
  allowed = All-cons (IsAllowed form) byte bytes first.allowed taken.allowed;
  shown = ap (λ s. shown_code (low byte) ++ s) taken.shown ∙ sym (behind text (low byte) rest first.begins);
}

-- a byte that is taken first from a text
pub first_taken : (form : TextForm) (text : Text) (byte : ℕ) (bytes : List ℕ) → IsTaken form text (byte ∷ bytes)
    → (rest : Text) × IsFirstByte form text byte rest × IsTaken form rest bytes
first_taken form text byte bytes taken =
    let first = begun text (low byte) (shown_text bytes) (low_small byte) (sym taken.shown) in (
      first.0,
      record { allowed = All-head (IsAllowed form) byte bytes taken.allowed; begins = first.1 },
      record { allowed = All-tail (IsAllowed form) byte bytes taken.allowed; shown = sym first.2 },
    )

same_front : (text : Text) (c d : ℕ) (r s : Text) → BeginsWith text c r → BeginsWith text d s → (c ≡ d) × (without_returns r ≡ without_returns s)
same_front text c d r s begins other =
    front c d (without_returns r) (without_returns s) begins.small other.small (sym (behind text c r begins) ∙ behind text d s other)

none_without : (text : Text) → without_returns text ≡ [] → text ≡ []
none_without [] e = refl
none_without (x ∷ []) e = absurd (let no : x ∷ [] ≡ [] = e in cc)
none_without (x ∷ y ∷ xs) e = elim (returns_or_kept x y xs) [
  | inl (is, is') ↦ absurd (
      let dropped' : without_returns (x ∷ y ∷ xs) ≡ 10 ∷ without_returns xs = ap (λ a. without_returns (a ∷ y ∷ xs)) is ∙ ap (λ b. without_returns (13 ∷ b ∷ xs)) is' ∙ dropped xs in
      let no : 10 ∷ without_returns xs ≡ [] = sym dropped' ∙ e in cc)
  | inr kept' ↦ absurd (let no : x ∷ without_returns (y ∷ xs) ≡ [] = sym kept' ∙ e in cc)
]

-- a text that can be taken is still one behind its first byte
pub taken_less : (form : TextForm) (text : Text) (byte : ℕ) (rest : Text) → IsFirstByte form text byte rest → CanBeTaken form text → CanBeTaken form rest
taken_less form text byte rest first ([], taken) =
    absurd (some (low byte) (without_returns rest) (sym (behind text (low byte) rest first.begins) ∙ sym taken.shown))
taken_less form text byte rest first (b ∷ bytes, taken) =
    let other = first_taken form text b bytes taken in
    let same = same_front text (low byte) (low b) rest other.0 first.begins other.1.begins in
    (bytes, record { allowed = other.2.allowed; shown = other.2.shown ∙ sym same.1 })

-- a text that begins with what begins with no byte can't be taken
pub stuck : (form : TextForm) (text more : Text) → text ≢ [] → IsStuck form (text ++ more) → ¬ CanBeTaken form text
stuck form text more some' none ([], taken) = some' (none_without text (sym taken.shown))
stuck form text more some' none (b ∷ bytes, taken) =
    let first = first_taken form text b bytes taken in
    none b (first.0 ++ more) (record { allowed = first.1.allowed; begins = longer first.1.begins })
  where
    longer : {rest : Text} → BeginsWith text (low b) rest → BeginsWith (text ++ more) (low b) (rest ++ more)
    longer {rest} begins = record {
      small = begins.small;
      split = elim begins.split [
        | inl is ↦ inl (ap (λ t. t ++ more) is ∙ append_assoc (shown_code (low b)) rest more)
        | inr is ↦ inr (is.0, ap (λ t. t ++ more) is.1)
      ];
    }

-- a text that can be taken has one list of bytes
pub one_way : (form : TextForm) (text : Text) (a b : List ℕ) → IsTaken form text a → IsTaken form text b → a ≡ b
one_way form text [] [] taken other = refl
one_way form text [] (y ∷ b) taken other = absurd (some (low y) (shown_text b) (other.shown ∙ sym taken.shown))
one_way form text (x ∷ a) [] taken other = absurd (some (low x) (shown_text a) (taken.shown ∙ sym other.shown))
one_way form text (x ∷ a) (y ∷ b) taken other =
    let p = front (low x) (low y) (shown_text a) (shown_text b) (low_small x) (low_small y) (taken.shown ∙ sym other.shown) in
    let first : x ≡ y = (All-head (IsAllowed form) x a taken.allowed).high ∙ ap (with_high form.high) p.0 ∙ sym (All-head (IsAllowed form) y b other.allowed).high in
    let one = first_taken form text x a taken in
    let two = first_taken form text y b other in
    let same = same_front text (low x) (low y) one.0 two.0 one.1.begins two.1.begins in
    let rest : a ≡ b = one_way form one.0 a b one.2 (record { allowed = two.2.allowed; shown = two.2.shown ∙ sym same.1 }) in
    cc

pub shorter : (text : Text) (code : ℕ) (rest : Text) → BeginsWith text code rest → length rest < length text
shorter text code rest begins = elim begins.split [
  | inl is ↦ omega (arith, ap length is, length-append (shown_code code) rest, some_length code)
  | inr is ↦ omega (arith, ap length is.1)
]
  where
    some_length : (code : ℕ) → 0 < length (shown_code code)
    some_length code = grind (arith, common_steps)

-- what is shown has no return
shown_kept : (bytes : List ℕ) → without_returns (shown_text bytes) ≡ shown_text bytes
shown_kept [] = refl
shown_kept (b ∷ bytes) = kept_code (low b) (shown_text bytes) (low_small b) ∙ ap (λ s. shown_code (low b) ++ s) (shown_kept bytes)

pub taken_back : (form : TextForm) (bytes : List ℕ) → All (IsAllowed form) bytes → IsTaken form (shown_text bytes) bytes
taken_back form bytes allowed = record { allowed = allowed; shown = sym (shown_kept bytes) }
