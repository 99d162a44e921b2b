-- The first line that can't be taken, as a text is read on.
use Rattle.std.proofs.Common.{◌≡◌, ◌≢◌, ℕ, suc, List, [], ◌∷◌, ◌++◌, arith, refl, sym, ap, ◌∙◌, subst, inl, inr, append-nil}
use Rattle.std.specs.List.{onto_first}
use Rattle.std.proofs.lemmas.Grind.{common_steps}
use Rattle.std.proofs.lemmas.Bool.{cases_eq}
use Rattle.apple_text.specs.declared.form.TextForm.{TextForm}
use Rattle.apple_text.specs.Shown.{Text, low, shown_code}
use Rattle.apple_text.specs.Taken.{CanBeTaken, IsFirstBad, IsTaken, first, later, lines}
use Rattle.apple_text.specs.Reading.{IsFirstByte, IsStuck}
use Rattle.apple_text.proofs.Taking.{IsPiece, low_small, one, piece_of, stuck, taken_less, taken_more, three}

lines_within : (c : ℕ) (cs : Text) → c ≢ 10 → lines (c ∷ cs) ≡ onto_first c (lines cs)
lines_within c cs other = grind (arith, common_steps)

-- a piece put before the first line
onto : Text → List Text → List Text
onto piece [] = piece ∷ []
onto piece (line ∷ more) = (piece ++ line) ∷ more

one_onto : (c : ℕ) (parts : List Text) → onto_first c parts ≡ onto (c ∷ []) parts
unfolding onto
one_onto c [] = refl
one_onto c (line ∷ more) = refl

three_onto : (c d e : ℕ) (parts : List Text) → onto_first c (onto_first d (onto_first e parts)) ≡ onto (c ∷ d ∷ e ∷ []) parts
unfolding onto
three_onto c d e [] = refl
three_onto c d e (line ∷ more) = refl

lines_piece : (piece rest : Text) → IsPiece piece → lines (piece ++ rest) ≡ onto piece (lines rest)
lines_piece piece rest (one c other is) =
    ap (λ p. lines (p ++ rest)) is ∙ lines_within c rest other ∙ one_onto c (lines rest) ∙ sym (ap (λ p. onto p (lines rest)) is)
lines_piece piece rest (three c other is) =
    ap (λ p. lines (p ++ rest)) is ∙ lines_within 0xe2 (0x90 ∷ c ∷ rest) (λ e. omega arith)
    ∙ ap (onto_first 0xe2) (lines_within 0x90 (c ∷ rest) (λ e. omega arith) ∙ ap (onto_first 0x90) (lines_within c rest other))
    ∙ three_onto 0xe2 0x90 c (lines rest) ∙ sym (ap (λ p. onto p (lines rest)) is)

-- a byte before the first of some lines changes none of their numbers
module _ (form : TextForm) (byte : ℕ) (piece : Text) (before : (line : Text) → IsFirstByte form (piece ++ line) byte line) where
  first_onto : (parts : List Text) (number : ℕ) → IsFirstBad form parts number → IsFirstBad form (onto piece parts) number
  unfolding onto
  first_onto parts number (first line more bad) =
      first (piece ++ line) more (λ can. bad (taken_less form (piece ++ line) byte line (before line) can))
  first_onto parts number (later line more n can bad) =
      later (piece ++ line) more n (byte ∷ can.0, taken_more form (piece ++ line) byte line can.0 (before line) can.1) bad

pub bad_within : (form : TextForm) (text : Text) (byte : ℕ) (rest : Text) → IsFirstByte form text byte rest → low byte ≢ 13
    → (number : ℕ) → IsFirstBad form (lines rest) number → IsFirstBad form (lines text) number
bad_within form text byte rest begins within number bad = elim begins.begins.split [
  | inl is ↦
      let before : (line : Text) → IsFirstByte form (shown_code (low byte) ++ line) byte line
      = λ line. record { allowed = begins.allowed; begins = record { small = low_small byte; split = inl refl } } in
      let same : lines text ≡ onto (shown_code (low byte)) (lines rest)
      = ap lines is ∙ lines_piece (shown_code (low byte)) rest (piece_of (low byte) (low_small byte) within) in
      subst (λ ls. IsFirstBad form ls number) (sym same) (first_onto form byte (shown_code (low byte)) before (lines rest) number bad)
  | inr is ↦ absurd (within is.0)
]

-- a byte that ends a line is a line of its own
ends_alone : (form : TextForm) (piece : Text) (byte : ℕ) → IsFirstByte form piece byte [] → CanBeTaken form piece
ends_alone form piece byte begins = (byte ∷ [], taken_more form piece byte [] [] begins nothing)
  where
    nothing : IsTaken form [] []
    nothing = record { allowed = λ k d within. omega arith; shown = refl }

ended_line : (form : TextForm) (text piece : Text) (byte : ℕ) (rest : Text) (number : ℕ) → lines text ≡ piece ∷ lines rest → IsFirstByte form piece byte []
    → IsFirstBad form (lines rest) number → IsFirstBad form (lines text) (suc number)
ended_line form text piece byte rest number is begins bad =
    subst (λ ls. IsFirstBad form ls (suc number)) (sym is) (later piece (lines rest) number (ends_alone form piece byte begins) bad)

pub bad_behind_end : (form : TextForm) (text : Text) (byte : ℕ) (rest : Text) → IsFirstByte form text byte rest → low byte ≡ 13
    → (number : ℕ) → IsFirstBad form (lines rest) number → IsFirstBad form (lines text) (suc number)
bad_behind_end form text byte rest begins ends number bad = elim begins.begins.split [
  | inl is ↦
      let newline : 10 ∷ [] ≡ shown_code (low byte) = sym (ap shown_code ends) in
      ended_line form text (10 ∷ []) byte rest number (ap lines (is ∙ sym (ap (λ p. p ++ rest) newline)))
      (record { allowed = begins.allowed; begins = record { small = low_small byte; split = inl (newline ∙ sym (append-nil (shown_code (low byte)))) } }) bad
  | inr is ↦
      ended_line form text (13 ∷ 10 ∷ []) byte rest number (ap lines is.1)
      (record { allowed = begins.allowed; begins = record { small = low_small byte; split = inr (ends, refl) } }) bad
]

-- ---- the first line of a text

record FirstLine (text : Text) : Type 0 where
  line : Text
  more : List Text
  rest : Text
  some : line ≢ []
  parts : lines text ≡ line ∷ more
  split : text ≡ line ++ rest

alone : (c : ℕ) (cs : Text) → c ≡ 10 → FirstLine (c ∷ cs)
alone c cs is = record {
  line = c ∷ [];
  more = lines cs;
  rest = cs;
  some = λ e. cc;
  parts = grind (arith, common_steps);
  split = refl;
}

first_line : (c : ℕ) (cs : Text) → FirstLine (c ∷ cs)
first_line c [] = elim (cases_eq c 10) [
  | inl is ↦ alone c [] is
  | inr other ↦ record { line = c ∷ []; more = []; rest = []; some = λ e. cc; parts = lines_within c [] other; split = refl }
]
first_line c (d ∷ ds) = elim (cases_eq c 10) [
  | inl is ↦ alone c (d ∷ ds) is
  | inr other ↦ let next = first_line d ds in record {
    line = c ∷ next.line;
    more = next.more;
    rest = next.rest;
    some = λ e. cc;
    parts = lines_within c (d ∷ ds) other ∙ ap (onto_first c) next.parts;
    split = ap (λ t. c ∷ t) next.split;
  }
]

-- the first line of a text that begins with no byte can't be taken
pub bad_first : (form : TextForm) (text : Text) → text ≢ [] → IsStuck form text → IsFirstBad form (lines text) 1
bad_first form [] some none = absurd (some refl)
bad_first form (c ∷ cs) some none =
    let one = first_line c cs in
    let none' : IsStuck form (one.line ++ one.rest) = subst (IsStuck form) one.split none in
    subst (λ ls. IsFirstBad form ls 1) (sym one.parts) (first one.line one.more (stuck form one.line one.rest one.some none'))
