-- How far the bytes of a text are taken.
use Rattle.std.proofs.Common.{◌≡◌, ◌≢◌, ◌==◌, Bool, true, false, ℕ, suc, ◌+◌, ◌≤◌, List, [], ◌∷◌, ◌++◌, length, arith, refl, sym, subst, append_assoc, append-nil}
use Rattle.std.proofs.lemmas.Grind.{common_steps}
use Rattle.apple_text.specs.declared.form.TextForm.{TextForm}
use Rattle.apple_text.specs.Shown.{Text, low}
use Rattle.apple_text.specs.Taken.{CanBeTaken, IsFirstBad, IsTaken, lines}
use Rattle.apple_text.specs.Reading.{IsFirstByte, IsStuck}
use Rattle.apple_text.proofs.Taking.{shorter, stuck, taken_less, taken_more}
use Rattle.apple_text.proofs.Lines.{bad_behind_end, bad_first, bad_within}

-- these bytes are taken from the text before the rest, which begins in this line
pub record SoFar (form : TextForm) (text : Text) (bytes : List ℕ) (rest : Text) (line : ℕ) : Type 0 where
  pub taken : (more : List ℕ) → IsTaken form rest more → IsTaken form text (bytes ++ more)
  pub back : CanBeTaken form text → CanBeTaken form rest
  pub bad : (number : ℕ) → IsFirstBad form (lines rest) (suc number) → IsFirstBad form (lines text) (line + number)
  pub counted : line + length rest ≤ length text + 1

pub at_start : (form : TextForm) (text : Text) → SoFar form text [] text 1
at_start form text = record {
  taken = λ more taken. taken;
  back = λ can. can;
  bad = λ number bad. let same : suc number ≡ 1 + number = omega arith in subst (IsFirstBad form (lines text)) same bad;
  counted = omega arith;
}

module _ (form : TextForm) (text : Text) (bytes : List ℕ) (rest : Text) (line : ℕ) (so_far : SoFar form text bytes rest line)
    (byte : ℕ) (more : Text) (first : IsFirstByte form rest byte more) where
  taken_on : (later : List ℕ) → IsTaken form more later → IsTaken form text ((bytes ++ byte ∷ []) ++ later)
  taken_on later taken =
      subst (IsTaken form text) (sym (append_assoc bytes (byte ∷ []) later)) (so_far.taken (byte ∷ later) (taken_more form rest byte more later first taken))

  back_on : CanBeTaken form text → CanBeTaken form more
  back_on can = taken_less form rest byte more first (so_far.back can)

  pub more_within : low byte ≢ 13 → SoFar form text (bytes ++ byte ∷ []) more line
  more_within within = record {
    taken = taken_on;
    back = back_on;
    bad = λ number bad. so_far.bad number (bad_within form rest byte more first within (suc number) bad);
    counted = omega (arith, so_far.counted, shorter rest (low byte) more first.begins);
  }

  pub more_behind_end : low byte ≡ 13 → SoFar form text (bytes ++ byte ∷ []) more (line + 1)
  more_behind_end ends = record {
    taken = taken_on;
    back = back_on;
    bad = λ number bad.
        let same : line + suc number ≡ (line + 1) + number = omega arith in
        subst (IsFirstBad form (lines text)) same (so_far.bad (suc number) (bad_behind_end form rest byte more first ends (suc number) bad));
    counted = omega (arith, so_far.counted, shorter rest (low byte) more first.begins);
  }

pub at_end : (form : TextForm) (text : Text) (bytes : List ℕ) (rest : Text) (line : ℕ) → SoFar form text bytes rest line → rest ≡ [] → IsTaken form text bytes
at_end form text bytes rest line so_far none =
    subst (IsTaken form text) (append-nil bytes) (so_far.taken [] (subst (λ r. IsTaken form r []) (sym none) nothing))
  where
    nothing : IsTaken form [] []
    nothing = record { allowed = λ k d within. omega arith; shown = refl }

pub not_taken : (form : TextForm) (text : Text) (bytes : List ℕ) (rest : Text) (line : ℕ) → SoFar form text bytes rest line → rest ≢ [] → IsStuck form rest
    → ¬ CanBeTaken form text
not_taken form text bytes rest line so_far some none can =
    stuck form rest [] some (subst (IsStuck form) (sym (append-nil rest)) none) (so_far.back can)

pub in_line : (form : TextForm) (text : Text) (bytes : List ℕ) (rest : Text) (line : ℕ) → SoFar form text bytes rest line → rest ≢ [] → IsStuck form rest
    → IsFirstBad form (lines text) line
in_line form text bytes rest line so_far some none =
    let same : line + 0 ≡ line = omega arith in
    subst (IsFirstBad form (lines text)) same (so_far.bad 0 (bad_first form rest some none))

-- what a test for an empty text answers
pub none_left : (text : Text) (test : Bool) → test ≡ (length text == 0) → test ≡ true → text ≡ []
none_left [] test is yes' = refl
none_left (c ∷ cs) test is yes' = grind (arith, common_steps)

pub some_left : (text : Text) (test : Bool) → test ≡ (length text == 0) → test ≡ false → text ≢ []
some_left [] test is no' = grind (arith, common_steps)
some_left (c ∷ cs) test is no' = λ e. cc
