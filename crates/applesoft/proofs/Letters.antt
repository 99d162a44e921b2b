-- A word that begins with another letter than some characters does not stand there.
use Rattle.std.proofs.Common.{◌≡◌, ◌∙◌, ℕ, ◌==◌, Bool, true, false, List, [], ◌∷◌, None, refl, sym, ap}
use Rattle.std.specs.Char.{to_ascii_uppercase}
use Rattle.applesoft.specs.Reading.{begins_with, first_letter}
use Rattle.applesoft.specs.Scan.{behind_letter, behind_word, standing}

letter_not : (letter : ℕ) (codes : List ℕ) → (first_letter codes == letter) ≡ false → behind_letter letter codes ≡ None
letter_not letter [] other = refl
letter_not letter (c ∷ cs) other = step (c == 32) refl other (letter_not letter cs) where
  step : (space : Bool) → (c == 32) ≡ space → (first_letter (c ∷ cs) == letter) ≡ false
      → ((first_letter cs == letter) ≡ false → behind_letter letter cs ≡ None) → behind_letter letter (c ∷ cs) ≡ None
  step true is other rest =
      let same : (first_letter (c ∷ cs) == letter) ≡ (first_letter cs == letter) = rw is refl in
      rw is (rest (sym same ∙ other))
  step false is other rest =
      let same : (first_letter (c ∷ cs) == letter) ≡ (to_ascii_uppercase c == letter) = rw is refl in
      let differs : (to_ascii_uppercase c == letter) ≡ false = sym same ∙ other in
      rw (is, differs) refl

pub stands_not : (token letter : ℕ) (word codes : List ℕ) → letter ≡ first_letter codes → {test : Bool} → test ≡ begins_with word letter
    → test ≡ false → standing token (behind_word word codes) ≡ None
stands_not token letter [] codes same is never = let e : true ≡ false = sym is ∙ never in cc
stands_not token letter (w ∷ ws) codes same is never =
    let other : (first_letter codes == w) ≡ false = sym (ap (λ (l : ℕ). l == w) same) ∙ sym is ∙ never in
    rw (letter_not w codes other) refl
