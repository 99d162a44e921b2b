-- What shows a code is told from what shows another by its front.
use Rattle.std.proofs.Common.{◌≡◌, ◌≢◌, ℕ, ◌<◌, List, [], ◌∷◌, ◌++◌, arith, refl, sym, map}
use Rattle.std.proofs.lemmas.Grind.{common_steps}
use Rattle.apple_text.specs.Shown.{character, low, shown_code, shown_text}

pub front : (c d : ℕ) (s t : List ℕ) → c < 128 → d < 128 → shown_code c ++ s ≡ shown_code d ++ t → (c ≡ d) × (s ≡ t)
front c d s t small small' e = grind (arith, common_steps)

pub some : (c : ℕ) (s : List ℕ) → shown_code c ++ s ≢ []
some c s e = grind (arith, common_steps)

-- the same of the characters of a line
pub character_front : (c d : ℕ) (s t : List ℕ) → c < 128 → d < 128 → character c ++ s ≡ character d ++ t → (c ≡ d) × (s ≡ t)
character_front c d s t small small' e = grind (arith, common_steps)

pub some_character : (c : ℕ) (s : List ℕ) → character c ++ s ≢ []
some_character c s e = grind (arith, common_steps)

pub alike : (a b : List ℕ) → shown_text a ≡ shown_text b → map low a ≡ map low b
alike [] [] e = refl
alike (x ∷ a) [] e = absurd (some (low x) (shown_text a) e)
alike [] (y ∷ b) e = absurd (some (low y) (shown_text b) (sym e))
alike (x ∷ a) (y ∷ b) e =
    let p = front (low x) (low y) (shown_text a) (shown_text b) (omega arith) (omega arith) e in
    let rest : map low a ≡ map low b = alike a b p.1 in
    let first : low x ≡ low y = p.0 in
    cc
