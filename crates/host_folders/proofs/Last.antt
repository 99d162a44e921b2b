-- A text and its last character.
use Rattle.std.proofs.Common.{◌≡◌, ℕ, false, List, [], ◌∷◌, ◌++◌, if◌then◌else◌, refl, ap, ◌∙◌}
use Rattle.std.specs.List.{AllByRecursion}
use Rattle.host_folders.specs.HostNames.{escape, is_bad_last, safe_last}

-- a text with something before its last character
later : (c : ℕ) (text : List ℕ) (d : ℕ) (end : List ℕ)
    → safe_last (c ∷ (text ++ d ∷ end)) ≡ c ∷ safe_last (text ++ d ∷ end)
later c [] d end = refl
later c (e ∷ text) d end = refl

pub safe_last_append : (text : List ℕ) (c : ℕ) (end : List ℕ)
    → safe_last (text ++ c ∷ end) ≡ text ++ safe_last (c ∷ end)
safe_last_append [] c end = refl
safe_last_append (d ∷ text) c end = later d text c end ∙ ap (λ (cs : List ℕ). d ∷ cs) (safe_last_append text c end)

pub safe_last_push : (text : List ℕ) (c : ℕ)
    → safe_last (text ++ c ∷ []) ≡ text ++ (if is_bad_last c then escape c else c ∷ [])
safe_last_push text c = safe_last_append text c []

-- a text in which each character may stand last
pub safe_last_good : (text : List ℕ) → AllByRecursion (λ c. is_bad_last c ≡ false) text → safe_last text ≡ text
safe_last_good [] h = refl
safe_last_good (c ∷ []) h = rw (h.0) refl
safe_last_good (c ∷ d ∷ text) h = ap (λ (cs : List ℕ). c ∷ cs) (safe_last_good (d ∷ text) h.1)
