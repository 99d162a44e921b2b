-- Bytes that are read from a front.
use Rattle.std.proofs.Common.{◌≡◌, ◌∙◌, ℕ, ◌+◌, ◌≤◌, List, ◌++◌, length, take, drop, ap, sym, arith, take-append-drop}
use Rattle.std.proofs.lemmas.List.{drop-drop}
use Rattle.std.proofs.lemmas.Grind.{common_steps}

front : (left tail : List ℕ) (n : ℕ) → n ≤ length left → take n (take n left ++ tail) ≡ take n left
front left tail n within = grind (arith, common_steps)

-- what was left is what was read, and what is left
pub consumed : (bytes copied tail : List ℕ) (read n : ℕ) → n ≤ length (drop read bytes) → copied ≡ take n (drop read bytes)
    → drop read bytes ≡ take n (copied ++ tail) ++ drop (read + n) bytes
consumed bytes copied tail read n within is =
    sym (take-append-drop n (drop read bytes))
    ∙ (ap (λ f. f ++ drop n (drop read bytes)) (sym (ap (λ f. take n (f ++ tail)) is ∙ front (drop read bytes) tail n within))
    ∙ ap (λ r. take n (copied ++ tail) ++ r) (drop-drop n read bytes))
