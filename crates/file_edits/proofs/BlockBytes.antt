-- The parts of a block, written one behind the other.
use Rattle.std.specs.Prelude.{◌≡◌, ℕ, List, [], ◌++◌}
use Rattle.std.proofs.Common.{◌∙◌, ap}

pub six_parts : (none a b c d e whole p q r s t rest : List ℕ) → none ≡ [] → a ≡ none ++ p → b ≡ a ++ q → c ≡ b ++ r → d ≡ c ++ s → e ≡ d ++ t → whole ≡ e ++ rest
    → (p' q' t' : List ℕ) → p ≡ p' → q ≡ q' → t ≡ t' → whole ≡ p' ++ q' ++ r ++ s ++ t' ++ rest
six_parts none a b c d e whole p q r s t rest none_is a_is b_is c_is d_is e_is whole_is p' q' t' p_is q_is t_is =
    let first : a ≡ p' = a_is ∙ ap (λ l. l ++ p) none_is ∙ p_is in
    let second : b ≡ p' ++ q' = b_is ∙ ap (λ l. l ++ q) first ∙ ap (λ l. p' ++ l) q_is in
    let third : c ≡ p' ++ q' ++ r = c_is ∙ ap (λ l. l ++ r) second in
    let fourth : d ≡ p' ++ q' ++ r ++ s = d_is ∙ ap (λ l. l ++ s) third in
    let fifth : e ≡ p' ++ q' ++ r ++ s ++ t' = e_is ∙ ap (λ l. l ++ t) fourth ∙ ap (λ l. p' ++ q' ++ r ++ s ++ l) t_is in
    whole_is ∙ ap (λ l. l ++ rest) fifth
