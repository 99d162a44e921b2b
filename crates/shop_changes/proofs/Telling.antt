-- Two texts that are written one after the other.
use Rattle.std.proofs.Common.{◌≡◌, ◌∙◌, ℕ, List, ◌++◌, inl, inr, refl, sym}
use Rattle.std.specs.Prelude.{Option}
use Rattle.std.specs.Io.KnownBytes.{Appends}
use Rattle.shop_replies.specs.Reply.{IsWritten}
use Rattle.shop_replies.proofs.Appended.{appends_both, front_before, front_behind}

module _ (old mid new : Option (List ℕ)) (front rear : List ℕ) where
  then_written : (result : ℕ) → Appends old mid front → IsWritten 0 rear result mid new → IsWritten 0 (front ++ rear) result old new
  then_written result first then = elim then [
    | inl all ↦ inl (all.0, appends_both old mid new front rear first all.1)
    | inr some ↦ inr (some.0, front_behind old mid new front rear first some.1)
  ]

  pub both_written : (first result : ℕ) → IsWritten 0 front first old mid → (first ≡ 4 → ⊥) → IsWritten 0 rear result mid new → IsWritten 0 (front ++ rear) result old new
  both_written first result one well then = elim one [
    | inl all ↦ then_written result all.1 then
    | inr some ↦ absurd (well some.0)
  ]

-- a writer that failed in the first
pub only_first : (old new : Option (List ℕ)) (front rear : List ℕ) (first : ℕ) → IsWritten 0 front first old new → first ≡ 4 → IsWritten 0 (front ++ rear) 4 old new
only_first old new front rear first one failed = elim one [
  | inl all ↦ let zero = sym all.0 ∙ failed in cc
  | inr some ↦ inr (refl, front_before old new front rear some.1)
]
