-- A table with one more place.
use Rattle.std.proofs.Common.{◌≡◌, ◌⊎◌, ℕ, suc, ◌+◌, ◌<◌, Bool, true, false, List, [], ◌∷◌, ◌++◌, length, get_or, set, take, arith, sym, ap, ◌∙◌, subst, inl, inr}
use Rattle.std.specs.List.{Contains}
use Rattle.std.proofs.Math.Seq.{take-suc}
use Rattle.std.proofs.lemmas.List.{get_or-set_same, get_or-set_other}
use Rattle.std.proofs.lemmas.List.Elements.{Contains-push, Contains-push_cases, Contains-append_left}
use Rattle.std.proofs.lemmas.Bool.{cases_eq}
use Rattle.vol_layout.specs.Reserved.{HasPlaces, is_reserved}

pub table_more : (table : List Bool) (places : List ℕ) (i : ℕ) → i < length places → get_or places i 0 < length table
    → HasPlaces table (take i places) → HasPlaces (set table (get_or places i 0) true) (take (i + 1) places)
table_more table places i within fits has place =
    let next : i + 1 ≡ suc i = omega arith in
    let longer : take (i + 1) places ≡ take i places ++ (get_or places i 0 ∷ []) = ap (λ n. take n places) next ∙ take-suc places i 0 within in (
      λ is. subst (λ ps. Contains ps place) (sym longer) (there is),
      λ among. back (Contains-push_cases (take i places) (get_or places i 0) place (subst (λ ps. Contains ps place) longer among)),
    )
  where
    there : is_reserved (set table (get_or places i 0) true) place ≡ true → Contains (take i places ++ (get_or places i 0 ∷ [])) place
    there is = elim (cases_eq place (get_or places i 0)) [
      | inl same ↦ subst (λ p. Contains (take i places ++ (get_or places i 0 ∷ [])) p) (sym same) (Contains-push (take i places) (get_or places i 0))
      | inr other ↦ Contains-append_left (take i places) (get_or places i 0 ∷ []) place
          ((has place).0 (sym (get_or-set_other table (get_or places i 0) place true false other) ∙ is))
    ]

    back : Contains (take i places) place ⊎ (get_or places i 0 ≡ place) → is_reserved (set table (get_or places i 0) true) place ≡ true
    back (inl before) = elim (cases_eq place (get_or places i 0)) [
      | inl same ↦ subst (λ p. get_or (set table (get_or places i 0) true) p false ≡ true) (sym same) (get_or-set_same table (get_or places i 0) true false fits)
      | inr other ↦ get_or-set_other table (get_or places i 0) place true false other ∙ (has place).1 before
    ]
    back (inr now) = subst (λ p. get_or (set table (get_or places i 0) true) p false ≡ true) now (get_or-set_same table (get_or places i 0) true false fits)
