-- What is marked after several marks.
use Rattle.std.specs.Prelude.{◌≡◌, ◌≢◌, ◌⊎◌, ◌<◌, ℕ, zero, suc, Bool, false, List, [], ◌∷◌, length, All, Contains}
use Rattle.std.proofs.Common.{refl, sym, ◌∙◌, ap, subst, arith, inl, inr}
use Rattle.std.proofs.lemmas.Bool.{cases_eq}
use Rattle.std.proofs.lemmas.List.{get_or-set_same}
use Rattle.std.proofs.Math.ListN.{length-set}
use Rattle.vol_format.specs.Directory.{Directory, is_free, remapped}
use Rattle.vol_laws.specs.Marked.{marked}
use Rattle.vol_laws.specs.declared.mark.Mark.{Mark}
use Rattle.vol_laws.proofs.Marks.{other_mark}

pub others_stay : (marks : List Mark) (directory : Directory) (place : ℕ) → All (λ (mark : Mark). mark.place ≢ place) marks
    → is_free (marked directory marks) place ≡ is_free directory place
others_stay [] directory place differ = refl
others_stay (mark ∷ marks) directory place differ =
    others_stay marks (remapped directory mark.place mark.free) place (λ i d inside. differ (suc i) d (omega (arith, inside)))
    ∙ other_mark directory mark.place mark.free place (λ same. differ 0 mark (omega arith) (sym same))

first_or_later : (first : Mark) (marks : List Mark) (mark : Mark) → Contains (first ∷ marks) mark → (first ≡ mark) ⊎ Contains marks mark
first_or_later first marks mark (zero, within, is) = inl is
first_or_later first marks mark (suc i, within, is) = inr (i, omega arith, is)

module _ (mark : Mark) where
  agree : (marks : List Mark) (directory : Directory) → mark.place < length directory.free → (is_free directory mark.place ≡ mark.free) ⊎ Contains marks mark
      → All (λ (other : Mark). other.place ≡ mark.place → other.free ≡ mark.free) marks → is_free (marked directory marks) mark.place ≡ mark.free
  agree [] directory inside (inl is) same = is
  agree [] directory inside (inr (i, within, e)) same = absurd (omega (arith, within))
  agree (first ∷ marks) directory inside has same =
      let next = remapped directory first.place first.free in
      agree marks next (subst (λ n. mark.place < n) (sym (length-set {A = Bool} directory.free first.place first.free)) inside) (now has)
      (λ i d within. same (suc i) d (omega (arith, within)))
    where
      now : (is_free directory mark.place ≡ mark.free) ⊎ Contains (first ∷ marks) mark
          → (is_free (remapped directory first.place first.free) mark.place ≡ mark.free) ⊎ Contains marks mark
      now before = elim (cases_eq mark.place first.place) [
        | inl at ↦ inl (
            ap (is_free (remapped directory first.place first.free)) at
            ∙ get_or-set_same directory.free first.place first.free false (subst (λ n. n < length directory.free) at inside)
            ∙ same 0 first (omega arith) (sym at)
            )
        | inr differ ↦ elim before [
          | inl is ↦ inl (other_mark directory first.place first.free mark.place differ ∙ is)
          | inr has' ↦ elim (first_or_later first marks mark has') [
            | inl is ↦ absurd (differ (sym (ap (λ (m : Mark). m.place) is)))
            | inr later ↦ inr later
          ]
        ]
      ]

  pub reads_back : (marks : List Mark) (directory : Directory) → mark.place < length directory.free → Contains marks mark
      → All (λ (other : Mark). other.place ≡ mark.place → other.free ≡ mark.free) marks → is_free (marked directory marks) mark.place ≡ mark.free
  reads_back marks directory inside has same = agree marks directory inside (inr has) same
