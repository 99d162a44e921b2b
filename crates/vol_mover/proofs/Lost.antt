-- The lost places after some marks, and which places the marks leave used.
use Rattle.std.specs.Prelude.{◌≡◌, ◌≢◌, ◌↔◌, ◌<◌, ◌==◌, ℕ, suc, Bool, true, false, not, if◌then◌else◌, List, [], ◌∷◌, length, slice_index_or, All, Contains}
use Rattle.std.proofs.Common.{sym, ◌∙◌, ap, subst, arith, inl, inr}
use Rattle.std.proofs.lemmas.Bool.{cases_eq}
use Rattle.std.proofs.lemmas.Bool.Decides.{nat_tests}
use Rattle.std.proofs.Math.ListN.{length-set}
use Rattle.vol_layout.proofs.Lists.{Contains-cons, Contains-cases}
use Rattle.vol_format.specs.Directory.{Directory, is_free, remapped}
use Rattle.vol_format.proofs.Filters.{in_filter, out_of_filter}
use Rattle.vol_laws.specs.Marked.{marked}
use Rattle.vol_laws.specs.declared.mark.Mark.{Mark}
use Rattle.vol_laws.proofs.Marks.{other_mark, marked_free, marked_used}
use Rattle.vol_mover.specs.Tasks.{without, lost_after}

not_same : (x place : ℕ) → not (x == place) ≡ true → x ≢ place
not_same x place is = grind (arith, nat_tests)

differs : (x place : ℕ) → x ≢ place → not (x == place) ≡ true
differs x place differ = grind (arith, nat_tests)

pub in_without : (places : List ℕ) (place x : ℕ) → Contains (without places place) x ↔ (Contains places x × (x ≢ place))
in_without places place x = (
  λ has. let both = out_of_filter (λ other. not (other == place)) places x has in (both.0, not_same x place both.1),
  λ both. in_filter (λ other. not (other == place)) places x both.0 (differs x place both.1),
)

-- these places are those that are marked used and pass a test
abbrev pub AreUsed : (ℕ → Type 0) → Directory → List ℕ → Type 0
AreUsed Spare directory lost = (x : ℕ) → Contains lost x ↔ (Spare x × (is_free directory x ≡ false))

module _ (Spare : ℕ → Type 0) where
  after_release : (directory : Directory) (lost : List ℕ) (place : ℕ) → place < length directory.free → AreUsed Spare directory lost
      → AreUsed Spare (remapped directory place true) (without lost place)
  after_release directory lost place inside are x = (to, from)
    where
      to : Contains (without lost place) x → Spare x × (is_free (remapped directory place true) x ≡ false)
      to has =
          let both = (in_without lost place x).0 has in
          let was = (are x).0 both.0 in
          (was.0, other_mark directory place true x both.1 ∙ was.1)

      from : Spare x × (is_free (remapped directory place true) x ≡ false) → Contains (without lost place) x
      from now = elim (cases_eq x place) [
        | inl same ↦
            let free = ap (is_free (remapped directory place true)) same ∙ marked_free directory place inside in
            let used = now.1 in
            absurd (cc (free, used))
        | inr differ ↦ (in_without lost place x).1 ((are x).1 (now.0, sym (other_mark directory place true x differ) ∙ now.1), differ)
      ]

  after_use : (directory : Directory) (lost : List ℕ) (place : ℕ) → Spare place → AreUsed Spare directory lost
      → AreUsed Spare (remapped directory place false) (place ∷ without lost place)
  after_use directory lost place spare are x = (to, from)
    where
      used : is_free (remapped directory place false) place ≡ false
      used = marked_used directory place

      to : Contains (place ∷ without lost place) x → Spare x × (is_free (remapped directory place false) x ≡ false)
      to has = elim (Contains-cases place (without lost place) x has) [
        | inl same ↦ subst (λ y. Spare y × (is_free (remapped directory place false) y ≡ false)) same (spare, used)
        | inr later ↦
            let both = (in_without lost place x).0 later in
            let was = (are x).0 both.0 in
            (was.0, other_mark directory place false x both.1 ∙ was.1)
      ]

      from : Spare x × (is_free (remapped directory place false) x ≡ false) → Contains (place ∷ without lost place) x
      from now = elim (cases_eq x place) [
        | inl same ↦ (0, omega arith, sym same)
        | inr differ ↦
            Contains-cons place (without lost place) x
            ((in_without lost place x).1 ((are x).1 (now.0, sym (other_mark directory place false x differ) ∙ now.1), differ))
      ]

  after_mark : (free : Bool) (directory : Directory) (lost : List ℕ) (place : ℕ) → place < length directory.free → Spare place → AreUsed Spare directory lost
      → AreUsed Spare (remapped directory place free) (if free then without lost place else (place ∷ without lost place))
  after_mark true directory lost place inside spare are = after_release directory lost place inside are
  after_mark false directory lost place inside spare are = after_use directory lost place spare are

  -- each mark of a place that passes the test and has a bit in the map
  pub after_marks : (marks : List Mark) (directory : Directory) (lost : List ℕ) → All (λ (mark : Mark). (mark.place < length directory.free) × Spare mark.place) marks
      → AreUsed Spare directory lost → AreUsed Spare (marked directory marks) (lost_after lost marks)
  after_marks [] directory lost fit are = are
  after_marks (mark ∷ marks) directory lost fit are =
      let first = fit 0 mark (omega arith) in
      after_marks marks (remapped directory mark.place mark.free) (if mark.free then without lost mark.place else (mark.place ∷ without lost mark.place))
      (λ i d inside.
      let later = fit (suc i) d (omega (arith, inside)) in
      (subst (λ n. (slice_index_or marks i d).place < n) (sym (length-set {A = Bool} directory.free mark.place mark.free)) later.0, later.1))
      (after_mark mark.free directory lost mark.place first.0 first.1 are)
