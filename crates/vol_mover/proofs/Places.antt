-- Lists of different places, and what is left of them.
use Rattle.std.proofs.Common.{◌≡◌, ◌≢◌, ℕ, suc, Bool, true, false, List, [], ◌∷◌, ◌++◌, map, get_or, refl, ap, sym, ◌∙◌, append_assoc, arith, inl, inr, subst}
use Rattle.std.specs.Prelude.{◌==◌, not, filter, Some, Contains}
use Rattle.std.proofs.lemmas.Bool.{cases_eq, eq-eqb, ne_eqb, eqb-false, not-true, cases_Bool}
use Rattle.std.proofs.lemmas.List.Elements.{filter-append, Contains-append_right, filter_passes}
use Rattle.std.proofs.lemmas.List.Kept.{AllPairs-filter, AllPairs-cons}
use Rattle.vol_layout.specs.Layouts.{AreDistinct}
use Rattle.vol_layout.proofs.Lists.{Contains-cons, Contains-cases, Contains-nil}
use Rattle.vol_format.specs.Directory.{Directory, map_place}
use Rattle.vol_mover.specs.Tasks.{without, lost_after}
use Rattle.vol_mover.specs.Writes.{used, freed, beside, outside}
use Rattle.vol_mover.proofs.Beside.{is_beside}

-- different places
pub apart_head : (x : ℕ) (xs : List ℕ) → AreDistinct (x ∷ xs) → Contains xs x → ⊥
apart_head x xs apart (i, within, e) = apart 0 (suc i) x (omega arith) (omega (arith, within)) (sym e)

pub apart_tail : (x : ℕ) (xs : List ℕ) → AreDistinct (x ∷ xs) → AreDistinct xs
apart_tail x xs apart i j d order within = apart (suc i) (suc j) d (omega (arith, order)) (omega (arith, within))

not_before : (xs ys : List ℕ) (y : ℕ) → AreDistinct (xs ++ y ∷ ys) → Contains xs y → ⊥
not_before [] ys y apart has = Contains-nil y has
not_before (x ∷ xs) ys y apart has =
    elim (Contains-cases x xs y has) [
      | inl same ↦ apart_head x (xs ++ y ∷ ys) apart (subst (Contains (xs ++ y ∷ ys)) (sym same) (Contains-append_right xs (y ∷ ys) y (0, omega arith, refl)))
      | inr later ↦ not_before xs ys y (apart_tail x (xs ++ y ∷ ys) apart) later
    ]

not_behind : (xs ys : List ℕ) (y : ℕ) → AreDistinct (xs ++ y ∷ ys) → Contains ys y → ⊥
not_behind [] ys y apart has = apart_head y ys apart has
not_behind (x ∷ xs) ys y apart has = not_behind xs ys y (apart_tail x (xs ++ y ∷ ys) apart) has

-- without a place that is not there, and without one that is
without-none : (xs : List ℕ) (place : ℕ) → (Contains xs place → ⊥) → without xs place ≡ xs
without-none [] place none = refl
without-none (x ∷ xs) place none =
    let t : (x == place) ≡ false = ne_eqb x place (λ same. none (0, omega arith, same)) in
    rw t (ap (λ ys. x ∷ ys) (without-none xs place (λ has. none (Contains-cons x xs place has))))

without-head : (place : ℕ) (xs : List ℕ) → (Contains xs place → ⊥) → without (place ∷ xs) place ≡ xs
without-head place xs none = let t : (place == place) ≡ true = eq-eqb place place refl in rw t (without-none xs place none)

pub without-between : (xs ys : List ℕ) (place : ℕ) → AreDistinct (xs ++ place ∷ ys) → without (xs ++ place ∷ ys) place ≡ xs ++ ys
without-between xs ys place apart =
    filter-append (λ other. not (other == place)) xs (place ∷ ys)
    ∙ (ap (λ ps. ps ++ without (place ∷ ys) place) (without-none xs place (not_before xs ys place apart))
    ∙ ap (λ ps. xs ++ ps) (without-head place ys (not_behind xs ys place apart)))

pub apart_between : (xs ys : List ℕ) (place : ℕ) → AreDistinct (xs ++ place ∷ ys) → AreDistinct (xs ++ ys)
apart_between xs ys place apart = subst AreDistinct (without-between xs ys place apart) (AllPairs-filter (λ x y. x ≢ y) (λ other. not (other == place)) (xs ++ place ∷ ys) apart)

-- without several places, one after the other
abbrev minus : List ℕ → List ℕ → List ℕ
minus places [] = places
minus places (one ∷ more) = minus (without places one) more

lost_after-freed : (lost places : List ℕ) → lost_after lost (map freed places) ≡ minus lost places
lost_after-freed lost [] = refl
lost_after-freed lost (place ∷ places) = lost_after-freed (without lost place) places

minus-filter : (test : ℕ → Bool) (before places : List ℕ) → AreDistinct (before ++ places)
    → minus (before ++ places) (filter test places) ≡ before ++ filter (λ place. not (test place)) places
minus-filter test before [] apart = refl
minus-filter test before (x ∷ xs) apart =
    elim (cases_Bool (test x)) [
      | inl passes ↦
          rw passes
          (ap (λ ps. minus ps (filter test xs)) (without-between before xs x apart) ∙ minus-filter test before xs (apart_between before xs x apart))
      | inr fails ↦
          let same : (before ++ x ∷ []) ++ xs ≡ before ++ x ∷ xs = append_assoc before (x ∷ []) xs in
          let rest = minus-filter test (before ++ x ∷ []) xs (subst AreDistinct (sym same) apart) in
          rw fails
          (ap (λ ps. minus ps (filter test xs)) (sym same) ∙ (rest ∙ append_assoc before (x ∷ []) (filter (λ place. not (test place)) xs)))
    ]

-- the places beside another, and those in other units, out of the list without that other
beside-without : (directory : Directory) (place : ℕ) (lost : List ℕ) → beside directory place lost ≡ filter (is_beside directory place) (without lost place)
beside-without directory place [] = refl
beside-without directory place (x ∷ xs) =
    let rest = beside-without directory place xs in
    elim (cases_eq x place) [
      | inl same ↦ let t : (x == place) ≡ true = eq-eqb x place same in rw t rest
      | inr ne ↦
          let t : (x == place) ≡ false = ne_eqb x place ne in
          elim (cases_Bool (map_place directory x == map_place directory place)) [
            | inl here ↦ rw (t, here, t) (ap (λ ys. x ∷ ys) rest)
            | inr far ↦ rw (t, far, t) rest
          ]
    ]

outside-without : (directory : Directory) (place : ℕ) (lost : List ℕ)
    → outside directory (Some (map_place directory place)) lost ≡ filter (λ other. not (is_beside directory place other)) (without lost place)
outside-without directory place [] = refl
outside-without directory place (x ∷ xs) =
    let rest = outside-without directory place xs in
    elim (cases_eq x place) [
      | inl same ↦
          let t : (x == place) ≡ true = eq-eqb x place same in
          let u : (map_place directory x == map_place directory place) ≡ true = eq-eqb (map_place directory x) (map_place directory place) (ap (map_place directory) same) in
          rw (t, u) rest
      | inr ne ↦
          let t : (x == place) ≡ false = ne_eqb x place ne in
          elim (cases_Bool (map_place directory x == map_place directory place)) [
            | inl here ↦ rw (t, here, t) rest
            | inr far ↦ rw (t, far, t) (ap (λ ys. x ∷ ys) rest)
          ]
    ]

-- a place is different from all others
apart_cons : (place : ℕ) (lost : List ℕ) → AreDistinct lost → AreDistinct (place ∷ without lost place)
apart_cons place lost apart =
    AllPairs-cons (λ x y. x ≢ y) place (without lost place)
    (λ i d within same. eqb-false (get_or (without lost place) i d) place
    (not-true (get_or (without lost place) i d == place) (filter_passes (λ other. not (other == place)) lost i d within)) (sym same))
    (AllPairs-filter (λ x y. x ≢ y) (λ other. not (other == place)) lost apart)

-- what the write leaves lost that marks a place used
pub lost_after-first : (directory : Directory) (place : ℕ) (lost : List ℕ) → AreDistinct lost
    → lost_after lost (used place ∷ map freed (beside directory place lost)) ≡ place ∷ outside directory (Some (map_place directory place)) lost
lost_after-first directory place lost apart =
    lost_after-freed (place ∷ without lost place) (beside directory place lost)
    ∙ (ap (minus (place ∷ without lost place)) (beside-without directory place lost)
    ∙ (minus-filter (is_beside directory place) (place ∷ []) (without lost place) (apart_cons place lost apart)
    ∙ ap (λ ps. place ∷ ps) (sym (outside-without directory place lost))))
