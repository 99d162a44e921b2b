-- A change of the map fits, and leaves one place lost.
use Rattle.std.proofs.Common.{◌≡◌, ◌≢◌, ℕ, ◌+◌, ◌≤◌, Bool, true, false, List, [], ◌∷◌, ◌++◌, length, map, get_or, refl, ap, sym, arith, subst}
use Rattle.std.specs.Prelude.{◌==◌, ◌&&◌, not, Some, All}
use Rattle.std.proofs.lemmas.Bool.{eqb-true, eqb-false, not-true}
use Rattle.std.proofs.lemmas.List.Elements.{All-cons, All-head, All-map, All-filter, All-contains, filter_passes, All-contains_itself}
use Rattle.std.proofs.lemmas.List.Filters.{length-filter_both}
use Rattle.std.proofs.lemmas.List.Kept.{AllPairs-filter, AllPairs-cons}
use Rattle.vol_layout.specs.Layouts.{AreDistinct}
use Rattle.vol_format.proofs.Filters.{out_of_filter}
use Rattle.vol_format.specs.Directory.{Directory, map_place}
use Rattle.vol_format.specs.Laws.{IsDirectory}
use Rattle.vol_format.specs.Meaning.{Meaning}
use Rattle.vol_mover.specs.Tasks.{Task, FitsMark, IsAgenda}
use Rattle.vol_mover.specs.Writes.{used, freed, beside, outside, releases, change}
use Rattle.vol_mover.proofs.Beside.{is_beside}
use Rattle.vol_mover.proofs.Places.{lost_after-first}
use Rattle.vol_mover.proofs.Released.{IsFew, released}
use Rattle.vol_mover.proofs.Spare.{IsSpare, between, spare_used, spare_freed, available_below, two_units}

both : (a b : Bool) → (a && b) ≡ true → b ≡ true
both true b e = e
both false b e = absurd (let f : false ≡ true = e in cc)

-- the places of other units
abbrev pub others : Directory → ℕ → List ℕ → List ℕ
others directory place lost = outside directory (Some (map_place directory place)) lost

pub other_place : (directory : Directory) (place : ℕ) (lost : List ℕ) → All (λ o. map_place directory o ≢ map_place directory place) (others directory place lost)
other_place directory place lost i d within =
    let o = get_or (others directory place lost) i d in
    eqb-false (map_place directory o) (map_place directory place)
    (not-true (map_place directory o == map_place directory place)
    (filter_passes (λ p. not (map_place directory p == map_place directory place)) lost i d within))

pub apart_others : (directory : Directory) (place : ℕ) (lost : List ℕ) → AreDistinct lost → AreDistinct (place ∷ others directory place lost)
apart_others directory place lost apart =
    AllPairs-cons (λ x y. x ≢ y) place (others directory place lost)
    (λ i d within same. other_place directory place lost i d within (ap (map_place directory) (sym same)))
    (AllPairs-filter (λ x y. x ≢ y) (λ p. not (map_place directory p == map_place directory place)) lost apart)

pub few_others : (directory : Directory) (place : ℕ) (lost : List ℕ) → length (others directory place lost) ≤ length lost
few_others directory place lost =
    omega (arith, length-filter_both (λ p. not (map_place directory p == map_place directory place)) (λ p. not (not (map_place directory p == map_place directory place))) (λ p. refl) lost)

module _ (format : Meaning) (directory : Directory) (is : IsDirectory format directory) (first : ℕ) (at : List ℕ) (m : ℕ) where
  abbrev units : ℕ
  units = length directory.map_units

  -- the marks of the first write
  marks_fit : (place w : ℕ) (lost : List ℕ) → IsSpare directory at place → All (IsSpare directory at) lost
      → All (FitsMark directory (between at lost w m) (map_place directory place)) (used place ∷ map freed (beside directory place lost))
  marks_fit place w lost spare all =
      All-cons (FitsMark directory (between at lost w m) (map_place directory place)) (used place) (map freed (beside directory place lost))
      (spare_used directory at lost w m place spare)
      (All-map (FitsMark directory (between at lost w m) (map_place directory place)) freed (beside directory place lost)
      (λ i d within.
      let b = get_or (beside directory place lost) i d in
      let has = out_of_filter (is_beside directory place) lost b (All-contains_itself (beside directory place lost) i d within) in
      spare_freed directory at lost w m (map_place directory place) b (All-contains (IsSpare directory at) lost b all has.0)
      (eqb-true (map_place directory b) (map_place directory place) (both (not (b == place)) (map_place directory b == map_place directory place) has.1)) has.0))

  -- the writes after it
  rest_fits : (place w : ℕ) (places : List ℕ) (rest : List Task) (most : ℕ) → AreDistinct (place ∷ places) → All (IsSpare directory at) places → IsSpare directory at place
      → All (λ o. map_place directory o ≢ map_place directory place) places → length places + 1 ≤ most
      → (2 ≤ units → (lost v : ℕ) → lost ≤ most → IsFew units first v m lost)
      → ((v : ℕ) → IsAgenda directory first (between at (place ∷ []) v m) rest)
      → IsAgenda directory first (between at (place ∷ places) w m) (releases directory places ++ rest)
  rest_fits place w [] rest most apart all spare far size few next = next w
  rest_fits place w (o ∷ os) rest most apart all spare far size few next =
      let two = two_units format directory is o place (All-head (IsSpare directory at) o os all).available spare.available
      (All-head (λ p. map_place directory p ≢ map_place directory place) o os far) in
      released format directory is first at m (place ∷ []) (o ∷ os) w rest apart all (λ lost v few_lost which. few two lost v (omega (arith, few_lost, size))) next

  pub changed : (place w : ℕ) (lost : List ℕ) (rest : List Task) → AreDistinct lost → All (IsSpare directory at) lost → IsSpare directory at place
      → IsFew units first w m (length lost) → (2 ≤ units → (n v : ℕ) → n ≤ length lost + 1 → IsFew units first v m n)
      → ((v : ℕ) → IsAgenda directory first (between at (place ∷ []) v m) rest)
      → IsAgenda directory first (between at lost w m) (change directory place lost ++ rest)
  changed place w lost rest apart all spare now few next = (
    (refl, is.map_below place (available_below format directory is place spare.available), marks_fit place w lost spare all),
    now,
    subst (λ left. IsAgenda directory first (between at left (w + 1) m) (releases directory (others directory place lost) ++ rest)) (sym (lost_after-first directory place lost apart))
        (rest_fits place (w + 1) (others directory place lost) rest (length lost + 1) (apart_others directory place lost apart)
        (All-filter (λ p. not (map_place directory p == map_place directory place)) (IsSpare directory at) lost all) spare (other_place directory place lost)
        (omega (arith, few_others directory place lost)) few next),
  )
