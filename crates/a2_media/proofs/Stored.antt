-- Units of which one is written over, and those that can't be read.
use Rattle.std.proofs.Common.{◌≡◌, ◌≢◌, ℕ, zero, suc, ◌<◌, Bool, true, false, cond, List, [], ◌∷◌, length, set, Some, None, refl, sym, ◌∙◌, ap, subst, arith, length-set}
use Rattle.std.specs.Prelude.{Option, is_none, ◌==◌, All, Contains, filter, unwrap_or, replicate}
use Rattle.std.specs.List.{range_with_len}
use Rattle.std.proofs.lemmas.Bool.Decides.{nat_tests}
use Rattle.std.proofs.lemmas.List.{get_or-set_same, get_or-set_other, map-set}
use Rattle.std.proofs.lemmas.List.Elements.{All-contains, All-filter, Contains-append_right, Contains-get_or, filter_agree, filter_passes}
use Rattle.std.proofs.lemmas.List.FromFn.{length-range_with_len, get_or-range_with_len}
use Rattle.a2_media.specs.ImageDevice.{unit_at-stored_units}
use Rattle.a2_device.specs.Device.{unit_at}
use Rattle.a2_media.specs.Units.{unit_in, stored_units, unreadable_places, AreUnits}

-- what is kept of a list has each element that passes
Contains-filter : (p : ℕ → Bool) (xs : List ℕ) (x : ℕ) → Contains xs x → p x ≡ true → Contains (filter p xs) x
Contains-filter p [] x (k, within, is) passes = absurd (omega arith)
Contains-filter p (y ∷ xs) x (zero, within, is) passes =
    let kept : filter p (y ∷ xs) ≡ y ∷ filter p xs = ap (λ b. cond b (y ∷ filter p xs) (filter p xs)) (ap p is ∙ passes) in
    subst (λ ys. Contains ys x) (sym kept) (0, omega arith, is)
Contains-filter p (y ∷ xs) x (suc k, within, is) passes = later (p y) (Contains-filter p xs x (k, omega arith, is) passes)
  where
    later : (b : Bool) → Contains (filter p xs) x → Contains (cond b (y ∷ filter p xs) (filter p xs)) x
    later true in' = Contains-append_right (y ∷ []) (filter p xs) x in'
    later false in' = in'

Contains-range : (n place : ℕ) → place < n → Contains (range_with_len 0 n) place
Contains-range n place within =
    subst (Contains (range_with_len 0 n)) (get_or-range_with_len 0 n place 0 within ∙ omega arith)
    (Contains-get_or (range_with_len 0 n) place 0 (omega (arith, length-range_with_len 0 n)))

-- a place that can't be read has no unit, and the other way round
pub unreadable-none : (units : List (Option (List ℕ))) (place : ℕ) → Contains (unreadable_places units) place → unit_in units place ≡ None
unfolding unreadable_places
unreadable-none units place in' = none (unit_in units place)
    (All-contains (λ x. is_none (unit_in units x) ≡ true) (filter (λ x. is_none (unit_in units x)) (range_with_len 0 (length units))) place
    (filter_passes (λ x. is_none (unit_in units x)) (range_with_len 0 (length units))) in')
  where
    none : (unit : Option (List ℕ)) → is_none unit ≡ true → unit ≡ None
    none None is = refl
    none (Some unit) is = absurd (cc)

pub unreadable-within : (units : List (Option (List ℕ))) (place : ℕ) → Contains (unreadable_places units) place → place < length units
unfolding unreadable_places
unreadable-within units place in' =
    All-contains (λ x. x < length units) (filter (λ x. is_none (unit_in units x)) (range_with_len 0 (length units))) place
    (All-filter (λ x. is_none (unit_in units x)) (λ x. x < length units) (range_with_len 0 (length units)) below) in'
  where
    below : All (λ x. x < length units) (range_with_len 0 (length units))
    below k d within =
        let few : k < length units = omega (arith, length-range_with_len 0 (length units)) in
        subst (λ n. n < length units) (sym (get_or-range_with_len 0 (length units) k d few)) (omega arith)

pub none-unreadable : (units : List (Option (List ℕ))) (place : ℕ) → place < length units → unit_in units place ≡ None → Contains (unreadable_places units) place
unfolding unreadable_places
none-unreadable units place within none =
    Contains-filter (λ x. is_none (unit_in units x)) (range_with_len 0 (length units)) place (Contains-range (length units) place within) (ap (λ unit. is_none unit) none)

-- what is read of a unit that is there
pub unit_at-there : (size : ℕ) (units : List (Option (List ℕ))) (place : ℕ) (unit : List ℕ) → place < length units
    → unit_in units place ≡ Some unit → unit_at (stored_units size units) place ≡ unit
unit_at-there size units place unit within is = unit_at-stored_units size units place within ∙ ap (λ u. unwrap_or u (replicate size 0)) is

-- a unit that was there is written over
pub stored_units-set : (size : ℕ) (units : List (Option (List ℕ))) (place : ℕ) (unit : List ℕ)
    → stored_units size (set units place (Some unit)) ≡ set (stored_units size units) place unit
unfolding stored_units
stored_units-set size units place unit = map-set (λ u. unwrap_or u (replicate size 0)) units place (Some unit)

module _ (units : List (Option (List ℕ))) (place : ℕ) (unit : List ℕ) where
  -- whether one that was there is written over makes no difference to which are there
  is_none-set : place < length units → unit_in units place ≢ None → (x : ℕ) → is_none (unit_in (set units place (Some unit)) x) ≡ is_none (unit_in units x)
  is_none-set within has x = each (x == place) refl
    where
      there : (u : Option (List ℕ)) → u ≢ None → false ≡ is_none u
      there None has' = absurd (has' refl)
      there (Some u) has' = refl

      each : (same : Bool) → (x == place) ≡ same → is_none (unit_in (set units place (Some unit)) x) ≡ is_none (unit_in units x)
      each true test =
          let same : place ≡ x = grind (arith, nat_tests) in
          subst (λ j. is_none (unit_in (set units place (Some unit)) j) ≡ is_none (unit_in units j)) same
          (ap (λ u. is_none u) (get_or-set_same units place (Some unit) None within) ∙ there (unit_in units place) has)
      each false test =
          let differ : x ≢ place = grind (arith, nat_tests) in
          ap (λ u. is_none u) (get_or-set_other units place x (Some unit) None differ)

  pub unreadable_places-set : place < length units → unit_in units place ≢ None → unreadable_places (set units place (Some unit)) ≡ unreadable_places units
  unfolding unreadable_places
  unreadable_places-set within has =
      ap (λ n. filter (λ x. is_none (unit_in (set units place (Some unit)) x)) (range_with_len 0 n)) (length-set units place (Some unit))
      ∙ filter_agree (λ x. is_none (unit_in (set units place (Some unit)) x)) (λ x. is_none (unit_in units x)) (is_none-set within has) (range_with_len 0 (length units))

  pub AreUnits-set : (size places : ℕ) → place < length units → AreUnits size places units → length unit ≡ size → AreUnits size places (set units place (Some unit))
  AreUnits-set size places within are long = record {
    count = length-set units place (Some unit) ∙ are.count;
    sized = λ x u below is. each x u below is (x == place) refl;
  }
    where
      written : (u : List ℕ) → unit_in (set units place (Some unit)) place ≡ Some u → length u ≡ size
      written u is =
          let one : Some unit ≡ Some u = sym (get_or-set_same units place (Some unit) None within) ∙ is in
          let same : u ≡ unit = cc in
          ap length same ∙ long

      each : (x : ℕ) (u : List ℕ) → x < places → unit_in (set units place (Some unit)) x ≡ Some u → (same : Bool) → (x == place) ≡ same → length u ≡ size
      each x u below is false test =
          let differ : x ≢ place = grind (arith, nat_tests) in
          are.sized x u below (sym (get_or-set_other units place x (Some unit) None differ) ∙ is)
      each x u below is true test =
          let same : x ≡ place = grind (arith, nat_tests) in
          written u (subst (λ j. unit_in (set units place (Some unit)) j ≡ Some u) same is)
