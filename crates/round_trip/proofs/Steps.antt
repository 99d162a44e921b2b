-- What stands at the places of a plan, by the steps that put it there.
use Rattle.std.proofs.Common.{◌≡◌, ◌<◌, ◌≤◌, ◌+◌, ◌∙◌, ℕ, suc, zero, true, false, List, [], ◌∷◌, Option, Some, None, length, refl, sym, ap, subst, arith}
use Rattle.std.specs.Prelude.{Bool, Contains, Ok, cond, filter, map, slice_get}
use Rattle.std.specs.List.{cons_option, enumerate_from, filter_map}
use Rattle.std.specs.Option.{is_some}
use Rattle.std.proofs.lemmas.List.Elements.{Contains-append_right}
use Rattle.folder_adding.specs.HostEntries.{EntryView}
use Rattle.folder_adding.specs.Plan.{AreSteps}
use Rattle.folder_adding.specs.Verdicts.{AddedFolder, IsVerdict, Step}

-- the numbers of the steps that pass a test, counted from a number on
abbrev pub numbers_from : (Step → Bool) → ℕ → List Step → List ℕ
numbers_from test start steps = map (λ (step : ℕ × Step). step.0) (filter (λ (step : ℕ × Step). test step.1) (enumerate_from start steps))

-- the step with this number has this value, which has this place among the values of all steps
pub record IsPlaced {X : Type 0} (value : Step → Option X) (test : Step → Bool) (start : ℕ) (steps : List Step) (place number : ℕ) (x : X) : Type 0 where
  pub step : Step
  pub at : slice_get steps number ≡ Some step
  pub is : value step ≡ Some x
  pub values : slice_get (filter_map value steps) place ≡ Some x
  pub numbered : slice_get (numbers_from test start steps) place ≡ Some (start + number)

later : (start number : ℕ) → start + 1 + number ≡ start + suc number
later start number = omega arith

module _ (X : Type 0) (value : Step → Option X) (test : Step → Bool) (agree : (step : Step) → test step ≡ is_some (value step)) where
  -- ---- the first step has a value, or none

  module _ (start : ℕ) (first : Step) (steps : List Step) where
    numbers_by : (b : Bool) → test first ≡ b
        → numbers_from test start (first ∷ steps)
        ≡ map (λ (step : ℕ × Step). step.0) (cond b ((start, first) ∷ filter (λ (step : ℕ × Step). test step.1) (enumerate_from (start + 1) steps))
        (filter (λ (step : ℕ × Step). test step.1) (enumerate_from (start + 1) steps)))
    numbers_by b is =
        ap (λ (b : Bool). map (λ (step : ℕ × Step). step.0) (cond b ((start, first) ∷ filter (λ (step : ℕ × Step). test step.1) (enumerate_from (start + 1) steps))
        (filter (λ (step : ℕ × Step). test step.1) (enumerate_from (start + 1) steps)))) is

    taken : (x : X) → value first ≡ Some x → filter_map value (first ∷ steps) ≡ x ∷ filter_map value steps
    taken x is = ap (λ (found : Option X). cons_option found (filter_map value steps)) is

    taken_numbers : (x : X) → value first ≡ Some x → numbers_from test start (first ∷ steps) ≡ start ∷ numbers_from test (start + 1) steps
    taken_numbers x is = numbers_by true (agree first ∙ ap (λ (found : Option X). is_some found) is)

    left : value first ≡ None → filter_map value (first ∷ steps) ≡ filter_map value steps
    left is = ap (λ (found : Option X). cons_option found (filter_map value steps)) is

    left_numbers : value first ≡ None → numbers_from test start (first ∷ steps) ≡ numbers_from test (start + 1) steps
    left_numbers is = numbers_by false (agree first ∙ ap (λ (found : Option X). is_some found) is)

    here : (x : X) → value first ≡ Some x → IsPlaced value test start (first ∷ steps) 0 0 x
    here x is = record {
      step = first;
      at = refl;
      is = is;
      values = ap (λ (xs : List X). slice_get xs 0) (taken x is);
      numbered = ap (λ (numbers : List ℕ). slice_get numbers 0) (taken_numbers x is) ∙ ap Some (omega arith);
    }

    behind_taken : (y : X) → value first ≡ Some y → (place number : ℕ) (x : X) → IsPlaced value test (start + 1) steps place number x
        → IsPlaced value test start (first ∷ steps) (suc place) (suc number) x
    behind_taken y is place number x rest = record {
      step = rest.step;
      at = rest.at;
      is = rest.is;
      values = ap (λ (xs : List X). slice_get xs (suc place)) (taken y is) ∙ rest.values;
      numbered = ap (λ (numbers : List ℕ). slice_get numbers (suc place)) (taken_numbers y is) ∙ rest.numbered ∙ ap Some (later start number);
    }

    behind_left : value first ≡ None → (place number : ℕ) (x : X) → IsPlaced value test (start + 1) steps place number x
        → IsPlaced value test start (first ∷ steps) place (suc number) x
    behind_left is place number x rest = record {
      step = rest.step;
      at = rest.at;
      is = rest.is;
      values = ap (λ (xs : List X). slice_get xs place) (left is) ∙ rest.values;
      numbered = ap (λ (numbers : List ℕ). slice_get numbers place) (left_numbers is) ∙ rest.numbered ∙ ap Some (later start number);
    }

    behind : (found : Option X) → value first ≡ found → (place number : ℕ) (x : X) → IsPlaced value test (start + 1) steps place number x
        → (place : ℕ) × IsPlaced value test start (first ∷ steps) place (suc number) x
    behind None is place number x rest = (place, behind_left is place number x rest)
    behind (Some y) is place number x rest = (suc place, behind_taken y is place number x rest)

  -- ---- a step with a value has a place

  pub place_of : (start : ℕ) (steps : List Step) (number : ℕ) (step : Step) (x : X) → slice_get steps number ≡ Some step → value step ≡ Some x
      → (place : ℕ) × IsPlaced value test start steps place number x
  place_of start [] number step x at is = absurd cc
  place_of start (first ∷ steps) zero step x at is =
      let same : first ≡ step = cc in (0, here start first steps x (ap value same ∙ is))
  place_of start (first ∷ steps) (suc number) step x at is =
      let rest = place_of (start + 1) steps number step x at is in behind start first steps (value first) refl rest.0 number x rest.1

  -- ---- what stands at a place is the value of a step

  pub step_at : (start : ℕ) (steps : List Step) (place : ℕ) → place < length (filter_map value steps)
      → (number : ℕ) × (x : X) × IsPlaced value test start steps place number x
  step_at start [] place inside = absurd (omega (arith, inside))
  step_at start (first ∷ steps) place inside = by_first (λ at low. step_at (start + 1) steps at low) (value first) refl place inside
    where
      by_first : ((at : ℕ) → at < length (filter_map value steps) → (number : ℕ) × (x : X) × IsPlaced value test (start + 1) steps at number x)
          → (found : Option X) → value first ≡ found → (place : ℕ) → place < length (filter_map value (first ∷ steps))
          → (number : ℕ) × (x : X) × IsPlaced value test start (first ∷ steps) place number x
      by_first behind None is place inside =
          let rest = behind place (subst (λ (xs : List X). place < length xs) (left start first steps is) inside) in
          (suc rest.0, rest.1, behind_left start first steps is place rest.0 rest.1 rest.2)
      by_first behind (Some y) is zero inside = (0, y, here start first steps y is)
      by_first behind (Some y) is (suc place) inside =
          let low : suc place < length (y ∷ filter_map value steps) = subst (λ (xs : List X). suc place < length xs) (taken start first steps y is) inside in
          let rest = behind place (omega (arith, low)) in
          (suc rest.0, rest.1, behind_taken start first steps y is place rest.0 rest.1 rest.2)

  -- ---- no number stands at two places

  from_start : (start : ℕ) (steps : List Step) (place number : ℕ) → slice_get (numbers_from test start steps) place ≡ Some number → start ≤ number
  from_start start [] place number is = absurd cc
  from_start start (first ∷ steps) place number is = by_first (λ at here. from_start (start + 1) steps at number here) (value first) refl place is
    where
      by_first : ((at : ℕ) → slice_get (numbers_from test (start + 1) steps) at ≡ Some number → start + 1 ≤ number)
          → (found : Option X) → value first ≡ found → (place : ℕ) → slice_get (numbers_from test start (first ∷ steps)) place ≡ Some number → start ≤ number
      by_first behind None none place is =
          let low = behind place (ap (λ (numbers : List ℕ). slice_get numbers place) (sym (left_numbers start first steps none)) ∙ is) in
          omega (arith, low)
      by_first behind (Some y) some zero is =
          let one : Some start ≡ Some number = ap (λ (numbers : List ℕ). slice_get numbers 0) (sym (taken_numbers start first steps y some)) ∙ is in
          let same : start ≡ number = cc in omega (arith, same)
      by_first behind (Some y) some (suc place) is =
          let low = behind place (ap (λ (numbers : List ℕ). slice_get numbers (suc place)) (sym (taken_numbers start first steps y some)) ∙ is) in
          omega (arith, low)

  -- a list that begins with a number, and goes on with greater ones
  one_behind : (start number : ℕ) (numbers : List ℕ) → ((place : ℕ) → slice_get numbers place ≡ Some number → start + 1 ≤ number)
      → ((one other : ℕ) → slice_get numbers one ≡ Some number → slice_get numbers other ≡ Some number → one ≡ other)
      → (one other : ℕ) → slice_get (start ∷ numbers) one ≡ Some number → slice_get (start ∷ numbers) other ≡ Some number → one ≡ other
  one_behind start number numbers low rest zero zero is also = refl
  one_behind start number numbers low rest zero (suc other) is also =
      let same : start ≡ number = cc in let greater = low other also in absurd (omega (arith, same, greater))
  one_behind start number numbers low rest (suc one) zero is also =
      let same : start ≡ number = cc in let greater = low one is in absurd (omega (arith, same, greater))
  one_behind start number numbers low rest (suc one) (suc other) is also = ap suc (rest one other is also)

  pub one_place_at : (start : ℕ) (steps : List Step) (number one other : ℕ) → slice_get (numbers_from test start steps) one ≡ Some number
      → slice_get (numbers_from test start steps) other ≡ Some number → one ≡ other
  one_place_at start [] number one other is also = absurd cc
  one_place_at start (first ∷ steps) number one other is also =
      by_first (λ one other at also. one_place_at (start + 1) steps number one other at also) (value first) refl
    where
      by_first : ((one other : ℕ) → slice_get (numbers_from test (start + 1) steps) one ≡ Some number
          → slice_get (numbers_from test (start + 1) steps) other ≡ Some number → one ≡ other) → (found : Option X) → value first ≡ found → one ≡ other
      by_first behind None none =
          let same = left_numbers start first steps none in
          behind one other (ap (λ (numbers : List ℕ). slice_get numbers one) (sym same) ∙ is)
          (ap (λ (numbers : List ℕ). slice_get numbers other) (sym same) ∙ also)
      by_first behind (Some y) some =
          let same = taken_numbers start first steps y some in
          one_behind start number (numbers_from test (start + 1) steps) (λ place at. from_start (start + 1) steps place number at) behind one other
          (ap (λ (numbers : List ℕ). slice_get numbers one) (sym same) ∙ is)
          (ap (λ (numbers : List ℕ). slice_get numbers other) (sym same) ∙ also)

  -- ---- there are as many numbers as values

  pub as_many : (start : ℕ) (steps : List Step) → length (numbers_from test start steps) ≡ length (filter_map value steps)
  as_many start [] = refl
  as_many start (first ∷ steps) = by_first (as_many (start + 1) steps) (value first) refl
    where
      by_first : length (numbers_from test (start + 1) steps) ≡ length (filter_map value steps) → (found : Option X) → value first ≡ found
          → length (numbers_from test start (first ∷ steps)) ≡ length (filter_map value (first ∷ steps))
      by_first rest None none =
          ap (λ (numbers : List ℕ). length numbers) (left_numbers start first steps none) ∙ rest ∙ ap (λ (xs : List X). length xs) (sym (left start first steps none))
      by_first rest (Some y) some =
          ap (λ (numbers : List ℕ). length numbers) (taken_numbers start first steps y some) ∙ ap suc rest
          ∙ ap (λ (xs : List X). length xs) (sym (taken start first steps y some))

-- ---- the steps of entries

-- an entry that is not refused
abbrev pub HasStep : AddedFolder → EntryView → Type 0
HasStep folder entry = (step : Step) × IsVerdict folder entry (Ok step)

-- entries that are not refused make steps
pub steps_of : (folder : AddedFolder) (entries : List EntryView) → ((entry : EntryView) → Contains entries entry → HasStep folder entry)
    → (steps : List Step) × AreSteps folder entries steps
steps_of folder [] each = ([], tt)
steps_of folder (entry ∷ entries) each =
    let first = each entry (0, omega arith, refl) in
    let rest = steps_of folder entries (λ other has. each other (Contains-append_right (entry ∷ []) entries other has)) in
    (first.0 ∷ rest.0, (first.1, rest.1))

-- an entry and its step
pub record MakesStep (folder : AddedFolder) (entry : EntryView) (steps : List Step) (number : ℕ) : Type 0 where
  pub step : Step
  pub at : slice_get steps number ≡ Some step
  pub is : IsVerdict folder entry (Ok step)

pub step_of : (folder : AddedFolder) (entries : List EntryView) (steps : List Step) (number : ℕ) (entry : EntryView) → AreSteps folder entries steps
    → slice_get entries number ≡ Some entry → MakesStep folder entry steps number
step_of folder [] [] number entry are is = absurd cc
step_of folder [] (step ∷ steps) number entry are is = absurd are
step_of folder (first ∷ entries) [] number entry are is = absurd are
step_of folder (first ∷ entries) (step ∷ steps) zero entry are is =
    let same : first ≡ entry = cc in
    record { step = step; at = refl; is = subst (λ (one : EntryView). IsVerdict folder one (Ok step)) same are.0 }
step_of folder (first ∷ entries) (step ∷ steps) (suc number) entry are is =
    let rest = step_of folder entries steps number entry are.1 is in record { step = rest.step; at = rest.at; is = rest.is }

-- the entry of a step
pub entry_of_step : (folder : AddedFolder) (entries : List EntryView) (steps : List Step) (number : ℕ) (step : Step) → AreSteps folder entries steps
    → slice_get steps number ≡ Some step → (entry : EntryView) × (slice_get entries number ≡ Some entry) × IsVerdict folder entry (Ok step)
entry_of_step folder [] [] number step are is = absurd cc
entry_of_step folder [] (first ∷ steps) number step are is = absurd are
entry_of_step folder (entry ∷ entries) [] number step are is = absurd are
entry_of_step folder (entry ∷ entries) (first ∷ steps) zero step are is =
    let same : first ≡ step = cc in (entry, refl, subst (λ (one : Step). IsVerdict folder entry (Ok one)) same are.0)
entry_of_step folder (entry ∷ entries) (first ∷ steps) (suc number) step are is = entry_of_step folder entries steps number step are.1 is
