-- The places of a plan, of one kind of steps.
use Rattle.std.proofs.Common.{◌≡◌, ◌<◌, ◌+◌, ◌∙◌, ℕ, List, Option, Some, length, refl, sym, ap, subst, arith}
use Rattle.std.specs.Prelude.{Bool, Contains, Ok, slice_get}
use Rattle.std.specs.List.{filter_map}
use Rattle.std.specs.Option.{is_some, option_map_or}
use Rattle.std.proofs.lemmas.Option.{get_or_from_slice_get, slice_get-get_or, slice_get_within}
use Rattle.folder_adding.specs.HostEntries.{EntryView}
use Rattle.folder_adding.specs.OneVerdict.{HasOneVerdict}
use Rattle.folder_adding.specs.Plan.{AreSteps}
use Rattle.folder_adding.specs.Verdicts.{AddedFolder, IsVerdict, Step}
use Rattle.round_trip.specs.Whole.{ArePlacesOf, IsEntryAt}
use Rattle.round_trip.proofs.Steps.{entry_of_step, numbers_from, one_place_at, place_of, step_at, step_of}

-- at a place there is the value for a number, and the entry for it
pub record IsAt {X : Type 0} (folder : AddedFolder) (value : Step → Option X) (test : Step → Bool) (steps : List Step) (Of : ℕ → Type 0)
    (entry_for : ℕ → EntryView) (value_for : ℕ → X) (place number : ℕ) : Type 0 where
  pub of : Of number
  pub values : slice_get (filter_map value steps) place ≡ Some (value_for number)
  pub entry : IsEntryAt folder.entries (numbers_from test 0 steps) place (entry_for number)

-- the verdict of the entry for a number, which has its value
pub record IsWeighed {X : Type 0} (folder : AddedFolder) (value : Step → Option X) (entry : EntryView) (x : X) : Type 0 where
  pub step : Step
  pub verdict : IsVerdict folder entry (Ok step)
  pub is : value step ≡ Some x

as_numbered : (number : ℕ) (found : Option ℕ) → found ≡ Some (0 + number) → found ≡ Some number
as_numbered number found is = is ∙ ap Some (omega arith)

module _ (X : Type 0) (folder : AddedFolder) (value : Step → Option X) (test : Step → Bool) (agree : (step : Step) → test step ≡ is_some (value step))
    (steps : List Step) (Of : ℕ → Type 0) (entry_for : ℕ → EntryView) (value_for : ℕ → X) (made : AreSteps folder folder.entries steps)
    (one_verdict : (entry : EntryView) → HasOneVerdict folder entry)
    (once : (entry : EntryView) (one other : ℕ) → slice_get folder.entries one ≡ Some entry → slice_get folder.entries other ≡ Some entry → one ≡ other)
    (weighed : (number : ℕ) → Of number → IsWeighed folder value (entry_for number) (value_for number))
    (there : (number : ℕ) → Of number → Contains folder.entries (entry_for number))
    (from : (entry : EntryView) (step : Step) (x : X) → Contains folder.entries entry → IsVerdict folder entry (Ok step) → value step ≡ Some x
    → (number : ℕ) × Of number × (entry ≡ entry_for number))
    (own : (one other : ℕ) → Of one → Of other → entry_for one ≡ entry_for other → one ≡ other) where
  abbrev At : ℕ → ℕ → Type 0
  At place number = IsAt folder value test steps Of entry_for value_for place number

  -- the step of the entry for a number has its value
  same_value : (number : ℕ) (entry : EntryView) (step : Step) → Of number → entry ≡ entry_for number → IsVerdict folder entry (Ok step)
      → value step ≡ Some (value_for number)
  same_value number entry step of is verdict =
      let w = weighed number of in
      let one : Ok step ≡ Ok w.step =
      one_verdict entry (Ok step) (Ok w.step) verdict (subst (λ (one : EntryView). IsVerdict folder one (Ok w.step)) (sym is) w.verdict) in
      let same : step ≡ w.step = cc in
      ap value same ∙ w.is

  each : (number : ℕ) → Of number → (place : ℕ) × At place number
  each number of =
      let entry = entry_for number in
      let has = there number of in
      let at : slice_get folder.entries has.0 ≡ Some entry = slice_get-get_or folder.entries has.0 entry has.1 ∙ ap Some has.2 in
      let makes = step_of folder folder.entries steps has.0 entry made at in
      let placed = place_of X value test agree 0 steps has.0 makes.step (value_for number) makes.at (same_value number entry makes.step of refl makes.is) in
      let numbered = as_numbered has.0 (slice_get (numbers_from test 0 steps) placed.0) placed.1.numbered in (
        placed.0,
        record { of = of; values = placed.1.values; entry = record { number = has.0; numbered = numbered; there = at } },
      )

  none_else : (place : ℕ) → place < length (filter_map value steps) → (number : ℕ) × At place number
  none_else place low =
      let found = step_at X value test agree 0 steps place low in
      let entry = entry_of_step folder folder.entries steps found.0 found.2.step made found.2.at in
      let has : Contains folder.entries entry.0 =
      (found.0, slice_get_within folder.entries found.0 entry.0 entry.1, get_or_from_slice_get folder.entries found.0 entry.0 entry.0 entry.1) in
      let source = from entry.0 found.2.step found.1 has entry.2 found.2.is in (
        source.0,
        record {
          of = source.1;
          values = found.2.values ∙ sym found.2.is ∙ same_value source.0 entry.0 found.2.step source.1 source.2 entry.2;
          entry = record { number = found.0; numbered = as_numbered found.0 (slice_get (numbers_from test 0 steps) place) found.2.numbered; there = entry.1 ∙ ap Some source.2 };
        },
      )

  one_place : (number one other : ℕ) → At one number → At other number → one ≡ other
  one_place number one other at also =
      let same = once (entry_for number) at.entry.number also.entry.number at.entry.there also.entry.there in
      one_place_at X value test agree 0 steps at.entry.number one other at.entry.numbered (also.entry.numbered ∙ ap Some (sym same))

  one_number : (place one other : ℕ) → At place one → At place other → one ≡ other
  one_number place one other at also =
      let numbers : Some at.entry.number ≡ Some also.entry.number = sym at.entry.numbered ∙ also.entry.numbered in
      let same : at.entry.number ≡ also.entry.number = cc in
      let entries : Some (entry_for one) ≡ Some (entry_for other) =
      sym at.entry.there ∙ ap (slice_get folder.entries) same ∙ also.entry.there in
      own one other at.of also.of (ap (λ (found : Option EntryView). option_map_or (λ (entry : EntryView). entry) found (entry_for one)) entries)

  pub are_places : ArePlacesOf (length (filter_map value steps)) Of At
  are_places = record { each = each; none_else = none_else; one_place = one_place; one_number = one_number }

-- the same places, said otherwise
pub as_said : (many as_many : ℕ) (Is : ℕ → Type 0) (At Said : ℕ → ℕ → Type 0) → many ≡ as_many → ((place number : ℕ) → At place number → Said place number)
    → ((place number : ℕ) → Said place number → At place number) → ArePlacesOf many Is At → ArePlacesOf as_many Is Said
as_said many as_many Is At Said same forth back are = record {
  each = λ number is. let found = are.each number is in (found.0, forth found.0 number found.1);
  none_else = λ place low. let found = are.none_else place (omega (arith, low, same)) in (found.0, forth place found.0 found.1);
  one_place = λ number one other at also. are.one_place number one other (back one number at) (back other number also);
  one_number = λ place one other at also. are.one_number place one other (back place one at) (back place other also);
}
