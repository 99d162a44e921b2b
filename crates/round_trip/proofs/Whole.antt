-- All that an extraction made is planned as what it was.
use Rattle.std.proofs.Common.{◌≡◌, ◌<◌, ◌∙◌, ℕ, suc, zero, true, false, List, [], ◌∷◌, Option, Some, None, length, refl, sym, ap, subst, arith}
use Rattle.std.specs.Prelude.{◌&&◌, ◌||◌, Bool, Contains, Err, Ok, slice_get}
use Rattle.std.specs.List.{filter_map}
use Rattle.std.specs.Option.{is_some}
use Rattle.std.specs.Str.{bytes_eq}
use Rattle.std.proofs.lemmas.List.Elements.{Contains-append_right}
use Rattle.std.proofs.lemmas.Option.{slice_get_within}
use Rattle.std.proofs.lemmas.Slice.Eq.{bytes_eq-Decides}
use Rattle.folder_adding.specs.HostEntries.{EntryView, has_file, is_file as is_file_entry}
use Rattle.folder_adding.specs.HostPaths.{Text}
use Rattle.folder_adding.specs.Items.{ItemView}
use Rattle.folder_adding.specs.OneVerdict.{HasOneVerdict}
use Rattle.folder_adding.specs.Plan.{AreSteps, IsFirstRefused, directory_made, is_adding, is_making, is_passing, item_added, plan_of}
use Rattle.folder_adding.specs.Verdicts.{AddedFolder, IsVerdict, Step, adds, makes, passes}
use Rattle.host_folders.specs.declared.said.Content.TheVariants.{Bytes}
use Rattle.host_folders.specs.Folder.{file, folder as made_folder}
use Rattle.round_trip.specs.Extracted.{Extracted, IsExtracted, item_in}
use Rattle.round_trip.specs.Planned.{file_at, folder_at, form_host, item_again, path_in}
use Rattle.round_trip.specs.Whole.{AreEntriesOf, ArePlacesOf, IsDirectoryIn, IsDirectoryOf, IsFileIn, IsFileOf, IsFormIn, IsFormOf, IsPlanAgain, IsWholePlanned, MayAllBeNew}
use Rattle.round_trip.proofs.Entries.{IsOf, from_made, its_file, its_folder, its_form, same_file, same_folder, same_form}
use Rattle.round_trip.proofs.Forms.{directory_again, file_of_form, form_again}
use Rattle.round_trip.proofs.Made.{at_made, file_made, folder_made, form_made}
use Rattle.round_trip.proofs.Places.{IsAt, are_places, as_said}
use Rattle.round_trip.proofs.Planning.{planned_again}
use Rattle.round_trip.proofs.Steps.{HasStep, as_many, step_at, steps_of}
use Rattle.shop_replies.specs.declared.refusal.Refusal.{Refusal}
use Rattle.volume_extract.specs.Items.{made_in}

-- ---- a file among the entries

or_true : (b c : Bool) → c ≡ true → (b || c) ≡ true
or_true true c is = refl
or_true false c is = is

file_there : (entries : List EntryView) (path : Text) → Contains entries (file_at path) → has_file entries path ≡ true
file_there [] path has = absurd (omega (arith, has.1))
file_there (entry ∷ entries) path (zero, low, is) =
    ap (λ (one : EntryView). (is_file_entry one.kind && bytes_eq path one.path) || has_file entries path) is
    ∙ ap (λ (b : Bool). b || has_file entries path) ((bytes_eq-Decides path path).1 refl)
file_there (entry ∷ entries) path (suc k, low, is) =
    or_true (is_file_entry entry.kind && bytes_eq path entry.path) (has_file entries path) (file_there entries path (k, omega (arith, low), is))

-- ---- the steps that pass over an entry

abbrev passed_over : Step → Option ℕ
passed_over (adds item) = None
passed_over (makes path) = None
passed_over passes = Some 0

adding_is : (step : Step) → is_adding step ≡ is_some (item_added step)
adding_is (adds item) = refl
adding_is (makes path) = refl
adding_is passes = refl

making_is : (step : Step) → is_making step ≡ is_some (directory_made step)
making_is (adds item) = refl
making_is (makes path) = refl
making_is passes = refl

passing_is : (step : Step) → is_passing step ≡ is_some (passed_over step)
passing_is (adds item) = refl
passing_is (makes path) = refl
passing_is passes = refl

zero_value : (step : Step) (n : ℕ) → passed_over step ≡ Some n → passed_over step ≡ Some 0
zero_value (adds item) n is = absurd cc
zero_value (makes path) n is = absurd cc
zero_value passes n is = refl

-- the value at a place where a number stands
some_zero : (steps : List Step) (place number : ℕ) → slice_get (plan_of steps).passed place ≡ Some number → slice_get (filter_map passed_over steps) place ≡ Some 0
some_zero steps place number at =
    let low : place < length (plan_of steps).passed = slice_get_within (plan_of steps).passed place number at in
    let found = step_at ℕ passed_over is_passing passing_is 0 steps place (omega (arith, low, as_many ℕ passed_over is_passing passing_is 0 steps)) in
    found.2.values ∙ sym found.2.is ∙ zero_value found.2.step found.1 found.2.is

-- ---- the whole

module _ (one_verdict : (folder : AddedFolder) (entry : EntryView) → HasOneVerdict folder entry) (e : Extracted) (is : IsExtracted e)
    (folder : AddedFolder) (same : folder.file_system ≡ e.volume.file_system) (are : AreEntriesOf (made_in e.items) folder.entries) (may : MayAllBeNew e) where
  from : (entry : EntryView) → Contains folder.entries entry → (number : ℕ) × IsOf e entry number
  from entry has = let made = are.none_else entry has in from_made e is made.0 entry made.1 made.2

  file_there_is : (number : ℕ) → IsFileIn e number → Contains folder.entries (file_at (item_in e number).host)
  file_there_is number of =
      let made = file_made (item_in e number).host (item_in e number).found of.1 in
      are.each (file (item_in e number).host made.0) (at_made e.items number (file (item_in e number).host made.0) of.0 made.1)

  form_there_is : (number : ℕ) → IsFormIn e number → Contains folder.entries (file_at (form_host e number))
  form_there_is number of =
      let made = form_made (item_in e number).host (item_in e number).found (file_of_form e is number of.0 of.1) of.1 in
      are.each (file (form_host e number) made.0) (at_made e.items number (file (form_host e number) made.0) of.0 made.1)

  folder_there_is : (number : ℕ) → IsDirectoryIn e number → Contains folder.entries (folder_at (item_in e number).host)
  folder_there_is number of =
      are.each (made_folder (item_in e number).host)
      (at_made e.items number (made_folder (item_in e number).host) of.0 (folder_made (item_in e number).host (item_in e number).found of.1))

  file_added : (number : ℕ) → IsFileIn e number → IsVerdict folder (file_at (item_in e number).host) (Ok (adds (item_again folder e number Bytes)))
  file_added number of = (planned_again e folder number is same of).planned (may.files number of)

  form_passed : (number : ℕ) → IsFormIn e number → IsVerdict folder (file_at (form_host e number)) (Ok passes)
  form_passed number of =
      (form_again e is number of.0 of.1 folder same).passed
      (file_there folder.entries (item_in e number).host (file_there_is number (of.0, file_of_form e is number of.0 of.1)))

  folder_made_again : (number : ℕ) → IsDirectoryIn e number → IsVerdict folder (folder_at (item_in e number).host) (Ok (makes (path_in folder e number)))
  folder_made_again number of = (directory_again e is number of.0 of.1 folder same).planned (may.directories number of)

  step_for : (entry : EntryView) (number : ℕ) → IsOf e entry number → HasStep folder entry
  step_for entry number (its_file of at) = subst (HasStep folder) (sym at) (adds (item_again folder e number Bytes), file_added number of)
  step_for entry number (its_form of at) = subst (HasStep folder) (sym at) (passes, form_passed number of)
  step_for entry number (its_folder of at) = subst (HasStep folder) (sym at) (makes (path_in folder e number), folder_made_again number of)

  -- a step of an entry is the one that it has
  one_step : (entry at : EntryView) (step other : Step) → entry ≡ at → IsVerdict folder entry (Ok step) → IsVerdict folder at (Ok other) → step ≡ other
  one_step entry at step other here verdict also =
      let one : Ok step ≡ Ok other =
      one_verdict folder entry (Ok step) (Ok other) verdict (subst (λ (one : EntryView). IsVerdict folder one (Ok other)) (sym here) also) in
      cc

  -- ---- which entries are files, directories and readable forms

  of_file : (entry : EntryView) (step : Step) (item : ItemView) (number : ℕ) → IsOf e entry number → IsVerdict folder entry (Ok step) → item_added step ≡ Some item
      → (number : ℕ) × IsFileIn e number × (entry ≡ file_at (item_in e number).host)
  of_file entry step item number (its_file of at) verdict has = (number, of, at)
  of_file entry step item number (its_form of at) verdict has =
      let one = one_step entry _ step passes at verdict (form_passed number of) in
      let none : None ≡ Some item = ap item_added (sym one) ∙ has in absurd cc
  of_file entry step item number (its_folder of at) verdict has =
      let one = one_step entry _ step (makes (path_in folder e number)) at verdict (folder_made_again number of) in
      let none : None ≡ Some item = ap item_added (sym one) ∙ has in absurd cc

  of_folder : (entry : EntryView) (step : Step) (path : Text) (number : ℕ) → IsOf e entry number → IsVerdict folder entry (Ok step) → directory_made step ≡ Some path
      → (number : ℕ) × IsDirectoryIn e number × (entry ≡ folder_at (item_in e number).host)
  of_folder entry step path number (its_folder of at) verdict has = (number, of, at)
  of_folder entry step path number (its_form of at) verdict has =
      let one = one_step entry _ step passes at verdict (form_passed number of) in
      let none : None ≡ Some path = ap directory_made (sym one) ∙ has in absurd cc
  of_folder entry step path number (its_file of at) verdict has =
      let one = one_step entry _ step (adds (item_again folder e number Bytes)) at verdict (file_added number of) in
      let none : None ≡ Some path = ap directory_made (sym one) ∙ has in absurd cc

  of_form : (entry : EntryView) (step : Step) (n : ℕ) (number : ℕ) → IsOf e entry number → IsVerdict folder entry (Ok step) → passed_over step ≡ Some n
      → (number : ℕ) × IsFormIn e number × (entry ≡ file_at (form_host e number))
  of_form entry step n number (its_form of at) verdict has = (number, of, at)
  of_form entry step n number (its_folder of at) verdict has =
      let one = one_step entry _ step (makes (path_in folder e number)) at verdict (folder_made_again number of) in
      let none : None ≡ Some n = ap passed_over (sym one) ∙ has in absurd cc
  of_form entry step n number (its_file of at) verdict has =
      let one = one_step entry _ step (adds (item_again folder e number Bytes)) at verdict (file_added number of) in
      let none : None ≡ Some n = ap passed_over (sym one) ∙ has in absurd cc

  -- ---- the places of a plan

  module _ (steps : List Step) (made : AreSteps folder folder.entries steps) where
    file_places : ArePlacesOf (length (plan_of steps).items) (IsFileIn e) (IsFileOf folder e (plan_of steps))
    file_places =
        as_said (length (plan_of steps).items) (length (plan_of steps).items) (IsFileIn e)
        (IsAt folder item_added is_adding steps (IsFileIn e) (λ number. file_at (item_in e number).host) (λ number. item_again folder e number Bytes))
        (IsFileOf folder e (plan_of steps)) refl
        (λ place number at. record { of = at.of; item = at.values; entry = at.entry })
        (λ place number at. record { of = at.of; values = at.item; entry = at.entry })
        (are_places ItemView folder item_added is_adding adding_is steps (IsFileIn e) (λ number. file_at (item_in e number).host)
        (λ number. item_again folder e number Bytes) made (one_verdict folder) are.once
        (λ number of. record { step = adds (item_again folder e number Bytes); verdict = file_added number of; is = refl })
        file_there_is (λ entry step item has verdict some. of_file entry step item (from entry has).0 (from entry has).1 verdict some) (same_file e is))

    directory_places : ArePlacesOf (length (plan_of steps).directories) (IsDirectoryIn e) (IsDirectoryOf folder e (plan_of steps))
    directory_places =
        as_said (length (plan_of steps).directories) (length (plan_of steps).directories) (IsDirectoryIn e)
        (IsAt folder directory_made is_making steps (IsDirectoryIn e) (λ number. folder_at (item_in e number).host) (λ number. path_in folder e number))
        (IsDirectoryOf folder e (plan_of steps)) refl
        (λ place number at. record { of = at.of; path = at.values; entry = at.entry })
        (λ place number at. record { of = at.of; values = at.path; entry = at.entry })
        (are_places Text folder directory_made is_making making_is steps (IsDirectoryIn e) (λ number. folder_at (item_in e number).host)
        (λ number. path_in folder e number) made (one_verdict folder) are.once
        (λ number of. record { step = makes (path_in folder e number); verdict = folder_made_again number of; is = refl })
        folder_there_is (λ entry step path has verdict some. of_folder entry step path (from entry has).0 (from entry has).1 verdict some) (same_folder e is))

    passed_places : ArePlacesOf (length (plan_of steps).passed) (IsFormIn e) (IsFormOf folder e (plan_of steps))
    passed_places =
        as_said (length (filter_map passed_over steps)) (length (plan_of steps).passed) (IsFormIn e)
        (IsAt folder passed_over is_passing steps (IsFormIn e) (λ number. file_at (form_host e number)) (λ number. 0))
        (IsFormOf folder e (plan_of steps)) (sym (as_many ℕ passed_over is_passing passing_is 0 steps))
        (λ place number at. record { of = at.of; entry = at.entry })
        (λ place number at. record { of = at.of; values = some_zero steps place at.entry.number at.entry.numbered; entry = at.entry })
        (are_places ℕ folder passed_over is_passing passing_is steps (IsFormIn e) (λ number. file_at (form_host e number))
        (λ number. 0) made (one_verdict folder) are.once
        (λ number of. record { step = passes; verdict = form_passed number of; is = refl })
        form_there_is (λ entry step n has verdict some. of_form entry step n (from entry has).0 (from entry has).1 verdict some) (same_form e is))

    plan_again : IsPlanAgain folder e (plan_of steps)
    plan_again = record { files = file_places; directories = directory_places; passed = passed_places }

  none_refused : (number : ℕ) (refusal : Refusal) → ¬ IsFirstRefused folder number refusal
  none_refused number refusal refused =
      let has : Contains folder.entries refused.entry =
      subst (λ (entries : List EntryView). Contains entries refused.entry) (sym refused.all)
      (Contains-append_right refused.front (refused.entry ∷ refused.behind) refused.entry (0, omega arith, refl)) in
      let made = step_for refused.entry (from refused.entry has).0 (from refused.entry has).1 in
      let one : Ok made.0 ≡ Err refusal = one_verdict folder refused.entry (Ok made.0) (Err refusal) made.1 refused.refused in
      cc

  pub whole : IsWholePlanned folder e
  whole =
      let steps = steps_of folder folder.entries (λ entry has. step_for entry (from entry has).0 (from entry has).1) in
      record {
        plan = plan_of steps.0;
        is_plan = record { steps = steps.0; made = steps.1; is = refl };
        again = λ plan is_plan. subst (IsPlanAgain folder e) (sym is_plan.is) (plan_again is_plan.steps is_plan.made);
        none_refused = none_refused;
      }
