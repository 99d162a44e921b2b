-- The plan of one step more.
use Rattle.std.proofs.Common.{◌≡◌, ◌≤◌, ◌<◌, ◌∙◌, ◌+◌, ℕ, suc, List, [], ◌∷◌, ◌++◌, ap, ap₂, sym, subst, refl, arith, length, get_or, take, drop, take_all, true, false}
use Rattle.std.specs.Prelude.{Bool, Ok, Err, filter, map}
use Rattle.std.specs.List.{enumerate_from, filter_map}
use Rattle.std.proofs.Math.Seq.{split_at}
use Rattle.std.proofs.lemmas.List.{append-nil, length-map, length-take-le, map-append, map_more}
use Rattle.std.proofs.lemmas.List.Elements.{filter-append, filter_map-append}
use Rattle.std.proofs.lemmas.Slice.Zip.{AllZip-long}
use Rattle.folder_adding.specs.HostEntries.{EntryView, entry_view}
use Rattle.folder_adding.specs.Items.{ItemView}
use Rattle.folder_adding.specs.HostPaths.{Text}
use Rattle.folder_adding.specs.Plan.{AreSteps, IsFirstRefused, IsPlan, PlanView, directory_made, is_adding, is_making, is_passing, item_added, numbers_of, plan_of}
use Rattle.folder_adding.specs.Verdicts.{AddedFolder, IsVerdict, Step, adds, makes, passes}
use Rattle.folder_adding.specs.Weighing.{with_step}
use Rattle.folder_adding.specs.declared.host_entry.HostEntry.{HostEntry}
use Rattle.shop_replies.specs.declared.refusal.Refusal.{Refusal}

enumerated : (number : ℕ) (steps : List Step) (step : Step) → enumerate_from number (steps ++ step ∷ []) ≡ enumerate_from number steps ++ (number + length steps, step) ∷ []
enumerated number [] step = ap (λ (n : ℕ). (n, step) ∷ []) (omega arith)
enumerated number (first ∷ steps) step =
    ap (λ (rest : List (ℕ × Step)). (number, first) ∷ rest)
    (enumerated (number + 1) steps step ∙ ap (λ (n : ℕ). enumerate_from (number + 1) steps ++ (n, step) ∷ []) (omega arith))

-- the numbers of one step more
module _ (test : Step → Bool) (steps : List Step) (step : Step) where
  numbers-more : numbers_of test (steps ++ step ∷ [])
      ≡ numbers_of test steps ++ map (λ (n : ℕ × Step). n.0) (filter (λ (n : ℕ × Step). test n.1) ((length steps, step) ∷ []))
  numbers-more =
      let all = enumerate_from 0 steps in
      ap (λ (numbered : List (ℕ × Step)). map (λ (n : ℕ × Step). n.0) (filter (λ (n : ℕ × Step). test n.1) numbered))
      (enumerated 0 steps step ∙ ap (λ (n : ℕ). all ++ (n, step) ∷ []) (omega arith))
      ∙ ap (map (λ (n : ℕ × Step). n.0)) (filter-append (λ (n : ℕ × Step). test n.1) all ((length steps, step) ∷ []))
      ∙ map-append (λ (n : ℕ × Step). n.0) (filter (λ (n : ℕ × Step). test n.1) all) (filter (λ (n : ℕ × Step). test n.1) ((length steps, step) ∷ []))

abbrev pub made_of : List Text → List ℕ → List ItemView → List ℕ → List ℕ → PlanView
made_of directories folders items files passed =
    record { directories = directories; folders = folders; items = items; files = files; passed = passed }

pub same_plan : (directories directories' : List Text) (folders folders' : List ℕ) (items items' : List ItemView) (files files' passed passed' : List ℕ)
    → directories ≡ directories' → folders ≡ folders' → items ≡ items' → files ≡ files' → passed ≡ passed'
    → made_of directories folders items files passed ≡ made_of directories' folders' items' files' passed'
same_plan directories directories' folders folders' items items' files files' passed passed' one two three four five =
    ap₂ (λ (d : List Text) (f : List ℕ). made_of d f items files passed) one two
    ∙ ap₂ (λ (i : List ItemView) (f : List ℕ). made_of directories' folders' i f passed) three four
    ∙ ap (made_of directories' folders' items' files') five

-- the plan of one step more
module _ (steps : List Step) (step : Step) where
  directories_more : filter_map directory_made (steps ++ step ∷ []) ≡ filter_map directory_made steps ++ filter_map directory_made (step ∷ [])
  directories_more = filter_map-append directory_made steps (step ∷ [])

  items_more : filter_map item_added (steps ++ step ∷ []) ≡ filter_map item_added steps ++ filter_map item_added (step ∷ [])
  items_more = filter_map-append item_added steps (step ∷ [])

pub plan-more : (steps : List Step) (step : Step) → plan_of (steps ++ step ∷ []) ≡ with_step (length steps) (plan_of steps) step
plan-more steps (adds item) =
    same_plan _ _ _ _ _ _ _ _ _ _
    (directories_more steps (adds item) ∙ append-nil (filter_map directory_made steps))
    (numbers-more is_making steps (adds item) ∙ append-nil (numbers_of is_making steps))
    (items_more steps (adds item)) (numbers-more is_adding steps (adds item))
    (numbers-more is_passing steps (adds item) ∙ append-nil (numbers_of is_passing steps))
plan-more steps (makes path) =
    same_plan _ _ _ _ _ _ _ _ _ _
    (directories_more steps (makes path)) (numbers-more is_making steps (makes path))
    (items_more steps (makes path) ∙ append-nil (filter_map item_added steps))
    (numbers-more is_adding steps (makes path) ∙ append-nil (numbers_of is_adding steps))
    (numbers-more is_passing steps (makes path) ∙ append-nil (numbers_of is_passing steps))
plan-more steps passes =
    same_plan _ _ _ _ _ _ _ _ _ _
    (directories_more steps passes ∙ append-nil (filter_map directory_made steps))
    (numbers-more is_making steps passes ∙ append-nil (numbers_of is_making steps))
    (items_more steps passes ∙ append-nil (filter_map item_added steps))
    (numbers-more is_adding steps passes ∙ append-nil (numbers_of is_adding steps))
    (numbers-more is_passing steps passes)

-- ---- the entries up to the next one

-- this is the plan of the first so many entries
pub record IsPlannedTo (folder : AddedFolder) (entries : List HostEntry) (number : ℕ) (plan : PlanView) : Type 0 where
  steps : List Step
  made : AreSteps folder (map entry_view (take number entries)) steps
  is : plan ≡ plan_of steps

step_more : (folder : AddedFolder) (views : List EntryView) (steps : List Step) (view : EntryView) (step : Step) → AreSteps folder views steps
    → IsVerdict folder view (Ok step) → AreSteps folder (views ++ view ∷ []) (steps ++ step ∷ [])
step_more folder [] [] view step made is = (is, tt)
step_more folder [] (first ∷ steps) view step made is = absurd made
step_more folder (first ∷ views) [] view step made is = absurd made
step_more folder (one ∷ views) (first ∷ steps) view step made is = (made.0, step_more folder views steps view step made.1 is)

pub none_planned : (folder : AddedFolder) (entries : List HostEntry) (plan : PlanView) → plan ≡ plan_of [] → IsPlannedTo folder entries 0 plan
none_planned folder entries plan is = record { steps = []; made = tt; is = is }

module _ (folder : AddedFolder) (entries : List HostEntry) (number : ℕ) (plan : PlanView) (so_far : IsPlannedTo folder entries number plan) where
  module _ (entry : HostEntry) (inside : number < length entries) (here : entry ≡ get_or entries number entry) where
    counted : length so_far.steps ≡ number
    counted =
        AllZip-long (λ view step. IsVerdict folder view (Ok step)) (map entry_view (take number entries)) so_far.steps so_far.made
        ∙ length-map (take number entries) entry_view ∙ length-take-le number entries (omega arith)

    pub one_planned : (step : Step) (next : PlanView) → IsVerdict folder (entry_view entry) (Ok step) → next ≡ with_step number plan step
        → IsPlannedTo folder entries (number + 1) next
    one_planned step next is put = record {
      steps = so_far.steps ++ step ∷ [];
      made = subst (λ (views : List EntryView). AreSteps folder views (so_far.steps ++ step ∷ []))
          (sym (map_more entry_view entries number entry inside ∙ ap (λ (e : HostEntry). map entry_view (take number entries) ++ entry_view e ∷ []) (sym here)))
          (step_more folder (map entry_view (take number entries)) so_far.steps (entry_view entry) step so_far.made is);
      is = put ∙ ap (λ (p : PlanView). with_step number p step) so_far.is ∙ ap (λ (n : ℕ). with_step n (plan_of so_far.steps) step) (sym counted)
          ∙ sym (plan-more so_far.steps step);
    }

    pub refused_here : (refusal : Refusal) → folder.entries ≡ map entry_view entries → IsVerdict folder (entry_view entry) (Err refusal) → IsFirstRefused folder number refusal
    refused_here refusal all is = record {
      front = map entry_view (take number entries);
      entry = entry_view entry;
      behind = map entry_view (drop (suc number) entries);
      all = all ∙ ap (map entry_view) (split_at entries number entry inside)
          ∙ map-append entry_view (take number entries) (get_or entries number entry ∷ drop (suc number) entries)
          ∙ ap (λ (e : HostEntry). map entry_view (take number entries) ++ entry_view e ∷ map entry_view (drop (suc number) entries)) (sym here);
      numbered = sym (length-map (take number entries) entry_view ∙ length-take-le number entries (omega arith));
      steps = so_far.steps;
      made = so_far.made;
      refused = is;
    }

  pub all_planned : folder.entries ≡ map entry_view entries → length entries ≤ number → IsPlan folder plan
  all_planned all end = record {
    steps = so_far.steps;
    made = subst (λ (views : List EntryView). AreSteps folder views so_far.steps) (ap (map entry_view) (take_all number entries end) ∙ sym all) so_far.made;
    is = so_far.is;
  }
