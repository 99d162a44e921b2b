-- The steps of a plan, one move after the other.
use Rattle.std.proofs.Common.{◌≡◌, ◌∙◌, ℕ, ◌+◌, ◌<◌, List, [], ◌∷◌, ◌++◌, length, take, drop, get_or, refl, sym, ap, subst}
use Rattle.std.specs.Prelude.{All, slice_index_or}
use Rattle.std.proofs.lemmas.List.{drop_more, get_or_default, length-map, length-set, take-append-drop, take_more}
use Rattle.std.proofs.lemmas.List.Elements.{All-push}
use Rattle.a2_device.specs.declared.part.Part.{Part}
use Rattle.vol_layout.specs.declared.moves.Move.{Move}
use Rattle.vol_layout.specs.Layouts.{IsLayout, Placement}
use Rattle.vol_layout.specs.Plans.{IsLegal, IsPlan, after, moved}
use Rattle.vol_layout.proofs.PlanLemmas.{IsLayout-after, after-push, plan_parts}
use Rattle.vol_format.specs.Directory.{Directory, entries}
use Rattle.vol_format.specs.Standing.{index_in, no_part}
use Rattle.vol_check.specs.Told.{Told, IsToldOf}
use Rattle.shop_reads.specs.Steps.{AreSteps, IsStep}
use Rattle.file_listings.specs.declared.step.Step.{Step}

length-after : (layout : List ℕ) (moves : List Move) → length (after layout moves) ≡ length layout
length-after layout [] = refl
length-after layout (move ∷ moves) = length-after (moved layout move) moves ∙ length-set layout move.part move.to

module _ (parts : List Part) (available : List ℕ) where
  AreSteps-push : (layout : List ℕ) (moves : List Move) (steps : List Step) (move : Move) (step : Step) → AreSteps parts available layout moves steps
      → IsStep parts available (after layout moves) move step → AreSteps parts available layout (moves ++ move ∷ []) (steps ++ step ∷ [])
  AreSteps-push layout [] [] move step are is = (is, refl)
  AreSteps-push layout [] (first ∷ steps) move step are is = cc
  AreSteps-push layout (next ∷ moves) [] move step are is = absurd are
  AreSteps-push layout (next ∷ moves) (first ∷ steps) move step are is = (are.0, AreSteps-push (moved layout next) moves steps move step are.1 is)

-- the first moves are made, and these are their steps
pub record StepsTo (parts : List Part) (available start : List ℕ) (entries : ℕ) (moves : List Move) (i : ℕ) (layout : List ℕ) (steps : List Step) : Type 0 where
  pub reached : layout ≡ after start (take i moves)
  pub are : AreSteps parts available start (take i moves) steps
  pub in_files : All (λ step. step.part.file < entries) steps

module _ (parts : List Part) (available start : List ℕ) (entries : ℕ) (moves : List Move) (i : ℕ) (layout : List ℕ) (steps : List Step)
    (so_far : StepsTo parts available start entries moves i layout steps) (plan : IsPlan start (length available) moves) where
  before : IsPlan start (length available) (take i moves) × IsPlan (after start (take i moves)) (length available) (drop i moves)
  before = plan_parts start (length available) (take i moves) (drop i moves) (subst (IsPlan start (length available)) (sym (take-append-drop i moves)) plan)

  pub next_length : length layout ≡ length start
  next_length = ap (λ (c : List ℕ). length c) so_far.reached ∙ length-after start (take i moves)

  pub next_below : IsLayout start (length available) → All (λ number. number < length available) layout
  next_below is = subst (All (λ number. number < length available)) (sym so_far.reached) (IsLayout-after start (length available) (take i moves) is before.0).below

  module _ (d : Move) (within : i < length moves) where
    pub next_legal : IsLegal layout (length available) (get_or moves i d)
    next_legal =
        let here = subst (IsPlan (after start (take i moves)) (length available)) (drop_more moves i d within) before.1 in
        subst (λ c. IsLegal c (length available) (get_or moves i d)) (sym so_far.reached) here.0

    pub steps_more : (step : Step) → IsStep parts available layout (get_or moves i d) step → step.part.file < entries
        → StepsTo parts available start entries moves (i + 1) (moved layout (get_or moves i d)) (steps ++ step ∷ [])
    steps_more step is in_file =
        let move = get_or moves i d in
        let more = take_more moves i d within in
        let is_here = subst (λ c. IsStep parts available c move step) so_far.reached is in
        record {
          reached = ap (λ c. moved c move) so_far.reached ∙ sym (after-push start (take i moves) move) ∙ ap (after start) (sym more);
          are = subst (λ ms. AreSteps parts available start ms (steps ++ step ∷ [])) (sym more)
              (AreSteps-push parts available start (take i moves) steps move step so_far.are is_here);
          in_files = All-push (λ (step : Step). step.part.file < entries) steps step so_far.in_files in_file;
        }

-- the same for the parts of a volume, over what is told of it
module _ (directory : Directory) (told : Told) (moves : List Move) (of_directory : IsToldOf directory told) (legal : IsPlan told.layout.at told.layout.places moves)
    (is_layout : IsLayout told.layout.at told.layout.places) where
  places : told.layout.places ≡ length directory.available
  places = ap (λ (p : Placement). p.places) of_directory.layout

  plan : IsPlan told.layout.at (length directory.available) moves
  plan = subst (λ n. IsPlan told.layout.at n moves) places legal

  abbrev pub ToldTo : ℕ → List ℕ → List Step → Type 0
  ToldTo i layout steps = StepsTo told.parts directory.available told.layout.at (entries directory) moves i layout steps

  pub file_inside : (k : ℕ) → k < length told.parts → (slice_index_or told.parts k no_part).file < entries directory
  file_inside k within =
      let part = slice_index_or told.parts k no_part in
      of_directory.in_files part (k, within, sym (get_or_default told.parts k no_part part within))

  -- `here` and `all` are the layout and the moves as slices
  module _ (i : ℕ) (layout here : List ℕ) (steps : List Step) (all : List Move) (so_far : ToldTo i layout steps) (here_is : here ≡ layout) (all_are : all ≡ moves) where
    pub told_length : length here ≡ length told.parts
    told_length =
        ap (λ (xs : List ℕ). length xs) here_is
        ∙ next_length told.parts directory.available told.layout.at (entries directory) moves i layout steps so_far plan
        ∙ ap (λ (p : Placement). length p.at) of_directory.layout ∙ length-map told.parts (λ (part : Part). index_in directory.available part.place)

    pub told_below : All (λ number. number < length directory.available) here
    told_below =
        subst (All (λ number. number < length directory.available)) (sym here_is)
        (next_below told.parts directory.available told.layout.at (entries directory) moves i layout steps so_far plan
        (subst (IsLayout told.layout.at) places is_layout))

    module _ (d : Move) (within : i < length all) where
      inside : i < length moves
      inside = subst (λ (ms : List Move). i < length ms) all_are within

      pub told_legal : IsLegal here (length directory.available) (get_or all i d)
      told_legal =
          subst (λ (ms : List Move). IsLegal here (length directory.available) (get_or ms i d)) (sym all_are)
          (subst (λ (at : List ℕ). IsLegal at (length directory.available) (get_or moves i d)) (sym here_is)
          (next_legal told.parts directory.available told.layout.at (entries directory) moves i layout steps so_far plan d inside))

      pub told_more : (parts : List Part) (step : Step) (new : List Step) → parts ≡ told.parts → new ≡ steps ++ step ∷ []
          → IsStep parts directory.available here (get_or all i d) step → ToldTo (i + 1) (moved layout (get_or all i d)) new
      told_more parts step new parts_are new_is is =
          let of_parts = subst (λ (ps : List Part). IsStep ps directory.available here (get_or all i d) step) parts_are is in
          let of_moves = subst (λ (ms : List Move). IsStep told.parts directory.available here (get_or ms i d) step) all_are of_parts in
          let of_layout = subst (λ (at : List ℕ). IsStep told.parts directory.available at (get_or moves i d) step) here_is of_moves in
          let part_inside : (get_or moves i d).part < length told.parts =
          subst (λ (ms : List Move). (get_or ms i d).part < length told.parts) all_are (subst (λ n. (get_or all i d).part < n) told_length told_legal.part) in
          let in_file : step.part.file < entries directory =
          subst (λ (part : Part). part.file < entries directory) (sym of_layout.part) (file_inside (get_or moves i d).part part_inside) in
          let more = steps_more told.parts directory.available told.layout.at (entries directory) moves i layout steps so_far plan d inside step of_layout in_file in
          subst (ToldTo (i + 1) (moved layout (get_or all i d))) (sym new_is)
          (subst (λ (ms : List Move). ToldTo (i + 1) (moved layout (get_or ms i d)) (steps ++ step ∷ [])) (sym all_are) more)
