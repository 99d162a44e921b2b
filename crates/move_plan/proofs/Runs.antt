-- A run of moves into a hole.
use Rattle.std.proofs.Common.{◌≡◌, ◌≢◌, ℕ, ◌+◌, ◌<◌, ◌≤◌, ◌↔◌, ◌⊎◌, cond, eqb, length, get_or, set, arith, refl, sym, ap, subst, ◌∙◌, inl, inr}
use Rattle.std.specs.List.{Contains}
use Rattle.std.proofs.lemmas.List.{length-set, get_or_default}
use Rattle.std.proofs.lemmas.List.Elements.{Contains-get_or}
use Rattle.std.proofs.lemmas.Bool.{cases_eq, eq-eqb, ne_eqb}
use Rattle.vol_layout.specs.declared.moves.Move.{Move}
use Rattle.vol_layout.specs.Layouts.{Placement, IsLayout, misplaced}
use Rattle.vol_layout.specs.Plans.{IsLegal}
use Rattle.move_plan.specs.declared.planner.Planner.{Planner}
use Rattle.move_plan.specs.Underway.{HasTrail}
use Rattle.move_plan.specs.Runs.{IsAt, MakesMove, IsRunning, FillsHole}
use Rattle.move_plan.proofs.Counts.{misplaced_home}
use Rattle.vol_layout.proofs.PlanLemmas.{Contains-moved}
use Rattle.move_plan.proofs.Steps.{IsUnderway-home, HasTrail-push}

-- a move home keeps the planner underway
pub IsAt-home : {A : Type 0} (start : Placement) (k : ℕ) (old new : Planner A) → IsLegal old.now.at old.now.places (record { part = k; to = k }) → MakesMove k k old new → IsAt start old → IsAt start new
IsAt-home start k old new legal makes at =
    rw (makes.now, makes.moves, makes.rings) (IsUnderway-home start old.now old.moves.items old.rings.items at k legal)

module _ {A : Type 0} (hole : ℕ) (old now new : Planner A) (place left : ℕ) (running : IsRunning hole old now place) (target : place < length now.now.at)
    (left_is : left ≡ get_or now.now.at place 0) (makes : MakesMove place place now new) where
  home_is_legal : IsLegal now.now.at now.now.places (record { part = place; to = place })
  home_is_legal = record { part = target; place = running.room; free = running.free }

  at_is : new.now.at ≡ set now.now.at place place
  at_is = ap (λ p. p.at) makes.now

  stands : Contains now.now.at left
  stands = rw left_is (Contains-get_or now.now.at place 0 target)

  moved_is : (q : ℕ) → Contains new.now.at q ↔ ((q ≡ place) ⊎ (Contains now.now.at q × (q ≢ left)))
  moved_is q = rw (at_is, left_is) (Contains-moved now.now.at place place q running.layout.distinct target)

  off : left ≢ place
  off e = running.free (subst (Contains now.now.at) e stands)

  one_more : Move
  one_more = record { part = place; to = place }

  trail_more :
      (start : Placement) (count before : ℕ) → IsAt start old → HasTrail start old.moves.items count before → before ≢ hole
      → HasTrail start new.moves.items (count + 1) left
  unfolding one_more
  trail_more start count before at trail apart =
      let reached = (running.underway start at).reached in
      elim (running.trail start count before at trail apart) [
        | inl (is_hole, same) ↦
            let ne : place ≢ before = λ e. apart (sym e ∙ is_hole) in
            let here : HasTrail start now.moves.items count before = rw same trail in
            let more = HasTrail-push start now.moves.items one_more count before now.now.at here reached in
            rw (makes.moves, left_is) (rw (ne_eqb place before ne) at more)
        | inr follows ↦
            let more = HasTrail-push start now.moves.items one_more (count + 1) place now.now.at follows reached in
            let same : count + 1 + cond (eqb place place) 0 1 ≡ count + 1 = rw (eq-eqb place place refl) (omega arith) in
            rw (makes.moves, left_is) (rw same at more)
      ]

  came_from : (q : ℕ) → q ≡ place → q < length old.now.at → Contains old.now.at q ⊎ (q ≡ hole)
  came_from q e lt =
      elim (running.from (subst (λ x. x < length old.now.at) e lt)) [
        | inl is_hole ↦ inr (e ∙ is_hole)
        | inr there ↦ inl (subst (Contains old.now.at) (sym e) there)
      ]

  taken_more : (q : ℕ) → q < length old.now.at → q ≢ left → Contains new.now.at q ↔ (Contains old.now.at q ⊎ (q ≡ hole))
  taken_more q lt ne = (
    (λ h.
        elim (cases_eq q place) [
          | inl e ↦ came_from q e lt
          | inr other ↦
              elim ((moved_is q).0 h) [
                | inl e ↦ came_from q e lt
                | inr stays ↦ (running.taken q lt other).0 stays.0
              ]
        ]),
    (λ h.
        elim (cases_eq q place) [
          | inl e ↦ (moved_is q).1 (inl e)
          | inr other ↦ (moved_is q).1 (inr ((running.taken q lt other).1 h, ne))
        ]),
  )

  pub IsRunning-more : IsRunning hole old new left
  IsRunning-more =
      record {
        underway = λ start at. IsAt-home start place now new home_is_legal makes (running.underway start at);
        trail = λ start count before at trail apart. inr (trail_more start count before at trail apart);
        rings = makes.rings ∙ running.rings;
        size = ap length at_is ∙ (length-set now.now.at place place ∙ running.size);
        places = ap (λ p. p.places) makes.now ∙ running.places;
        layout = makes.layout;
        free = λ h. elim ((moved_is left).0 h) [ inl e ↦ off e | inr stays ↦ stays.1 refl ];
        room = rw makes.now (rw left_is (running.layout.below place 0 target));
        from = λ lt. elim ((running.taken left lt off).0 stands) [ inl there ↦ inr there | inr e ↦ inl e ];
        taken = taken_more;
      }

-- each move of a run leaves one misplaced part fewer
pub IsRunning-fewer :
    {A : Type 0} (hole : ℕ) (old now new : Planner A) (place : ℕ) → IsRunning hole old now place → place < length now.now.at → MakesMove place place now new
    → length (misplaced new.now.at) < length (misplaced now.now.at)
IsRunning-fewer hole old now new place running target makes =
    let away : get_or now.now.at place 0 ≢ place = λ e. running.free (place, target, get_or_default now.now.at place place 0 target ∙ e) in
    let one = misplaced_home now.now.at place target away in
    rw makes.now (omega arith)

-- a run begins
pub IsRunning-none :
    {A : Type 0} (hole : ℕ) (p : Planner A) → IsLayout p.now.at p.now.places → (Contains p.now.at hole → ⊥) → hole < p.now.places → IsRunning hole p p hole
IsRunning-none hole p layout free room =
    record {
      underway = λ start at. at;
      trail = λ start count before at trail apart. inl (refl, refl);
      rings = refl;
      size = refl;
      places = refl;
      layout = layout;
      free = free;
      room = room;
      from = λ _. inl refl;
      taken = λ q lt ne. (λ h. inl h, λ h. elim h [ inl there ↦ there | inr e ↦ absurd (ne e) ]);
    }

-- a run ends
pub FillsHole-from :
    {A : Type 0} (hole : ℕ) (old now : Planner A) (place : ℕ) → hole < length old.now.at → IsRunning hole old now place → length now.now.at ≤ place
    → FillsHole hole old (record now { spare = place })
FillsHole-from hole old now place target running past =
    record {
      underway = running.underway;
      trail = λ start count before at trail apart.
          elim (running.trail start count before at trail apart) [
            | inl (is_hole, same) ↦ absurd (omega (arith, running.size))
            | inr follows ↦ follows
          ];
      rings = running.rings;
      size = running.size;
      places = running.places;
      layout = running.layout;
      taken = λ q lt. running.taken q lt (λ e. omega (arith, running.size));
      past = past;
      room = running.room;
    }
