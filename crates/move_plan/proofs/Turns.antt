-- A ring, turned.
use Rattle.std.proofs.Common.{◌≡◌, ◌≢◌, ℕ, suc, ◌+◌, ◌<◌, ◌≤◌, cond, eqb, List, [], ◌∷◌, ◌++◌, length, get_or, set, take, drop, ◌-◌, arith, add-one, refl, sym, ap, subst, ◌∙◌, inl, inr}
use Rattle.std.specs.List.{All, Contains}
use Rattle.std.proofs.lemmas.List.{get_or_default, get_or-set_same, get_or-set_other, length-set, length-take, length-drop, get_or-take, get_or-drop}
use Rattle.std.proofs.lemmas.List.Elements.{Contains-get_or}
use Rattle.std.proofs.lemmas.Bool.{cases_eq, eq-eqb}
use Rattle.vol_layout.specs.declared.moves.Move.{Move}
use Rattle.vol_layout.specs.Layouts.{Placement, IsLayout}
use Rattle.vol_layout.specs.Plans.{IsLegal}
use Rattle.vol_layout.specs.Rings.{IsRing, turned}
use Rattle.vol_layout.proofs.RingLemmas.{ring_misplaced, ring_turns, turned_at, turned_last}
use Rattle.vol_layout.proofs.PlanLemmas.{Contains-moved}
use Rattle.move_plan.specs.declared.planner.Planner.{Planner}
use Rattle.move_plan.specs.Underway.{IsUnderway, HasTrail}
use Rattle.move_plan.specs.Runs.{IsAt, MakesMove}
use Rattle.move_plan.specs.Turns.{IsTurning, TurnsRing}
use Rattle.move_plan.proofs.Steps.{IsUnderway-home, IsUnderway-break, HasTrail-push}

-- parts of a ring differ
apart_in_ring : (c ring : List ℕ) (i j : ℕ) → IsRing c ring → i < j → j < length ring → get_or ring j 0 ≢ get_or ring i 0
apart_in_ring c ring i j r before within e = r.distinct i j 0 before within (sym e)

-- the first part goes aside
pub IsTurning-none :
    {A : Type 0} (ring : List ℕ) (old now : Planner A) → IsRing old.now.at ring → All (λ place. place < length old.now.at) old.now.at
    → IsLayout old.now.at old.now.places → length old.now.at ≤ old.spare → old.spare < old.now.places
    → MakesMove (get_or ring 0 0) old.spare old now → IsTurning ring old now 0
IsTurning-none ring old now r within layout past room makes =
    let first = get_or ring 0 0 in
    let some : 0 < length ring = omega (arith, r.long) in
    let target : first < length old.now.at = r.parts 0 0 some in
    let inside : Contains ring first = Contains-get_or ring 0 0 some in
    let away = ring_misplaced old.now.at ring first r inside in
    let at_is : now.now.at ≡ set old.now.at first old.spare = ap (λ p. p.at) makes.now in
    let next : get_or old.now.at first 0 ≡ get_or (turned ring) 0 0 = ring_turns old.now.at ring 0 r some in
    let legal : IsLegal old.now.at old.now.places (record { part = first; to = old.spare }) =
    record { part = target; place = room; free = λ (j, lt, e). let below = within j old.spare lt in omega arith } in
    let other : (k : ℕ) → k ≢ first → get_or now.now.at k 0 ≡ get_or old.now.at k 0 =
    λ k ne. rw at_is (get_or-set_other old.now.at first k old.spare 0 ne) in
    record {
      underway = λ start at.
          rw (makes.now, makes.moves) (IsUnderway-break start old.now old.moves.items old.rings.items at first old.spare ring legal past r inside);
      rings = makes.rings;
      spare = makes.spare;
      size = ap length at_is ∙ length-set old.now.at first old.spare;
      places = ap (λ p. p.places) makes.now;
      layout = makes.layout;
      free = λ h.
          let h' : Contains (set old.now.at first old.spare) (get_or old.now.at first 0) =
          subst (λ c. Contains c (get_or old.now.at first 0)) at_is (subst (Contains now.now.at) (sym next) h) in
          let below = within first 0 target in
          elim ((Contains-moved old.now.at first old.spare (get_or old.now.at first 0) layout.distinct target).0 h') [
            | inl e ↦ omega arith
            | inr stays ↦ stays.1 refl
          ];
      ahead = λ j from h.
          let lt : suc j < length ring = rw add-one at h in
          rw add-one
          (other (get_or ring (suc j) 0) (apart_in_ring old.now.at ring 0 (suc j) r (omega arith) lt)
          ∙ ring_turns old.now.at ring (suc j) r lt);
      others = λ k lt ne. rw (other k ne) (within k 0 lt);
      first = rw at_is (get_or-set_same old.now.at first old.spare 0 target);
      kept = λ k lt home. other k (λ e. away (ap (λ j. get_or old.now.at j 0) (sym e) ∙ (home ∙ e))) ∙ home;
      trail = λ start count left at trail.
          rw (makes.moves, ← next) (HasTrail-push start old.moves.items (record { part = first; to = old.spare }) count left old.now.at trail at.reached);
    }

module _ {A : Type 0} (ring : List ℕ) (old now new : Planner A) (i part : ℕ) (r : IsRing old.now.at ring) (past : length old.now.at ≤ old.spare) (room : old.spare < old.now.places)
    (t : IsTurning ring old now i) (part_is : part ≡ get_or (turned ring) i 0) (target : part < length old.now.at)
    (makes : MakesMove part part now new) where
  within_now : part < length now.now.at
  within_now = rw t.size target

  one_home : Move
  one_home = record { part = part; to = part }

  pub home_is_legal : IsLegal now.now.at now.now.places (record { part = part; to = part })
  home_is_legal =
      record { part = within_now; place = omega (arith, t.places); free = subst (λ x. Contains now.now.at x → ⊥) (sym part_is) t.free }

  at_is : new.now.at ≡ set now.now.at part part
  at_is = ap (λ p. p.at) makes.now

  other : (k : ℕ) → k ≢ part → get_or new.now.at k 0 ≡ get_or now.now.at k 0
  other k ne = rw at_is (get_or-set_other now.now.at part k part 0 ne)

  here : get_or new.now.at part 0 ≡ part
  here = rw at_is (get_or-set_same now.now.at part part 0 within_now)

  underway_home :
      (start : Placement) → IsAt start old → IsUnderway start new.now new.moves.items (old.rings.items ++ ring ∷ [])
  underway_home start at =
      rw (makes.now, makes.moves) (IsUnderway-home start now.now now.moves.items (old.rings.items ++ ring ∷ []) (t.underway start at) part home_is_legal)

  trail_home :
      (start : Placement) (count left : ℕ) → IsAt start old → HasTrail start old.moves.items count left
      → HasTrail start new.moves.items (count + cond (eqb old.spare left) 0 1) (get_or now.now.at part 0)
  unfolding one_home
  trail_home start count left at trail =
      let before = t.trail start count left at trail in
      let more =
      HasTrail-push start now.moves.items one_home (count + cond (eqb old.spare left) 0 1) (get_or (turned ring) i 0) now.now.at before
      (t.underway start at).reached in
      let follows : (count + cond (eqb old.spare left) 0 1) + cond (eqb part (get_or (turned ring) i 0)) 0 1 ≡ count + cond (eqb old.spare left) 0 1 =
      rw (eq-eqb part (get_or (turned ring) i 0) part_is) (omega arith) in
      rw makes.moves (rw follows at more)

  kept_home : (k : ℕ) → k < length old.now.at → get_or old.now.at k 0 ≡ k → get_or new.now.at k 0 ≡ k
  kept_home k lt home =
      elim (cases_eq k part) [
        | inl e ↦ ap (λ j. get_or new.now.at j 0) e ∙ (here ∙ sym e)
        | inr ne ↦ other k ne ∙ t.kept k lt home
      ]

  others_home : (k : ℕ) → k < length old.now.at → k ≢ get_or ring 0 0 → get_or new.now.at k 0 < length old.now.at
  others_home k lt ne =
      elim (cases_eq k part) [
        | inl e ↦ let at : get_or new.now.at k 0 ≡ part = ap (λ j. get_or new.now.at j 0) e ∙ here in omega arith
        | inr off ↦ let at = other k off in let below = t.others k lt ne in omega arith
      ]

  -- one more part comes home
  pub IsTurning-more : suc i < length ring → IsTurning ring old new (i + 1)
  IsTurning-more more =
      let is_part : part ≡ get_or ring (suc i) 0 = part_is ∙ turned_at ring i more in
      let left : get_or now.now.at part 0 ≡ get_or (turned ring) (suc i) 0 =
      ap (λ k. get_or now.now.at k 0) is_part ∙ (rw add-one at (t.ahead i (omega arith) (rw add-one more))) in
      let first_off : get_or ring 0 0 ≢ part = λ e. apart_in_ring old.now.at ring 0 (suc i) r (omega arith) more (sym (e ∙ is_part)) in
      record {
        underway = underway_home;
        rings = makes.rings ∙ t.rings;
        spare = makes.spare ∙ t.spare;
        size = ap length at_is ∙ (length-set now.now.at part part ∙ t.size);
        places = ap (λ p. p.places) makes.now ∙ t.places;
        layout = makes.layout;
        free = λ h.
            let q : ℕ = get_or (turned ring) (suc i) 0 in
            let h' : Contains (set now.now.at part part) q = subst (λ c. Contains c q) at_is (rw add-one at h) in
            elim ((Contains-moved now.now.at part part q t.layout.distinct within_now).0 h') [
              | inl e ↦ home_is_legal.free (subst (Contains now.now.at) (left ∙ e) (Contains-get_or now.now.at part 0 within_now))
              | inr stays ↦ stays.1 (sym left)
            ];
        ahead = λ j from h.
            let lt : suc j < length ring = rw add-one at h in
            let ne : get_or ring (j + 1) 0 ≢ part =
            λ e. apart_in_ring old.now.at ring (suc i) (suc j) r (omega arith) lt ((rw add-one at e) ∙ is_part) in
            other (get_or ring (j + 1) 0) ne ∙ t.ahead j (omega arith) h;
        others = others_home;
        first = other (get_or ring 0 0) first_off ∙ t.first;
        kept = kept_home;
        trail = λ start count before at trail. rw add-one (rw left at (trail_home start count before at trail));
      }

-- the first part comes home last
pub TurnsRing-from :
    {A : Type 0} (ring : List ℕ) (old now new last : Planner A) (i : ℕ) → IsRing old.now.at ring → length old.now.at ≤ old.spare → old.spare < old.now.places
    → IsTurning ring old now i → i + 1 ≡ length ring → MakesMove (get_or ring 0 0) (get_or ring 0 0) now new
    → last.now ≡ new.now → last.moves ≡ new.moves → last.spare ≡ new.spare → last.rings.items ≡ new.rings.items ++ ring ∷ []
    → TurnsRing ring old last
TurnsRing-from ring old now new last i r past room t all makes same_now same_moves same_spare rings =
    let first = get_or ring 0 0 in
    let target : first < length old.now.at = r.parts 0 0 (omega (arith, r.long)) in
    let is : first ≡ get_or (turned ring) i 0 = sym (turned_last ring i (omega arith)) in
    let at_first = here ring old now new i first r past room t is target makes in
    record {
      underway = λ start at.
          rw (same_now, same_moves, rings, makes.rings, t.rings) (underway_home ring old now new i first r past room t is target makes start at);
      rings = rw (rings, makes.rings, t.rings) refl;
      spare = same_spare ∙ (makes.spare ∙ t.spare);
      size = rw (same_now, makes.now) (length-set now.now.at first first ∙ t.size);
      within = rw same_now (λ k d h.
          let lt : k < length old.now.at = rw (makes.now, length-set, t.size) at h in
          let at = get_or_default new.now.at k d 0 h in
          elim (cases_eq k first) [
            | inl e ↦ let home : get_or new.now.at k 0 ≡ first = ap (λ j. get_or new.now.at j 0) e ∙ at_first in omega arith
            | inr ne ↦ let below = others_home ring old now new i first r past room t is target makes k lt ne in omega arith
          ]);
      kept = rw same_now (kept_home ring old now new i first r past room t is target makes);
      home = rw same_now at_first;
      trail = λ start count left at trail.
          let more = trail_home ring old now new i first r past room t is target makes start count left at trail in
          rw (same_moves, same_spare, makes.spare, t.spare) (rw t.first at more);
    }

-- all parts of a ring but the first
abbrev pub rest_of : List ℕ → List ℕ
rest_of parts = take (length parts - 1) (drop 1 parts)

pub length_rest_of : (parts : List ℕ) → length (rest_of parts) ≡ length parts - 1
length_rest_of parts = simp (length-take, length-drop) (omega arith)

pub rest_at : (parts ring : List ℕ) (i : ℕ) → parts ≡ ring → i < length (rest_of parts) → (suc i < length ring) × (get_or (rest_of parts) i 0 ≡ get_or (turned ring) i 0)
rest_at parts ring i e h =
    let long = length_rest_of parts in
    let lt : i < length parts - 1 = omega arith in
    let more : suc i < length ring = omega (arith, ap length e) in
    let one = get_or-take (length parts - 1) (drop 1 parts) i 0 lt in
    let two : get_or (drop 1 parts) i 0 ≡ get_or parts (suc i) 0 = get_or-drop 1 parts i 0 ∙ ap (λ j. get_or parts j 0) (omega arith) in
    (more, one ∙ (two ∙ (ap (λ l. get_or l (suc i) 0) e ∙ sym (turned_at ring i more))))

-- a further move home is legal
pub home_next :
    {A : Type 0} (ring : List ℕ) (old now : Planner A) (i part : ℕ) → length old.now.at ≤ old.spare → old.spare < old.now.places
    → IsTurning ring old now i → part ≡ get_or (turned ring) i 0 → part < length old.now.at
    → IsLegal now.now.at now.now.places (record { part = part; to = part })
home_next ring old now i part past room t is target =
    record { part = rw t.size target; place = omega (arith, t.places); free = subst (λ x. Contains now.now.at x → ⊥) (sym is) t.free }

-- the parts of a ring are parts
pub turned_target : (c ring : List ℕ) (i : ℕ) → IsRing c ring → i < length ring → get_or (turned ring) i 0 < length c
turned_target c ring i r h =
    elim (cases_eq (suc i) (length ring)) [
      | inl last ↦ rw (turned_last ring i last) (r.parts 0 0 (omega (arith, r.long)))
      | inr more ↦ rw (turned_at ring i (omega arith)) (r.parts (suc i) 0 (omega arith))
    ]

pub turned_first : (ring : List ℕ) (i : ℕ) → suc i ≡ length ring → get_or ring 0 0 ≡ get_or (turned ring) i 0
turned_first ring i h = sym (turned_last ring i h)
