-- The rings, turned one after the other, and what stands at the end.
use Rattle.std.proofs.Common.{◌≡◌, ◌≢◌, ℕ, ◌+◌, ◌<◌, ◌≤◌, cond, eqb, List, [], ◌∷◌, length, get_or, arith, refl, sym, ap, ◌∙◌, inl, inr}
use Rattle.std.specs.List.{All, range_with_len}
use Rattle.std.proofs.lemmas.List.{get_or_default, same_lists}
use Rattle.std.proofs.lemmas.List.FromFn.{length-range_with_len, get_or-range_with_len}
use Rattle.std.proofs.lemmas.List.Elements.{All-head, All-push, Contains-get_or}
use Rattle.std.proofs.lemmas.List.Quantifiers.{all_pairs_push}
use Rattle.std.proofs.lemmas.Bool.{cases_eq, cases_lt, eq-eqb, ne_eqb}
use Rattle.vol_layout.specs.declared.moves.Move.{Move}
use Rattle.vol_layout.specs.Layouts.{Placement, IsTarget, IsMisplaced, misplaced, holes}
use Rattle.vol_layout.specs.Plans.{IsPlan, after, starts, starts_after}
use Rattle.vol_layout.specs.Rings.{IsRing, AreAllRings, IsDeficit}
use Rattle.vol_layout.proofs.LowerBound.{misplaced_each}
use Rattle.vol_layout.proofs.RingLemmas.{ring_misplaced, target_no_ring}
use Rattle.move_plan.specs.declared.planner.Planner.{Planner}
use Rattle.move_plan.specs.Planning.{BeginsWithLeast}
use Rattle.move_plan.specs.Runs.{IsFresh, IsFilled}
use Rattle.move_plan.specs.Turns.{TurnsRing, IsTurnedTo, IsDone}
use Rattle.move_plan.proofs.Counts.{misplaced_home}
use Rattle.move_plan.proofs.Holes.{IsUnderway-none}

pub IsTurnedTo-none : {A : Type 0} (start : Placement) (p : Planner A) → IsFilled start p → IsTurnedTo start p 0
IsTurnedTo-none start p filled =
    record {
      underway = filled.underway;
      size = filled.size;
      within = filled.within;
      home = λ j h. absurd (omega arith);
      least = rw filled.rings (λ i d h. absurd (omega arith));
      rising = rw filled.rings (λ i j d lt h. absurd (omega arith));
      before = rw filled.rings (λ i d h. absurd (omega arith));
      count = length (holes start.at);
      left = filled.spare.left;
      trail = filled.spare.trail;
      is =
          elim filled.spare.is [
            | inl some ↦ inl (some.0, omega (arith, some.1))
            | inr none ↦
                let zero_starts : 0 ≡ length (holes start.at) = rw none.0 at filled.spare.trail.starts in
                inr (none.0, none.1, sym zero_starts)
          ];
      past = filled.spare.past;
      room = filled.spare.room;
    }

-- a part that is home
pub IsTurnedTo-home : {A : Type 0} (start : Placement) (p : Planner A) (k : ℕ) → IsTurnedTo start p k → get_or p.now.at k 0 ≡ k → IsTurnedTo start p (k + 1)
IsTurnedTo-home start p k t here =
    record {
      underway = t.underway;
      size = t.size;
      within = t.within;
      home = λ j h.
          elim (cases_eq j k) [
            | inl e ↦ ap (λ i. get_or p.now.at i 0) e ∙ (here ∙ sym e)
            | inr ne ↦ t.home j (omega arith)
          ];
      least = t.least;
      rising = t.rising;
      before = λ i d h. let below = t.before i d h in omega arith;
      count = t.count;
      left = t.left;
      trail = t.trail;
      is = t.is;
      past = t.past;
      room = t.room;
    }

-- where the smaller parts are home, a ring of part k begins at its least part
begins_at_least :
    (c ring : List ℕ) (k : ℕ) → IsRing c ring → get_or ring 0 0 ≡ k → ((j : ℕ) → j < k → get_or c j 0 ≡ j) → BeginsWithLeast ring
begins_at_least c ring k r first home i d h =
    elim (cases_lt (get_or ring i d) k) [
      | inl below ↦ absurd (ring_misplaced c ring (get_or ring i d) r (Contains-get_or ring i d h) (home (get_or ring i d) below))
      | inr past ↦ omega arith
    ]

pub IsTurnedTo-turn :
    {A : Type 0} (start : Placement) (p p' : Planner A) (k : ℕ) (ring : List ℕ) → k < length start.at → IsTurnedTo start p k → IsRing p.now.at ring → get_or ring 0 0 ≡ k
    → TurnsRing ring p p' → IsTurnedTo start p' (k + 1)
IsTurnedTo-turn start p p' k ring target t r first turns =
    record {
      underway = turns.underway start t.underway;
      size = turns.size ∙ t.size;
      within = rw (← t.size) turns.within;
      home = λ j h.
          elim (cases_eq j k) [
            | inl e ↦ let is = e ∙ sym first in ap (λ i. get_or p'.now.at i 0) is ∙ (turns.home ∙ sym is)
            | inr ne ↦ turns.kept j (omega (arith, t.size)) (t.home j (omega arith))
          ];
      least = rw turns.rings (All-push BeginsWithLeast p.rings.items ring t.least (begins_at_least p.now.at ring k r first t.home));
      rising =
          rw turns.rings
          (all_pairs_push (λ s r. get_or s 0 0 < get_or r 0 0) p.rings.items ring t.rising (λ i d h. rw first (t.before i d h)));
      before =
          rw turns.rings
          (All-push (λ s. get_or s 0 0 < k + 1) p.rings.items ring (λ i d h. let below = t.before i d h in omega arith) (rw first (omega arith)));
      count = t.count + cond (eqb p.spare t.left) 0 1;
      left = p'.spare;
      trail = turns.trail start t.count t.left t.underway t.trail;
      is =
          inl (
            refl,
            elim t.is [
              | inl some ↦ rw (eq-eqb p.spare t.left (sym some.0)) (omega (arith, some.1))
              | inr none ↦
                  let zero_starts : 0 ≡ t.count = rw none.0 at t.trail.starts in
                  let ne : p.spare ≢ t.left = λ e. omega (arith, none.1, t.room) in
                  rw (ne_eqb p.spare t.left ne) (omega (arith, none.2))
            ],
          );
      past = rw turns.spare t.past;
      room = rw turns.spare t.room;
    }

-- a plan's starts, with a number that is no place before its first move
starts_is : (c : List ℕ) (places : ℕ) (ms : List Move) → IsPlan c places ms → starts c ms ≡ starts_after places c ms
starts_is c places [] legal = refl
starts_is c places (m ∷ ms) legal =
    let ne : m.to ≢ places = λ e. let below = legal.0.place in omega arith in
    rw (ne_eqb m.to places ne) refl

all_home_nil : (c ks : List ℕ) → ((j : ℕ) → j < length c → get_or c j 0 ≡ j) → All (IsMisplaced c) ks → ks ≡ []
all_home_nil c [] home each = refl
all_home_nil c (k ∷ ks) home each =
    let off = All-head (IsMisplaced c) k ks each in
    absurd (off.1 (home k off.0))

misplaced_none : (c : List ℕ) → ((j : ℕ) → j < length c → get_or c j 0 ≡ j) → misplaced c ≡ []
misplaced_none c home = all_home_nil c (misplaced c) home (misplaced_each c)

pub IsDone-turned : {A : Type 0} (start : Placement) (p : Planner A) (k : ℕ) → length start.at ≤ k → IsTurnedTo start p k → IsDone start p
IsDone-turned start p k past t =
    record {
      underway = t.underway;
      size = t.size;
      home = λ j h. t.home j (omega arith);
      least = t.least;
      rising = t.rising;
      starts = λ some.
          elim t.is [
            | inl counted ↦ starts_is start.at start.places p.moves.items t.underway.legal ∙ (t.trail.starts ∙ counted.1)
            | inr none ↦
                let same : start.at ≡ p.now.at = rw none.0 at t.underway.reached in
                absurd (some (misplaced_none start.at (λ j h. rw same (t.home j (omega arith)))))
          ];
      past = t.past;
    }

-- where no part is misplaced, nothing is to be done
pub IsDone-fresh : {A : Type 0} (start : Placement) (p : Planner A) → IsFresh start p → misplaced start.at ≡ [] → IsDone start p
IsDone-fresh start p fresh none =
    record {
      underway = rw (fresh.now, fresh.moves, fresh.rings) (IsUnderway-none start);
      size = ap (λ q. length q.at) fresh.now;
      home = λ j h.
          elim (cases_eq (get_or start.at j 0) j) [
            | inl e ↦ rw fresh.now e
            | inr ne ↦ absurd (omega (arith, misplaced_home start.at j h ne, ap length none))
          ];
      least = rw fresh.rings (λ i d h. absurd (omega arith));
      rising = rw fresh.rings (λ i j d lt h. absurd (omega arith));
      starts = λ some. absurd (some none);
      past = omega (arith, fresh.spare);
    }

module _ {A : Type 0} (start : Placement) (p : Planner A) (done : IsDone start p) where
  now_is_target : IsTarget p.now.at
  now_is_target =
      same_lists p.now.at (range_with_len 0 (length p.now.at)) (sym (length-range_with_len 0 (length p.now.at)))
      (λ k d h.
      let home = done.home k (omega (arith, done.size)) in
      let at = get_or_default p.now.at k d 0 h in
      let there = get_or-range_with_len 0 (length p.now.at) k d h in
      at ∙ (home ∙ omega (arith, there)))

  pub done_target : IsTarget (after start.at p.moves.items)
  done_target = rw done.underway.reached now_is_target

  pub done_rings : AreAllRings start.at p.rings.items
  done_rings =
      record {
        each = done.underway.each;
        once = done.underway.once;
        all = λ ring r.
            elim (done.underway.left ring r) [
              | inl stands ↦ absurd (target_no_ring p.now.at ring now_is_target stands)
              | inr is ↦ is
            ];
      }

  pub done_deficit : IsDeficit start.at (length p.moves.items)
  done_deficit =
      let none = misplaced_none p.now.at (λ j h. done.home j (omega (arith, done.size))) in
      (p.rings.items, done_rings, omega (arith, done.underway.count, ap length none))
