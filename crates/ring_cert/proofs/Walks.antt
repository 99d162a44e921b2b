-- Walks along a ring, and along the moves of a plan.
use Rattle.std.proofs.Common.{◌≡◌, ℕ, ◌+◌, ◌<◌, ◌≤◌, List, length, get_or, map, take, arith, sym, ap, ◌∙◌, subst, zero-add}
use Rattle.std.specs.List.{range_with_len}
use Rattle.std.proofs.lemmas.List.{get_or_default, get_or-map, length-map, same_lists, take_all, take_more}
use Rattle.std.proofs.lemmas.List.FromFn.{length-range_with_len, get_or-range_with_len}
use Rattle.vol_layout.specs.declared.moves.Move.{Move}
use Rattle.vol_layout.specs.Layouts.{Placement, AreDistinct, IsTarget}
use Rattle.vol_layout.specs.Plans.{IsLegal, IsPlan, after, moved}
use Rattle.vol_layout.specs.Rings.{IsRing, turned}
use Rattle.ring_cert.specs.Good.{IsFirstIllegal}
use Rattle.vol_layout.proofs.RingLemmas.{length_turned}
use Rattle.vol_layout.proofs.PlanLemmas.{IsPlan-push, after-push}

-- the first i parts of a ring stand at the places of those that follow them
pub record FollowsTo (at ring : List ℕ) (i : ℕ) : Type 0 where
  pub parts : (j : ℕ) → j < i → get_or ring j 0 < length at
  pub turns : (j : ℕ) → j < i → get_or at (get_or ring j 0) 0 ≡ get_or (turned ring) j 0

pub IsRing-from : (at ring : List ℕ) → 2 ≤ length ring → AreDistinct ring → FollowsTo at ring (length ring) → IsRing at ring
IsRing-from at ring long distinct follows =
    record {
      long = long;
      distinct = distinct;
      parts = λ i d h. subst (λ k. k < length at) (get_or_default ring i 0 d h) (follows.parts i h);
      turns = same_lists (map (λ k. get_or at k 0) ring) (turned ring) (length-map ring (λ k. get_or at k 0) ∙ sym (length_turned ring))
          (λ i d h.
          let lt : i < length ring = rw length-map at h in
          let in_turned : i < length (turned ring) = omega (arith, length_turned ring) in
          get_or-map (λ k. get_or at k 0) ring i 0 d lt ∙ (follows.turns i lt ∙ get_or_default (turned ring) i 0 d in_turned));
    }

-- a layout in which each part is at home is the target
pub IsTarget-from : (at : List ℕ) → ((k : ℕ) → k < length at → get_or at k 0 ≡ k) → IsTarget at
IsTarget-from at home =
    same_lists at (range_with_len 0 (length at)) (sym (length-range_with_len 0 (length at)))
    (λ k d h. get_or_default at k d 0 h ∙ (home k h ∙ sym (get_or-range_with_len 0 (length at) k d h ∙ zero-add k)))

-- the layout after the first i moves
pub record ReachesTo (start now : Placement) (moves : List Move) (i : ℕ) : Type 0 where
  pub legal : IsPlan start.at start.places (take i moves)
  pub reached : now.at ≡ after start.at (take i moves)
  pub places : now.places ≡ start.places

-- no move is made yet, and all are
pub ReachesTo-none : (start now : Placement) (moves : List Move) → now ≡ start → ReachesTo start now moves 0
ReachesTo-none start now moves is = record { legal = tt; reached = ap (λ p. p.at) is; places = ap (λ p. p.places) is }

pub ReachesTo-all : (start now : Placement) (moves : List Move) (i : ℕ) → length moves ≤ i → ReachesTo start now moves i
    → IsPlan start.at start.places moves × (now.at ≡ after start.at moves)
ReachesTo-all start now moves i end to =
    let whole = take_all i moves end in
    (subst (IsPlan start.at start.places) whole to.legal, to.reached ∙ ap (after start.at) whole)

-- one more move, where it could be made
pub ReachesTo-more :
    (start now new : Placement) (moves : List Move) (i : ℕ) (d : Move)
    → i < length moves → ReachesTo start now moves i → IsLegal now.at now.places (get_or moves i d)
    → new ≡ record { at = moved now.at (get_or moves i d); places = now.places }
    → ReachesTo start new moves (i + 1)
ReachesTo-more start now new moves i d within before legal is =
    let m = get_or moves i d in
    let more = take_more moves i d within in
    let can : IsLegal (after start.at (take i moves)) start.places m = subst (λ p. IsLegal (after start.at (take i moves)) p m) before.places (subst (λ at. IsLegal at now.places m) before.reached legal) in
    record {
      legal = subst (IsPlan start.at start.places) (sym more) (IsPlan-push start.at start.places (take i moves) m before.legal can);
      reached = ap (λ p. p.at) is ∙ (ap (λ at. moved at m) before.reached ∙ (sym (after-push start.at (take i moves) m) ∙ ap (after start.at) (sym more)));
      places = ap (λ p. p.places) is ∙ before.places;
    }

-- the first move that cannot be made
pub ReachesTo-illegal :
    (start now : Placement) (moves : List Move) (i : ℕ) (d : Move)
    → i < length moves → ReachesTo start now moves i → (IsLegal now.at now.places (get_or moves i d) → ⊥) → IsFirstIllegal start moves i
ReachesTo-illegal start now moves i d within before not =
    record {
      within = within;
      before = before.legal;
      here = λ e legal.
          let m = get_or moves i e in
          let here = subst (λ p. IsLegal (after start.at (take i moves)) p m) (sym before.places) legal in
          let now_here = subst (λ at. IsLegal at now.places m) (sym before.reached) here in
          not (subst (IsLegal now.at now.places) (get_or_default moves i e d within) now_here);
    }
