-- What one move keeps.
use Rattle.std.proofs.Common.{◌≡◌, ◌≢◌, ℕ, ◌+◌, ◌<◌, ◌≤◌, eqb, cond, List, [], ◌∷◌, ◌++◌, length, get_or, set, arith, refl, ap, subst, ◌∙◌, inl, inr}
use Rattle.std.specs.List.{Contains}
use Rattle.vol_layout.specs.declared.moves.Move.{Move}
use Rattle.vol_layout.specs.Layouts.{Placement, misplaced}
use Rattle.vol_layout.specs.Plans.{IsLegal, after, moved, starts_after}
use Rattle.vol_layout.specs.Rings.{IsRing, SameParts}
use Rattle.vol_layout.proofs.RingLemmas.{ring_kept, ring_occupies, ring_leads, ring_misplaced, ring_of_both, same_ring}
use Rattle.vol_layout.proofs.PlanLemmas.{IsPlan-push, after-push}
use Rattle.vol_layout.proofs.Lists.{has, Contains-has, has-Contains}
use Rattle.std.proofs.lemmas.List.Elements.{All-push}
use Rattle.std.proofs.lemmas.List.Quantifiers.{all_pairs_push, Any-push}
use Rattle.std.proofs.lemmas.Bool.{cases_Bool, both_ways}
use Rattle.std.proofs.lemmas.List.{set-set, set-get_or, get_or_default, get_or-set_same, length-append, length-set, get_or_append_left}
use Rattle.move_plan.proofs.Counts.{misplaced_home, misplaced_away}
use Rattle.move_plan.specs.Underway.{IsUnderway, left_after, HasTrail}

-- the place that one more move leaves
left_after-push : (place : ℕ) (c : List ℕ) (ms : List Move) (m : Move) → left_after place c (ms ++ m ∷ []) ≡ get_or (after c ms) m.part 0
left_after-push place c [] m = refl
left_after-push place c (x ∷ ms) m = left_after-push (get_or c x.part 0) (moved c x) ms m

-- whether one more move is a start
starts_after-push :
    (place : ℕ) (c : List ℕ) (ms : List Move) (m : Move)
    → starts_after place c (ms ++ m ∷ []) ≡ starts_after place c ms + cond (eqb m.to (left_after place c ms)) 0 1
starts_after-push place c [] m = omega arith
starts_after-push place c (x ∷ ms) m =
    let rest = starts_after-push (get_or c x.part 0) (moved c x) ms m in
    omega arith

-- a ring of the layout after a move was one before, unless the part that moved is in it
ring_back : (c : List ℕ) (k place : ℕ) (ring : List ℕ) → IsRing (set c k place) ring → (Contains ring k → ⊥) → IsRing c ring
ring_back c k place ring r out =
    subst (λ l. IsRing l ring) (set-set c k place (get_or c k 0) ∙ set-get_or c k 0)
    (ring_kept (set c k place) k (get_or c k 0) ring r out)

module _ (start : Placement) (now : Placement) (moves : List Move) (broken : List (List ℕ)) (u : IsUnderway start now moves broken) where
  -- a part moves home, where none stands
  pub IsUnderway-home : (k : ℕ) → IsLegal now.at now.places (record { part = k; to = k }) →
      IsUnderway start (record { at = set now.at k k; places = now.places }) (moves ++ (record { part = k; to = k }) ∷ []) broken
  IsUnderway-home k legal =
      let away : get_or now.at k 0 ≢ k = λ e. legal.free (k, legal.part, get_or_default now.at k k 0 legal.part ∙ e) in
      let home : get_or (set now.at k k) k 0 ≡ k = get_or-set_same now.at k k 0 legal.part in
      let out : (ring : List ℕ) → IsRing now.at ring → Contains ring k → ⊥ =
      λ ring r inside. legal.free (ring_occupies now.at ring k r inside) in
      let out_after : (ring : List ℕ) → IsRing (set now.at k k) ring → Contains ring k → ⊥ =
      λ ring r inside. ring_misplaced (set now.at k k) ring k r inside home in
      let back : (ring : List ℕ) → IsRing (set now.at k k) ring → IsRing now.at ring =
      λ ring r. ring_back now.at k k ring r (out_after ring r) in
      record {
        legal = IsPlan-push start.at start.places moves (record { part = k; to = k }) u.legal (rw (u.reached, ← u.places) legal);
        reached = after-push start.at moves (record { part = k; to = k }) ∙ ap (λ l. set l k k) u.reached;
        places = u.places;
        count =
            let one = misplaced_home now.at k legal.part away in
            rw length-append (omega (arith, u.count));
        each = u.each;
        once = u.once;
        gone = λ i d h r. u.gone i d h (back (get_or broken i d) r);
        left = λ ring r.
            elim (u.left ring r) [
              | inl stands ↦ inl (ring_kept now.at k k ring stands (out ring stands))
              | inr is ↦ inr is
            ];
        old = λ ring r. u.old ring (back ring r);
      }

  -- a part of a ring moves to a place past the targets
  pub IsUnderway-break : (k place : ℕ) (ring : List ℕ) → IsLegal now.at now.places (record { part = k; to = place }) → length now.at ≤ place
      → IsRing now.at ring → Contains ring k →
      IsUnderway start (record { at = set now.at k place; places = now.places }) (moves ++ (record { part = k; to = place }) ∷ []) (broken ++ ring ∷ [])
  IsUnderway-break k place ring legal past stands inside =
      let away = ring_misplaced now.at ring k stands inside in
      let out_after : (r : List ℕ) → IsRing (set now.at k place) r → Contains r k → ⊥ =
      λ r is has_k.
      let there : get_or (set now.at k place) k 0 ≡ place = get_or-set_same now.at k place 0 legal.part in
      let (j, lt, e) = subst (Contains r) there (ring_leads (set now.at k place) r is k has_k) in
      let short : get_or r j place < length now.at = rw length-set at (is.parts j place lt) in
      omega arith in
      let back : (r : List ℕ) → IsRing (set now.at k place) r → IsRing now.at r =
      λ r is. ring_back now.at k place r is (out_after r is) in
      record {
        legal = IsPlan-push start.at start.places moves (record { part = k; to = place }) u.legal (rw (u.reached, ← u.places) legal);
        reached = after-push start.at moves (record { part = k; to = place }) ∙ ap (λ l. set l k place) u.reached;
        places = u.places;
        count =
            let same : length (misplaced (set now.at k place)) ≡ length (misplaced now.at) =
            ap length (misplaced_away now.at k place legal.part away (λ e. omega arith)) in
            rw (length-append, length-append) (omega (arith, u.count));
        each = All-push (IsRing start.at) broken ring u.each (u.old ring stands);
        once =
            all_pairs_push (λ r s. SameParts r s → ⊥) broken ring u.once
            (λ i d h same.
            u.gone i d h
            (ring_of_both start.at now.at ring (get_or broken i d) (u.old ring stands) stands (u.each i d h) same));
        gone =
            All-push (λ r. IsRing (set now.at k place) r → ⊥) broken ring
            (λ i d h r. u.gone i d h (back (get_or broken i d) r))
            (λ r. out_after ring r inside);
        left = λ r is.
            elim (u.left r is) [
              | inl there ↦
                  elim (cases_Bool (has k r)) [
                    | inl e ↦ inr (Any-push (SameParts r) broken ring (same_ring now.at r ring k there stands (Contains-has k r e) inside))
                    | inr e ↦ inl (ring_kept now.at k place r there (λ has_k. both_ways (has k r) e (has-Contains k r has_k)))
                  ]
              | inr (i, s, h, e, same) ↦
                  inr (i, s, rw length-append (omega arith), get_or_append_left broken (ring ∷ []) s i h ∙ e, same)
            ];
        old = λ r is. u.old r (back r is);
      }

-- the trail after one more move
pub HasTrail-push :
    (start : Placement) (moves : List Move) (m : Move) (count left : ℕ) (c : List ℕ) → HasTrail start moves count left → after start.at moves ≡ c
    → HasTrail start (moves ++ m ∷ []) (count + cond (eqb m.to left) 0 1) (get_or c m.part 0)
HasTrail-push start moves m count left c trail reached =
    record {
      starts = rw (starts_after-push start.places start.at moves m, trail.starts, trail.place);
      place = left_after-push start.places start.at moves m ∙ ap (λ l. get_or l m.part 0) reached;
    }
