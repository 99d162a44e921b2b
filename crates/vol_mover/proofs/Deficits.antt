-- How great a deficit is, and when it is none.
use Rattle.std.specs.Prelude.{◌≡◌, ◌≢◌, ◌≤◌, ℕ, ◌+◌, ◌*◌, ◌==◌, not, max, List, [], ◌∷◌, length, slice_index, slice_index_or, Contains, Any}
use Rattle.std.proofs.Common.{refl, ap, arith}
use Rattle.std.proofs.lemmas.List.FromFn.{length-range_with_len}
use Rattle.vol_layout.specs.Layouts.{misplaced, targets, holes}
use Rattle.vol_layout.specs.Plans.{starts}
use Rattle.vol_layout.specs.Rings.{IsRing, AreAllRings, IsDeficit}
use Rattle.vol_layout.specs.declared.moves.Move.{Move}
use Rattle.vol_layout.proofs.Deficits.{misplaced_all, length_partners, deficit_is_one}
use Rattle.vol_layout.proofs.LowerBound.{apart_from_once}
use Rattle.vol_layout.proofs.RingLemmas.{ring_misplaced}
use Rattle.vol_mover.specs.Work.{IsWork}
use Rattle.vol_mover.specs.Begun.{TakesWrites}
use Rattle.vol_mover.proofs.FewTasks.{filter_fewer}

few_misplaced : (c : List ℕ) → length (misplaced c) ≤ length c
few_misplaced c = omega (arith, filter_fewer (λ k. not (slice_index c k == k)) (targets c), length-range_with_len 0 (length c))

-- each ring has a misplaced part
ring_part : (c ring : List ℕ) → IsRing c ring → Any (Contains ring) (misplaced c)
ring_part c [] is = absurd (omega (arith, is.long))
ring_part c (k ∷ ks) is =
    let has : Contains (k ∷ ks) k = (0, omega arith, refl) in
    let found = misplaced_all c k (is.parts 0 k (omega arith), ring_misplaced c (k ∷ ks) k is has) in
    (found.0, k, found.1, found.2, has)

few_rings : (c : List ℕ) (rings : List (List ℕ)) → AreAllRings c rings → length rings ≤ length (misplaced c)
few_rings c rings all = length_partners (λ (ring : List ℕ) (k : ℕ). Contains ring k) (misplaced c) rings
    (λ i d within. ring_part c (slice_index_or rings i d) (all.each i d within))
    (apart_from_once c rings all)

-- a deficit is twice the number of parts at most
pub few_moves : (c : List ℕ) (deficit : ℕ) → IsDeficit c deficit → deficit ≤ 2 * length c
few_moves c deficit (rings, all, is) = omega (arith, is, few_rings c rings all, few_misplaced c)

pub few_claims : (c : List ℕ) (rings : List (List ℕ)) → AreAllRings c rings → length (misplaced c) + length rings ≤ 2 * length c
few_claims c rings all = omega (arith, few_rings c rings all, few_misplaced c)

pub no_moves : (c : List ℕ) (moves : List Move) → IsDeficit c (length moves) → misplaced c ≡ [] → moves ≡ []
no_moves c [] deficit none = refl
no_moves c (move ∷ moves) (rings, all, is) none =
    let count : length (misplaced c) ≡ 0 = ap (λ (xs : List ℕ). length xs) none in
    absurd (omega (arith, is, few_rings c rings all, count))

pub some_moves : (c : List ℕ) (moves : List Move) → IsDeficit c (length moves) → misplaced c ≢ [] → moves ≢ []
some_moves c moves (rings, all, is) some none =
    let count : length moves ≡ 0 = ap (λ (xs : List Move). length xs) none in
    some (empty (misplaced c) (omega (arith, is, count)))
  where
    empty : (xs : List ℕ) → length xs ≡ 0 → xs ≡ []
    empty [] e = refl
    empty (x ∷ xs) e = absurd (omega (arith, e))

-- the writes of a shortest plan
pub takes_writes : (units : ℕ) (at lost : List ℕ) (moves : List Move) (writes : ℕ) → IsDeficit at (length moves)
    → (misplaced at ≢ [] → starts at moves ≡ max (length (holes at)) 1) → IsWork units at lost moves writes → TakesWrites units at lost writes
takes_writes units at lost moves writes deficit begins work = record {
  one_unit = λ one some d is. let exact = work.one_unit one (some_moves at moves deficit some) in
      let same = deficit_is_one at d (length moves) is deficit in let count = begins some in omega (arith, exact, same, count);
  least = λ some d is. let low = work.least (some_moves at moves deficit some) in
      let same = deficit_is_one at d (length moves) is deficit in let count = begins some in omega (arith, low, same, count);
  most = λ several some d is. let high = work.most several (some_moves at moves deficit some) in
      let same = deficit_is_one at d (length moves) is deficit in let count = begins some in omega (arith, high, same, count);
  in_place = λ none. work.no_moves (no_moves at moves deficit none);
  some_lost = λ none. work.some_lost (no_moves at moves deficit none);
  none_lost = λ none. work.none_lost (no_moves at moves deficit none);
}
