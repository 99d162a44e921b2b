-- Each layout has a deficit: its rings can be listed.
use Rattle.std.proofs.Common.{◌≢◌, ℕ, suc, zero, ◌+◌, ◌<◌, ◌⊎◌, List, [], ◌∷◌, ◌++◌, length, get_or, arith, refl, subst, ◌∙◌, inl, inr}
use Rattle.std.specs.List.{All, AllPairs, Any, Contains, list_any}
use Rattle.std.proofs.lemmas.List.{length-append, length_push, get_or_append_left}
use Rattle.std.proofs.lemmas.List.Elements.{All-push, Contains-get_or}
use Rattle.std.proofs.lemmas.List.Quantifiers.{all_pairs_push, Any-push}
use Rattle.std.proofs.lemmas.List.Folds.{Any-from_list_any, list_any_at}
use Rattle.std.proofs.lemmas.Bool.{cases_eq, cases_lt, cases_Bool, both_ways}
use Rattle.vol_layout.specs.Layouts.{AreDistinct, misplaced}
use Rattle.vol_layout.specs.Rings.{IsRing, SameParts, AreAllRings, IsDeficit}
use Rattle.vol_layout.proofs.Lists.{has, Contains-has, has-Contains}
use Rattle.vol_layout.proofs.RingLemmas.{ring_leads, ring_misplaced, same_ring}
use Rattle.vol_layout.proofs.RingPaths.{IsPath, IsPath-none, IsPath-more, length_path, IsRing-path, has_first}

-- a ring with this part, or none
abbrev Found : List ℕ → ℕ → Type 0
Found c first =
    ((ring : List ℕ) × IsRing c ring × Contains ring first) ⊎ ((ring : List ℕ) → IsRing c ring → Contains ring first → ⊥)

ring_below : (c ring : List ℕ) (k : ℕ) → IsRing c ring → Contains ring k → k < length c
ring_below c ring k r (i, lt, e) = subst (λ x. x < length c) e (r.parts i k lt)

search_from :
    (fuel : ℕ) (c : List ℕ) (first : ℕ) (parts : List ℕ) (next : ℕ) → AreDistinct c → get_or c first 0 ≢ first → IsPath c first parts next
    → length c < fuel + length parts → Found c first
search_from zero c first parts next distinct away path enough = absurd (omega (arith, length_path c first parts next path))
search_from (suc fuel) c first parts next distinct away path enough =
    elim (cases_eq next first) [
      | inl back ↦ inl (parts, IsRing-path c first parts next path back away, has_first c first parts next path)
      | inr onward ↦
          elim (cases_lt (get_or c next 0) (length c)) [
            | inl lt ↦
                search_from fuel c first (parts ++ next ∷ []) (get_or c next 0) distinct away (IsPath-more c first parts next path distinct onward lt)
                (omega (arith, length_push parts next))
            | inr past ↦
                inr (λ ring r inside.
                let below = ring_below c ring (get_or c next 0) r (ring_leads c ring r next (path.reached ring r inside)) in
                omega arith)
          ]
    ]

find_ring : (c : List ℕ) (first : ℕ) → AreDistinct c → Found c first
find_ring c first distinct =
    elim (cases_lt first (length c)) [
      | inr past ↦ inr (λ ring r inside. let below = ring_below c ring first r inside in omega arith)
      | inl target ↦
          elim (cases_eq (get_or c first 0) first) [
            | inl home ↦ inr (λ ring r inside. ring_misplaced c ring first r inside home)
            | inr away ↦
                elim (cases_lt (get_or c first 0) (length c)) [
                  | inl lt ↦ search_from (suc (length c)) c first (first ∷ []) (get_or c first 0) distinct away (IsPath-none c first target lt) (omega arith)
                  | inr past ↦
                      inr (λ ring r inside.
                      let below = ring_below c ring (get_or c first 0) r (ring_leads c ring r first inside) in
                      omega arith)
                ]
          ]
    ]

-- the rings that have a part below m, each once
record RingsBelow (c : List ℕ) (m : ℕ) : Type 0 where
  rings : List (List ℕ)
  each : All (IsRing c) rings
  once : AllPairs (λ r s. SameParts r s → ⊥) rings
  all : (ring : List ℕ) → IsRing c ring → (k : ℕ) → k < m → Contains ring k → Any (SameParts ring) rings

rings_below : (c : List ℕ) → AreDistinct c → (m : ℕ) → RingsBelow c m
rings_below c distinct zero =
    record {
      rings = [];
      each = λ i d h. absurd (omega arith);
      once = λ i j d before h. absurd (omega arith);
      all = λ ring r k lt inside. absurd (omega arith);
    }
rings_below c distinct (suc m) =
    let rest = rings_below c distinct m in
    elim (find_ring c m distinct) [
      | inr none ↦
          record {
            rings = rest.rings;
            each = rest.each;
            once = rest.once;
            all = λ ring r k lt inside.
                elim (cases_eq k m) [
                  | inl e ↦ absurd (none ring r (subst (Contains ring) e inside))
                  | inr ne ↦ rest.all ring r k (omega arith) inside
                ];
          }
      | inl (ring, r, inside) ↦
          elim (cases_Bool (list_any (has m) rest.rings)) [
            | inl t ↦
                let (i, s, lt, at, is) = Any-from_list_any (has m) rest.rings t in
                let stands : IsRing c s = subst (IsRing c) at (rest.each i s lt) in
                record {
                  rings = rest.rings;
                  each = rest.each;
                  once = rest.once;
                  all = λ ring' r' k below inside'.
                      elim (cases_eq k m) [
                        | inl e ↦ (i, s, lt, at, same_ring c ring' s m r' stands (subst (Contains ring') e inside') (Contains-has m s is))
                        | inr ne ↦ rest.all ring' r' k (omega arith) inside'
                      ];
                }
            | inr f ↦
                record {
                  rings = rest.rings ++ ring ∷ [];
                  each = All-push (IsRing c) rest.rings ring rest.each r;
                  once =
                      all_pairs_push (λ a b. SameParts a b → ⊥) rest.rings ring rest.once
                      (λ i d lt same.
                      both_ways (list_any (has m) rest.rings) f
                      (list_any_at (has m) rest.rings i d lt (has-Contains m (get_or rest.rings i d) ((same m).1 inside))));
                  all = λ ring' r' k below inside'.
                      elim (cases_eq k m) [
                        | inl e ↦ Any-push (SameParts ring') rest.rings ring (same_ring c ring' ring m r' r (subst (Contains ring') e inside') inside)
                        | inr ne ↦
                            let (i, s, lt, at, same) = rest.all ring' r' k (omega arith) inside' in
                            (i, s, rw length-append (omega arith), get_or_append_left rest.rings (ring ∷ []) s i lt ∙ at, same)
                      ];
                }
          ]
    ]

-- the rings of a layout can be listed
pub some_rings : (c : List ℕ) → AreDistinct c → (rings : List (List ℕ)) × AreAllRings c rings
some_rings c distinct =
    let found = rings_below c distinct (length c) in (
      found.rings,
      record {
        each = found.each;
        once = found.once;
        all = λ ring r.
            let some : 0 < length ring = omega (arith, r.long) in
            found.all ring r (get_or ring 0 0) (r.parts 0 0 some) (Contains-get_or ring 0 0 some);
      },
    )

pub some_deficit : (c : List ℕ) → AreDistinct c → (d : ℕ) × IsDeficit c d
some_deficit c distinct =
    let (rings, all) = some_rings c distinct in
    (length (misplaced c) + length rings, (rings, all, refl))
