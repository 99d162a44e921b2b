-- Rings: what a move leaves of them, and that two rings with a common part are the same.
use Rattle.std.proofs.Common.{◌≡◌, ◌≢◌, ℕ, suc, ◌<◌, ◌≤◌, List, [], ◌∷◌, ◌++◌, length, get_or, set, drop, map, arith, refl, sym, ap, ◌∙◌, subst, inl, inr, zero-add}
use Rattle.std.specs.List.{All, Contains}
use Rattle.std.proofs.lemmas.List.Elements.{All-head, All-tail, Contains-push, Contains-push_cases, Contains-append_left, Contains-get_or}
use Rattle.std.proofs.lemmas.List.{get_or_default, get_or-map, get_or-set_other, length-set, length-map, length_push, get_or_append_left, get_or_push}
use Rattle.std.proofs.lemmas.Bool.{cases_lt}
use Rattle.std.proofs.lemmas.List.FromFn.{get_or-range_with_len}
use Rattle.vol_layout.specs.Layouts.{IsTarget, IsMisplaced}
use Rattle.vol_layout.specs.Rings.{IsRing, turned, SameParts}
use Rattle.vol_layout.proofs.Lists.{Contains-cases, Contains-cons, Contains-nil}

-- a list turned by one, read at an index
pub turned_at : (ring : List ℕ) (i : ℕ) → suc i < length ring → get_or (turned ring) i 0 ≡ get_or ring (suc i) 0
turned_at [] i h = absurd (omega arith)
turned_at (x ∷ xs) i h = get_or_append_left xs (x ∷ []) 0 i (omega arith)

pub turned_last : (ring : List ℕ) (i : ℕ) → suc i ≡ length ring → get_or (turned ring) i 0 ≡ get_or ring 0 0
turned_last [] i h = absurd (omega arith)
turned_last (x ∷ xs) i h = get_or_push xs x 0 i (omega arith)

pub length_turned : (ring : List ℕ) → length (turned ring) ≡ length ring
length_turned [] = refl
length_turned (x ∷ xs) = omega (arith, length_push xs x)

-- the place of a part of a ring
pub ring_turns : (c ring : List ℕ) (i : ℕ) → IsRing c ring → i < length ring → get_or c (get_or ring i 0) 0 ≡ get_or (turned ring) i 0
ring_turns c ring i r h = sym (get_or-map (λ k. get_or c k 0) ring i 0 0 h) ∙ ap (λ xs. get_or xs i 0) r.turns

-- reading the places of parts other than the one that moves
map_kept : (c : List ℕ) (k place : ℕ) (ks : List ℕ) → All (λ x. x ≢ k) ks → map (λ x. get_or (set c k place) x 0) ks ≡ map (λ x. get_or c x 0) ks
map_kept c k place [] others = refl
map_kept c k place (x ∷ xs) others =
    let other : x ≢ k = All-head (λ y. y ≢ k) x xs others in
    let here = get_or-set_other c k x place 0 other in
    let rest = map_kept c k place xs (All-tail (λ y. y ≢ k) x xs others) in
    cc

-- a ring stays where another part moves
pub ring_kept : (c : List ℕ) (k place : ℕ) (ring : List ℕ) → IsRing c ring → (Contains ring k → ⊥) → IsRing (set c k place) ring
ring_kept c k place ring r out =
    record {
      long = r.long;
      distinct = r.distinct;
      parts = λ i d h. rw length-set (r.parts i d h);
      turns = map_kept c k place ring (λ i d h e. out (i, h, get_or_default ring i k d h ∙ e)) ∙ r.turns;
    }

-- the parts of a ring turned by one are the same
turned-contains : (ring : List ℕ) (k : ℕ) → Contains ring k → Contains (turned ring) k
turned-contains [] k h = h
turned-contains (x ∷ xs) k h =
    elim (Contains-cases x xs k h) [
      | inl e ↦ subst (λ y. Contains (xs ++ x ∷ []) y) e (Contains-push xs x)
      | inr rest ↦ Contains-append_left xs (x ∷ []) k rest
    ]

turned-contained : (ring : List ℕ) (k : ℕ) → Contains (turned ring) k → Contains ring k
turned-contained [] k h = h
turned-contained (x ∷ xs) k h =
    elim (Contains-push_cases xs x k h) [
      | inl rest ↦ Contains-cons x xs k rest
      | inr e ↦ (0, omega arith, e)
    ]

-- at the place of each part of a ring stands a part of it
pub ring_occupies : (c ring : List ℕ) (k : ℕ) → IsRing c ring → Contains ring k → Contains c k
ring_occupies c ring k r h =
    let (i, within, e) = subst (λ ks. Contains ks k) (sym r.turns) (turned-contains ring k h) in
    let lt : i < length ring = rw length-map at within in
    let mapped = get_or-map (λ x. get_or c x 0) ring i 0 k lt in
    let part = r.parts i 0 lt in
    (get_or ring i 0, part, get_or_default c (get_or ring i 0) k 0 part ∙ (sym mapped ∙ e))

-- in the target no part is misplaced
pub target_at : (c : List ℕ) (k : ℕ) → IsTarget c → k < length c → get_or c k 0 ≡ k
target_at c k t h = ap (λ xs. get_or xs k 0) t ∙ get_or-range_with_len 0 (length c) k 0 h ∙ zero-add k

pub target_not_misplaced : (c : List ℕ) (k : ℕ) → IsTarget c → IsMisplaced c k → ⊥
target_not_misplaced c k t m = m.1 (target_at c k t m.0)

-- in the target there is no ring
pub target_no_ring : (c ring : List ℕ) → IsTarget c → IsRing c ring → ⊥
target_no_ring c [] t r = omega (arith, r.long)
target_no_ring c (x ∷ []) t r = omega (arith, r.long)
target_no_ring c (x ∷ y ∷ ks) t r =
    let at_x = target_at c x t (r.parts 0 0 (omega arith)) in
    let next : get_or c x 0 ≡ y = ap (λ xs. get_or xs 0 0) r.turns in
    r.distinct 0 1 0 (omega arith) (omega arith) (sym at_x ∙ next)

-- in a chain each part stands at the place of the next, and the last at `end`
abbrev pub IsChain : List ℕ → List ℕ → ℕ → Type 0
IsChain c [] end = Unit {0}
IsChain c (x ∷ []) end = get_or c x 0 ≡ end
IsChain c (x ∷ y ∷ ks) end = (get_or c x 0 ≡ y) × IsChain c (y ∷ ks) end

chain_from_turns : (c : List ℕ) (x : ℕ) (ks : List ℕ) (end : ℕ) → map (λ k. get_or c k 0) (x ∷ ks) ≡ ks ++ end ∷ [] → IsChain c (x ∷ ks) end
chain_from_turns c x [] end e = ap (λ xs. get_or xs 0 0) e
chain_from_turns c x (y ∷ ks) end e =
    (ap (λ xs. get_or xs 0 0) e, chain_from_turns c y ks end (ap (λ xs. drop 1 xs) e))

-- what a place leads to, and no further, holds of each part of a chain behind one of which it holds, and of its end
module _ (c : List ℕ) (P : ℕ → Type 0) (leads : (k : ℕ) → P k → P (get_or c k 0)) where
  chain_all : (x : ℕ) (ks : List ℕ) (end : ℕ) → IsChain c (x ∷ ks) end → P x → (k : ℕ) → Contains (x ∷ ks) k → P k
  chain_all x [] end chain p k h =
      elim (Contains-cases x [] k h) [ inl e ↦ subst P e p | inr rest ↦ absurd (Contains-nil k rest) ]
  chain_all x (y ∷ ks) end chain p k h =
      elim (Contains-cases x (y ∷ ks) k h) [
        | inl e ↦ subst P e p
        | inr rest ↦ chain_all y ks end chain.1 (subst P chain.0 (leads x p)) k rest
      ]

  chain_end : (x : ℕ) (ks : List ℕ) (end : ℕ) → IsChain c (x ∷ ks) end → (k : ℕ) → Contains (x ∷ ks) k → P k → P end
  chain_end x [] end chain k h p =
      elim (Contains-cases x [] k h) [
        | inl e ↦ subst P chain (leads x (subst P (sym e) p))
        | inr rest ↦ absurd (Contains-nil k rest)
      ]
  chain_end x (y ∷ ks) end chain k h p =
      elim (Contains-cases x (y ∷ ks) k h) [
        | inl e ↦ chain_end y ks end chain.1 y (0, omega arith, refl) (subst P chain.0 (leads x (subst P (sym e) p)))
        | inr rest ↦ chain_end y ks end chain.1 k rest p
      ]

-- the part at whose place a part of a ring stands is a part of it
pub ring_leads : (c ring : List ℕ) → IsRing c ring → (k : ℕ) → Contains ring k → Contains ring (get_or c k 0)
ring_leads c ring r k (i, h, e) =
    let mapped = get_or-map (λ x. get_or c x 0) ring i 0 (get_or c k 0) h in
    let same : get_or ring i 0 ≡ k = get_or_default ring i 0 k h ∙ e in
    turned-contained ring (get_or c k 0) (subst (λ ks. Contains ks (get_or c k 0)) r.turns (i, rw length-map h, mapped ∙ ap (λ x. get_or c x 0) same))

-- a ring has each part of another ring with which it shares one
shared_parts : (c r s : List ℕ) (k : ℕ) → IsRing c r → IsRing c s → Contains r k → Contains s k → (j : ℕ) → Contains r j → Contains s j
shared_parts c [] s k ring other in_r in_s j h = absurd (Contains-nil j h)
shared_parts c (x ∷ ks) s k ring other in_r in_s j h =
    let chain = chain_from_turns c x ks x ring.turns in
    let leads = ring_leads c s other in
    chain_all c (Contains s) leads x ks x chain (chain_end c (Contains s) leads x ks x chain k in_r in_s) j h

-- two rings with a common part are the same
pub same_ring : (c r s : List ℕ) (k : ℕ) → IsRing c r → IsRing c s → Contains r k → Contains s k → SameParts r s
same_ring c r s k ring other in_r in_s j =
    (shared_parts c r s k ring other in_r in_s j, shared_parts c s r k other ring in_s in_r j)

-- a part of a ring is misplaced
pub ring_misplaced : (c ring : List ℕ) (k : ℕ) → IsRing c ring → Contains ring k → get_or c k 0 ≢ k
ring_misplaced c [] k r inside home = Contains-nil k inside
ring_misplaced c (x ∷ xs) k r (i, h, e) home =
    let same : get_or (x ∷ xs) i 0 ≡ k = get_or_default (x ∷ xs) i 0 k h ∙ e in
    let mapped = get_or-map (λ y. get_or c y 0) (x ∷ xs) i 0 0 h in
    let next : get_or (xs ++ x ∷ []) i 0 ≡ k =
    ap (λ l. get_or l i 0) (sym r.turns) ∙ (mapped ∙ (ap (λ y. get_or c y 0) same ∙ home)) in
    elim (cases_lt i (length xs)) [
      | inl lt ↦ r.distinct i (suc i) 0 (omega arith) (omega arith) (same ∙ (sym next ∙ get_or_append_left xs (x ∷ []) 0 i lt))
      | inr last ↦
          let long : 2 ≤ suc (length xs) = r.long in
          r.distinct 0 i 0 (omega arith) h (sym (get_or_push xs x 0 i (omega arith)) ∙ (next ∙ sym same))
    ]

-- a ring of two layouts has the same parts there, one after the other, as each ring of the same parts
pub ring_of_both : (c c' r s : List ℕ) → IsRing c r → IsRing c' r → IsRing c s → SameParts s r → IsRing c' s
ring_of_both c c' r s in_c in_c' other same =
    record {
      long = other.long;
      distinct = other.distinct;
      parts = λ i d h.
          let (j, lt, e) = (same (get_or s i d)).0 (Contains-get_or s i d h) in
          subst (λ x. x < length c') e (in_c'.parts j (get_or s i d) lt);
      turns =
          map_agree s
          (λ i d h.
          let x = get_or s i d in
          let (j, lt, e) = (same x).0 (Contains-get_or s i d h) in
          let at : get_or r j 0 ≡ x = get_or_default r j 0 x lt ∙ e in
          let one = get_or-map (λ y. get_or c y 0) r j 0 0 lt in
          let two = get_or-map (λ y. get_or c' y 0) r j 0 0 lt in
          let both : get_or (map (λ y. get_or c' y 0) r) j 0 ≡ get_or (map (λ y. get_or c y 0) r) j 0 =
          ap (λ l. get_or l j 0) (in_c'.turns ∙ sym in_c.turns) in
          ap (λ y. get_or c' y 0) (sym at) ∙ (sym two ∙ (both ∙ (one ∙ ap (λ y. get_or c y 0) at))))
          ∙ other.turns;
    }
  where
    map_agree : (ks : List ℕ) → All (λ x. get_or c' x 0 ≡ get_or c x 0) ks → map (λ x. get_or c' x 0) ks ≡ map (λ x. get_or c x 0) ks
    map_agree [] agree = refl
    map_agree (x ∷ xs) agree =
        let here = All-head (λ y. get_or c' y 0 ≡ get_or c y 0) x xs agree in
        let rest = map_agree xs (All-tail (λ y. get_or c' y 0 ≡ get_or c y 0) x xs agree) in
        cc
