-- Paths of parts that stand each at the place of the next: followed far enough, one closes to a ring.
use Rattle.std.proofs.Common.{◌≡◌, ◌≢◌, ℕ, suc, zero, ◌<◌, ◌≤◌, List, [], ◌∷◌, ◌++◌, map, length, get_or, arith, refl, sym, ap, subst, ◌∙◌, inl, inr}
use Rattle.std.specs.List.{All, Contains}
use Rattle.std.proofs.lemmas.List.{get_or_default, get_or-map, map_push, get_or_push, get_or_append_left}
use Rattle.std.proofs.lemmas.List.Elements.{All-push}
use Rattle.std.proofs.lemmas.List.Quantifiers.{all_pairs_push}
use Rattle.std.proofs.lemmas.Bool.{cases_eq}
use Rattle.vol_layout.specs.Layouts.{AreDistinct}
use Rattle.vol_layout.specs.Rings.{IsRing, turned}
use Rattle.vol_layout.proofs.Lists.{length_distinct, one_place}
use Rattle.vol_layout.proofs.RingLemmas.{ring_leads}

-- these parts stand each at the place of the next, and the last at that of `next`; each ring that has the first has `next`
pub record IsPath (c : List ℕ) (first : ℕ) (parts : List ℕ) (next : ℕ) : Type 0 where
  pub rest : List ℕ
  pub is : parts ≡ first ∷ rest
  pub turns : map (λ k. get_or c k 0) parts ≡ rest ++ next ∷ []
  pub distinct : AreDistinct parts
  pub below : All (λ k. k < length c) parts
  pub room : next < length c
  pub reached : (ring : List ℕ) → IsRing c ring → Contains ring first → Contains ring next

-- a path of one part
pub IsPath-none : (c : List ℕ) (first : ℕ) → first < length c → get_or c first 0 < length c → IsPath c first (first ∷ []) (get_or c first 0)
IsPath-none c first target room =
    record {
      rest = [];
      is = refl;
      turns = refl;
      distinct = λ i j d before h. absurd (omega arith);
      below = λ i d h.
          elim (cases_eq i 0) [
            | inl at ↦ subst (λ j. get_or (first ∷ []) j d < length c) (sym at) target
            | inr ne ↦ absurd (omega arith)
          ];
      room = room;
      reached = λ ring r inside. ring_leads c ring r first inside;
    }

-- a path that goes on
module _ (c : List ℕ) (first : ℕ) (parts : List ℕ) (next : ℕ) (f : IsPath c first parts next) where
  long : length parts ≡ suc (length f.rest)
  long = ap length f.is

  turns_to : (i : ℕ) → i < length parts → get_or c (get_or parts i 0) 0 ≡ get_or (f.rest ++ next ∷ []) i 0
  turns_to i h = sym (get_or-map (λ k. get_or c k 0) parts i 0 0 h) ∙ ap (λ xs. get_or xs i 0) f.turns

  next_is_new : AreDistinct c → next ≢ first → (i : ℕ) (d : ℕ) → i < length parts → get_or parts i d ≢ next
  next_is_new distinct onward zero d h e = onward (sym e ∙ ap (λ xs. get_or xs 0 d) f.is)
  next_is_new distinct onward (suc i) d h e =
      let within : i < length f.rest = omega (arith, long) in
      let before : i < length parts = omega arith in
      let last : length f.rest < length parts = omega (arith, long) in
      let here : get_or parts (suc i) d ≡ get_or f.rest i d = ap (λ xs. get_or xs (suc i) d) f.is in
      let one = turns_to i before ∙ get_or_append_left f.rest (next ∷ []) 0 i within in
      let two = turns_to (length f.rest) last ∙ get_or_push f.rest next 0 (length f.rest) refl in
      let same : get_or c (get_or parts i 0) 0 ≡ get_or c (get_or parts (length f.rest) 0) 0 =
      one ∙ (get_or_default f.rest i 0 d within ∙ (sym here ∙ (e ∙ sym two))) in
      let part = one_place c (get_or parts i 0) (get_or parts (length f.rest) 0) distinct (f.below i 0 before) (f.below (length f.rest) 0 last) same in
      f.distinct i (length f.rest) 0 within last part

  pub IsPath-more : AreDistinct c → next ≢ first → get_or c next 0 < length c → IsPath c first (parts ++ next ∷ []) (get_or c next 0)
  IsPath-more distinct onward room =
      record {
        rest = f.rest ++ next ∷ [];
        is = ap (λ xs. xs ++ next ∷ []) f.is;
        turns = map_push (λ k. get_or c k 0) parts next ∙ ap (λ xs. xs ++ get_or c next 0 ∷ []) f.turns;
        distinct = all_pairs_push (λ x y. x ≢ y) parts next f.distinct (next_is_new distinct onward);
        below = All-push (λ k. k < length c) parts next f.below f.room;
        room = room;
        reached = λ ring r inside. ring_leads c ring r next (f.reached ring r inside);
      }

  pub length_path : length parts ≤ length c
  length_path = length_distinct (length c) parts f.distinct f.below

  -- a path that is back at its first part is a ring
  pub IsRing-path : next ≡ first → get_or c first 0 ≢ first → IsRing c parts
  IsRing-path back away =
      record {
        long =
            elim (cases_eq (length f.rest) 0) [
              | inl none ↦
                  let at = turns_to 0 (omega (arith, long)) ∙ get_or_push f.rest next 0 0 none in
                  let start : get_or parts 0 0 ≡ first = ap (λ xs. get_or xs 0 0) f.is in
                  absurd (away (ap (λ k. get_or c k 0) (sym start) ∙ (at ∙ back)))
              | inr some ↦ omega (arith, long)
            ];
        distinct = f.distinct;
        parts = f.below;
        turns = f.turns ∙ (ap (λ x. f.rest ++ x ∷ []) back ∙ ap turned (sym f.is));
      }

  pub has_first : Contains parts first
  has_first = (0, omega (arith, long), ap (λ xs. get_or xs 0 first) f.is)

  pub first_of_path : get_or parts 0 0 ≡ first
  first_of_path = ap (λ xs. get_or xs 0 0) f.is
