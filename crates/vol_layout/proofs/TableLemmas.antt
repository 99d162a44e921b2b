-- The table of parts by place, as a move changes it.
use Rattle.std.proofs.Common.{◌≡◌, ◌≢◌, ℕ, ◌<◌, ◌≤◌, ◌↔◌, List, [], ◌∷◌, ◌++◌, length, get_or, set, take, replicate, ◌+◌, Option, Some, None, arith, refl, sym, ap, subst, ◌∙◌, inl, inr, true}
use Rattle.std.specs.List.{slice_get, All, Contains}
use Rattle.std.proofs.lemmas.List.Elements.{All-take}
use Rattle.std.proofs.lemmas.Option.{same_Some, none-some, slice_get-get_or, slice_get_within, get_or_from_slice_get}
use Rattle.std.proofs.lemmas.List.{get_or_default, get_or-set_same, get_or-set_other, length-set, length-append, get_or_push, get_or_append_left, length-take-le, take_more, get_or-take, length-replicate, get_or-replicate, get_or_past}
use Rattle.std.proofs.lemmas.Bool.{cases_eq, cases_lt, false≢true}
use Rattle.std.specs.Option.{is_some}
use Rattle.vol_layout.specs.declared.layout.Layout.TheInside.{Inside}
use Rattle.vol_layout.specs.Layouts.{AreDistinct}
use Rattle.vol_layout.specs.Inside.{IsKept}
use Rattle.vol_layout.specs.Table.{HasParts, HasOnlyParts, IsTableOf}
use Rattle.vol_layout.proofs.Lists.{length_distinct}

-- the table has a part at a place exactly where the part stands there
pub holder_is : {A : Type 0} (l : Inside A) → IsKept l → (place k : ℕ) → (get_or l.part_at.items place None ≡ Some k) ↔ (slice_get l.at.items k ≡ Some place)
holder_is l kept place k = (
  (λ e. let (within, at) = kept.table.only place k e in slice_get-get_or l.at.items k 0 within ∙ ap Some at),
  (λ e.
      let within = slice_get_within l.at.items k place e in
      let at = get_or_from_slice_get l.at.items k place 0 e in
      ap (λ q. get_or l.part_at.items q None) (sym at) ∙ kept.table.has k within),
)

-- whether the table has a part at a place
pub taken_is :
    (o : Option ℕ) (at : List ℕ) (place : ℕ) → ((k : ℕ) → (o ≡ Some k) ↔ (slice_get at k ≡ Some place))
    → (is_some o ≡ true) ↔ Contains at place
taken_is None at place holder = (
  (λ e. absurd (false≢true e)),
  (λ (k, within, e).
      absurd (none-some k ((holder k).1 (slice_get-get_or at k place within ∙ ap Some e)))),
)
taken_is (Some k) at place holder = (
  (λ _.
      let stands = (holder k).0 refl in
      (k, slice_get_within at k place stands, get_or_from_slice_get at k place place stands)),
  (λ _. refl),
)

-- two parts at one place would be one
pub distinct_from_table : (at : List ℕ) (table : List (Option ℕ)) → HasParts at table → AreDistinct at
distinct_from_table at table has i j d before within e =
    let at_i = get_or_default at i d 0 (omega arith) in
    let at_j = get_or_default at j d 0 within in
    let same : get_or at i 0 ≡ get_or at j 0 = sym at_i ∙ (e ∙ at_j) in
    let one = same_Some i j (sym (has i (omega arith)) ∙ (ap (λ q. get_or table q None) same ∙ has j within)) in
    omega arith

module _ (at : List ℕ) (table : List (Option ℕ)) (k place left : ℕ) (has : HasParts at table) (only : HasOnlyParts at table)
    (part : k < length at) (left_is : left ≡ get_or at k 0) (within : left < length table) (room : place < length table)
    (free : Contains at place → ⊥) where
  -- after a move each part is at its place in the table
  pub HasParts-moved : HasParts (set at k place) (set (set table left None) place (Some k))
  HasParts-moved j h =
      let lt : j < length at = rw length-set at h in
      elim (cases_eq j k) [
        | inl e ↦
            let here : get_or (set at k place) j 0 ≡ place = ap (λ i. get_or (set at k place) i 0) e ∙ get_or-set_same at k place 0 part in
            let long : place < length (set table left None) = rw length-set room in
            let there = get_or-set_same (set table left None) place (Some k) None long in
            ap (λ q. get_or (set (set table left None) place (Some k)) q None) here ∙ (there ∙ ap Some (sym e))
        | inr other ↦
            let here = get_or-set_other at k j place 0 other in
            let not_place : get_or at j 0 ≢ place = λ e. free (j, lt, get_or_default at j place 0 lt ∙ e) in
            let not_left : get_or at j 0 ≢ left =
            λ e. other (same_Some j k (sym (has j lt) ∙ (ap (λ q. get_or table q None) (e ∙ left_is) ∙ has k part))) in
            let one = get_or-set_other (set table left None) place (get_or at j 0) (Some k) None not_place in
            let two = get_or-set_other table left (get_or at j 0) None None not_left in
            ap (λ q. get_or (set (set table left None) place (Some k)) q None) here ∙ (one ∙ (two ∙ has j lt))
      ]

  -- and the table has nothing else
  pub HasOnlyParts-moved : HasOnlyParts (set at k place) (set (set table left None) place (Some k))
  HasOnlyParts-moved q j e =
      elim (cases_eq q place) [
        | inl at_place ↦
            let long : place < length (set table left None) = rw length-set room in
            let there = get_or-set_same (set table left None) place (Some k) None long in
            let same : k ≡ j = same_Some k j (sym there ∙ (ap (λ p. get_or (set (set table left None) place (Some k)) p None) (sym at_place) ∙ e)) in
            let here = get_or-set_same at k place 0 part in
            (rw length-set (subst (λ i. i < length at) same part), ap (λ i. get_or (set at k place) i 0) (sym same) ∙ (here ∙ sym at_place))
        | inr off ↦
            let one = sym (get_or-set_other (set table left None) place q (Some k) None off) ∙ e in
            elim (cases_eq q left) [
              | inl at_left ↦
                  let nothing = get_or-set_same table left None None within in
                  absurd (none-some j (sym nothing ∙ (ap (λ p. get_or (set table left None) p None) (sym at_left) ∙ one)))
              | inr away ↦
                  let (lt, stands) = only q j (sym (get_or-set_other table left q None None away) ∙ one) in
                  let other : j ≢ k = λ e'. away (sym stands ∙ (ap (λ i. get_or at i 0) e' ∙ sym left_is)) in
                  (rw length-set lt, get_or-set_other at k j place 0 other ∙ stands)
            ]
      ]

-- one more part, at a place where none stands
pub HasParts-push :
    (at : List ℕ) (table : List (Option ℕ)) (place : ℕ) → place < length table → (Contains at place → ⊥) → HasParts at table
    → HasParts (at ++ place ∷ []) (set table place (Some (length at)))
HasParts-push at table place room free has k h =
    elim (cases_eq k (length at)) [
      | inl e ↦
          let here : get_or (at ++ place ∷ []) k 0 ≡ place = get_or_push at place 0 k (sym e) in
          rw here (rw e (get_or-set_same table place (Some (length at)) None room))
      | inr before ↦
          let lt : k < length at = omega (arith, simp length-append at h) in
          let here = get_or_append_left at (place ∷ []) 0 k lt in
          let off : get_or at k 0 ≢ place = λ e. free (k, lt, get_or_default at k place 0 lt ∙ e) in
          rw here (get_or-set_other table place (get_or at k 0) (Some (length at)) None off ∙ has k lt)
    ]

pub HasOnlyParts-push :
    (at : List ℕ) (table : List (Option ℕ)) (place : ℕ) → place < length table → HasOnlyParts at table
    → HasOnlyParts (at ++ place ∷ []) (set table place (Some (length at)))
HasOnlyParts-push at table place room only q k e =
    elim (cases_eq q place) [
      | inl at_place ↦
          let there = get_or-set_same table place (Some (length at)) None room in
          let same = same_Some (length at) k (sym there ∙ (ap (λ p. get_or (set table place (Some (length at))) p None) (sym at_place) ∙ e)) in
          (rw length-append (omega arith), get_or_push at place 0 k same ∙ sym at_place)
      | inr off ↦
          let (lt, stands) = only q k (sym (get_or-set_other table place q (Some (length at)) None off) ∙ e) in
          (rw length-append (omega arith), get_or_append_left at (place ∷ []) 0 k lt ∙ stands)
    ]

-- a table without parts
pub IsTableOf-none : (places : ℕ) (table : List (Option ℕ)) → table ≡ replicate places None → IsTableOf [] places table
IsTableOf-none places table e =
    record {
      size = rw e (length-replicate places None);
      has = λ k h. absurd (omega arith);
      only = λ place k some.
          let nothing : get_or (replicate places None) place None ≡ None =
          elim (cases_lt place places) [
            | inl lt ↦ get_or-replicate places place None None lt
            | inr past ↦ get_or_past (replicate places None) place None (rw length-replicate past)
          ] in
          absurd (none-some k (sym nothing ∙ (ap (λ t. get_or t place None) (sym e) ∙ some)));
    }

-- a step of the loop that fills the table
module _ (at : List ℕ) (places : ℕ) (table : List (Option ℕ)) (i : ℕ) (made : IsTableOf (take i at) places table) where
  -- no part before stands where the table has none
  pub free_in_table : (place : ℕ) → get_or table place None ≡ None → Contains (take i at) place → ⊥
  free_in_table place none (k, lt, e) =
      let at_k : get_or (take i at) k 0 ≡ place = get_or_default (take i at) k 0 place lt ∙ e in
      none-some k (sym none ∙ (ap (λ q. get_or table q None) (sym at_k) ∙ made.has k lt))

  pub IsTableOf-more : i < length at → get_or at i 0 < places → get_or table (get_or at i 0) None ≡ None → IsTableOf (take (i + 1) at) places (set table (get_or at i 0) (Some i))
  IsTableOf-more within below none =
      let place = get_or at i 0 in
      let room : place < length table = rw made.size below in
      let long : length (take i at) ≡ i = length-take-le i at (omega arith) in
      record {
        size = rw length-set made.size;
        has = rw (take_more at i 0 within) (rw long at (HasParts-push (take i at) table place room (free_in_table place none) made.has));
        only = rw (take_more at i 0 within) (rw long at (HasOnlyParts-push (take i at) table place room made.only));
      }

  -- a part that the table has at the place of the next one stands there too
  pub repeat_in_table : (found : Option ℕ) → i < length at → found ≡ get_or table (get_or at i 0) None → is_some found ≡ true → AreDistinct at → ⊥
  repeat_in_table None within there some distinct = false≢true some
  repeat_in_table (Some k) within there some distinct =
      let (lt, e) = made.only (get_or at i 0) k (sym there) in
      let long : length (take i at) ≡ i = length-take-le i at (omega arith) in
      let before : k < i = omega arith in
      distinct k i 0 before within (sym (get_or-take i at k 0 before) ∙ e)

  -- as many parts as there are places at most
  pub length_in_table : i < length at → All (λ place. place < places) at → i ≤ places
  length_in_table within below =
      let long : length (take i at) ≡ i = length-take-le i at (omega arith) in
      let few = length_distinct places (take i at) (distinct_from_table (take i at) table made.has) (All-take (λ place. place < places) i at below) in
      omega arith
