-- A table is cleared by the items that have marked it.
use Rattle.std.proofs.Common.{◌≡◌, ◌≢◌, ◌⊎◌, inl, inr, ⊎_elim, ℕ, ◌+◌, ◌<◌, ◌≤◌, Bool, true, false, List, [], length, get_or, set, length-set, replicate, refl, sym, ◌∙◌, ap, subst, arith}
use Rattle.std.specs.Prelude.{◌==◌, nat_lt}
use Rattle.std.proofs.lemmas.List.{ext_get_or, get_or-replicate, get_or_default, get_or_past, get_or-set_same, get_or-set_other}
use Rattle.std.proofs.lemmas.Bool.Decides.{nat_tests}
use Rattle.std.proofs.Math.ListN.{length-replicate}
use Rattle.a2_device.specs.declared.fault.Fault.{Fault}
use Rattle.a2_device.specs.declared.part.Part.{Part}
use Rattle.vol_check.specs.Known.{none_known, place_of}
use Rattle.vol_check.specs.Marks.{IsMarkedBy, HasOwnMarks}
use Rattle.vol_check.specs.Walk.{Lists, unseen}
use Rattle.vol_check.specs.declared.known.Known.{Known}
use Rattle.vol_check.specs.declared.walk.Pending.{Pending}

module _ {T X : Type 0} (nothing : T) (at : X → ℕ) (items : List X) where
  -- each entry is clear, or one of the items from a number on stands at its place
  abbrev pub IsMarkedFrom : ℕ → List T → Type 0
  IsMarkedFrom first table =
      (place : ℕ) → (get_or table place nothing ≡ nothing) ⊎ ((k : ℕ) × (first ≤ k) × (k < length items) × ((d : X) → at (get_or items k d) ≡ place))

  pub marked_at_first : (table : List T) → IsMarkedBy nothing at items table → IsMarkedFrom 0 table
  marked_at_first table marked place =
      ⊎_elim inl (λ by. inr (by.1.0, omega arith, by.1.1, λ d. ap at (get_or_default items by.1.0 d by.0 by.1.1 ∙ by.1.2) ∙ by.2)) (marked place)

  set_clears : (table : List T) (place : ℕ) → get_or (set table place nothing) place nothing ≡ nothing
  set_clears table place = by_test (nat_lt place (length table)) refl
    where
      by_test : (within : Bool) → nat_lt place (length table) ≡ within → get_or (set table place nothing) place nothing ≡ nothing
      by_test true is = get_or-set_same table place nothing nothing (grind (arith, nat_tests))
      by_test false is =
          let past : length table ≤ place = grind (arith, nat_tests) in
          get_or_past (set table place nothing) place nothing (omega (arith, past, length-set {A = T} table place nothing))

  pub one_cleared : (first : ℕ) (table new : List T) (item d : X) → item ≡ get_or items first d → new ≡ set table (at item) nothing
      → IsMarkedFrom first table → IsMarkedFrom (first + 1) new
  one_cleared first table new item d is new_is marked = subst (IsMarkedFrom (first + 1)) (sym new_is) (λ place. by_test place (place == at item) refl)
    where
      Marked : ℕ → ℕ → Type 0
      Marked place from = (k : ℕ) × (from ≤ k) × (k < length items) × ((d : X) → at (get_or items k d) ≡ place)

      later : (place : ℕ) → place ≢ at item → Marked place first → Marked place (first + 1)
      later place differ by = by_number (first == by.0) refl
        where
          by_number : (same : Bool) → (first == by.0) ≡ same → Marked place (first + 1)
          by_number true same_is =
              let same : first ≡ by.0 = grind (arith, nat_tests) in
              absurd (differ (sym (by.3 d) ∙ ap (λ k. at (get_or items k d)) (sym same) ∙ ap at (sym is)))
          by_number false other_is =
              let other : first ≢ by.0 = grind (arith, nat_tests) in
              (by.0, omega (arith, by.1, other), by.2, by.3)

      by_test : (place : ℕ) (here : Bool) → (place == at item) ≡ here → (get_or (set table (at item) nothing) place nothing ≡ nothing) ⊎ Marked place (first + 1)
      by_test place true here_is =
          let here : at item ≡ place = grind (arith, nat_tests) in
          inl (subst (λ p. get_or (set table (at item) nothing) p nothing ≡ nothing) here (set_clears table (at item)))
      by_test place false there_is =
          let differ : place ≢ at item = grind (arith, nat_tests) in
          ⊎_elim (λ none. inl (get_or-set_other table (at item) place nothing nothing differ ∙ none)) (λ by. inr (later place differ by)) (marked place)

  pub all_cleared : (table : List T) (first : ℕ) → length items ≤ first → IsMarkedFrom first table → (places : ℕ) → length table ≡ places → table ≡ replicate places nothing
  all_cleared table first last marked places size =
      ext_get_or nothing table (replicate places nothing) (size ∙ sym (length-replicate places nothing))
      (λ place within. ⊎_elim (λ none. none) (λ by. absurd (omega (arith, last, by.1, by.2))) (marked place)
      ∙ sym (get_or-replicate places place nothing nothing (omega (arith, within, size))))

  -- the same of the lists as they are lent
  pub lent_cleared : (table lent new : List T) (lent_items : List X) → lent ≡ table → lent_items ≡ items
      → (IsMarkedBy nothing at lent_items lent → new ≡ replicate (length lent) nothing) → IsMarkedBy nothing at items table → new ≡ replicate (length table) nothing
  lent_cleared table lent new lent_items table_is items_is cleared marked =
      cleared (subst (λ xs. IsMarkedBy nothing at xs lent) (sym items_is) (subst (IsMarkedBy nothing at items) (sym table_is) marked))
      ∙ ap (λ xs. replicate (length xs) nothing) table_is

-- a walk whose lists are empty and whose tables are cleared has seen nothing
pub walk_cleared : (places : ℕ) (old new : Lists) → HasOwnMarks places old
    → (IsMarkedBy false (λ (part : Part). part.place) old.parts old.visited → new.visited ≡ replicate (length old.visited) false)
    → (IsMarkedBy none_known place_of old.faults old.known → new.known ≡ replicate (length old.known) none_known)
    → new.parts ≡ [] → new.pending ≡ [] → new.faults ≡ [] → new ≡ unseen places
walk_cleared places old new marks visited known no_parts no_pending no_faults =
    let visited_is : new.visited ≡ replicate places false = visited marks.met ∙ ap (λ n. replicate n false) marks.visited_size in
    let known_is : new.known ≡ replicate places none_known = known marks.noted ∙ ap (λ n. replicate n none_known) marks.known_size in
    ap (λ (ps : List Part). record new { parts = ps }) no_parts
    ∙ ap (λ (qs : List Pending). record new { parts = []; pending = qs }) no_pending
    ∙ ap (λ (fs : List Fault). record new { parts = []; pending = []; faults = fs }) no_faults
    ∙ ap (λ (vs : List Bool). record new { parts = []; pending = []; faults = []; visited = vs }) visited_is
    ∙ ap (λ (ks : List Known). record { parts = []; pending = []; faults = []; visited = replicate places false; known = ks }) known_is
