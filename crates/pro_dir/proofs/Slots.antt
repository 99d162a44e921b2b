-- One slot more.
use Rattle.std.proofs.Common.{◌≡◌, ℕ, suc, ◌+◌, ◌-◌, ◌<◌, ◌≤◌, Bool, true, false, List, [], ◌∷◌, ◌++◌, refl, sym, ◌∙◌, ap, arith, cond}
use Rattle.std.specs.Prelude.{Option, Some, None, option_map, find, filter, map, slice_get}
use Rattle.std.specs.Option.{option_or}
use Rattle.std.specs.List.{range_with_len}
use Rattle.pro_dir.specs.declared.entry.Entry.{Entry}
use Rattle.pro_dir.specs.Entry.{entry_at, is_listed, is_inactive, entries_of, free_slots_of}
use Rattle.pro_dir.specs.Walk.{entries_from, first_free_of}

module _ (directory place : ℕ) (unit : List ℕ) (slot : ℕ) (within : slot < 13) where
  from_slot : entries_from directory place unit slot
      ≡ cond (is_listed (entry_at directory place unit slot)) (entry_at directory place unit slot ∷ entries_from directory place unit (slot + 1)) (entries_from directory place unit (slot + 1))
  unfolding entries_from
  from_slot =
      let more : 13 - slot ≡ suc (13 - (slot + 1)) = omega (arith, within) in
      ap (λ n. filter is_listed (map (entry_at directory place unit) (range_with_len slot n))) more

  -- the slot has an entry, or none
  pub from_listed : (entry : Entry) → entry ≡ entry_at directory place unit slot → is_listed entry ≡ true → entries_from directory place unit slot ≡ entry ∷ entries_from directory place unit (slot + 1)
  from_listed entry is used =
      from_slot ∙ ap (λ b. cond b (entry_at directory place unit slot ∷ entries_from directory place unit (slot + 1)) (entries_from directory place unit (slot + 1))) (ap is_listed (sym is) ∙ used)
      ∙ ap (λ e. e ∷ entries_from directory place unit (slot + 1)) (sym is)

  pub from_passed : (entry : Entry) → entry ≡ entry_at directory place unit slot → is_listed entry ≡ false → entries_from directory place unit slot ≡ entries_from directory place unit (slot + 1)
  from_passed entry is unused =
      from_slot ∙ ap (λ b. cond b (entry_at directory place unit slot ∷ entries_from directory place unit (slot + 1)) (entries_from directory place unit (slot + 1))) (ap is_listed (sym is) ∙ unused)

-- behind the last slot there is none, and from the first on there are all
pub from_end : (directory place : ℕ) (unit : List ℕ) → entries_from directory place unit 13 ≡ []
unfolding entries_from
from_end directory place unit = refl

pub from_first : (directory place : ℕ) (unit : List ℕ) → entries_from directory place unit 0 ≡ entries_of directory place unit
unfolding entries_from entries_of
from_first directory place unit = refl

-- a search by number: it ends here, goes on, or is at its end
module _ (p : ℕ → Bool) (k n : ℕ) (whole : Option ℕ) (is : whole ≡ find p (range_with_len k (n - k))) where
  next : k < n → whole ≡ cond (p k) (Some k) (find p (range_with_len (k + 1) (n - (k + 1))))
  next within = let more : n - k ≡ suc (n - (k + 1)) = omega (arith, within) in is ∙ ap (λ m. find p (range_with_len k m)) more

  pub find_here : k < n → p k ≡ true → whole ≡ Some k
  find_here within passes = next within ∙ ap (λ b. cond b (Some k) (find p (range_with_len (k + 1) (n - (k + 1))))) passes

  pub find_on : k < n → p k ≡ false → whole ≡ find p (range_with_len (k + 1) (n - (k + 1)))
  find_on within fails = next within ∙ ap (λ b. cond b (Some k) (find p (range_with_len (k + 1) (n - (k + 1))))) fails

  pub find_end : n ≤ k → whole ≡ None
  find_end end = let none : n - k ≡ 0 = omega (arith, end) in is ∙ ap (λ m. find p (range_with_len k m)) none

first-filter : {X : Type 0} (f : ℕ → X) (p : ℕ → Bool) (xs : List ℕ) → option_map f (find p xs) ≡ slice_get (map f (filter p xs)) 0
first-filter f p [] = refl
first-filter f p (x ∷ xs) = by_test (p x) refl (first-filter f p xs)
  where
    by_test : (b : Bool) → p x ≡ b → option_map f (find p xs) ≡ slice_get (map f (filter p xs)) 0 → option_map f (find p (x ∷ xs)) ≡ slice_get (map f (filter p (x ∷ xs))) 0
    by_test true is rest = rw is refl
    by_test false is rest = rw is rest

-- the first slot of a block that has no entry
pub first_free_of-is : (directory place : ℕ) (unit : List ℕ) → first_free_of directory place unit ≡ slice_get (free_slots_of directory place unit) 0
unfolding first_free_of free_slots_of
first_free_of-is directory place unit = first-filter (λ slot. (place, slot)) (λ slot. is_inactive (entry_at directory place unit slot)) (range_with_len 0 13)

pub first-append : {X : Type 0} (xs ys : List X) → slice_get (xs ++ ys) 0 ≡ option_or (slice_get xs 0) (slice_get ys 0)
first-append [] ys = refl
first-append (x ∷ xs) ys = refl
