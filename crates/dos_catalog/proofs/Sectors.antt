-- One slot more, and one sector further.
use Rattle.std.proofs.Common.{◌≡◌, ◌≢◌, ℕ, suc, ◌+◌, ◌-◌, ◌<◌, Bool, true, false, List, [], ◌∷◌, ◌++◌, length, get_or, set, refl, sym, ◌∙◌, ap, subst, arith, inl, inr, ⊎_elim, cond, append_assoc, append-nil, count_by}
use Rattle.std.specs.Prelude.{◌==◌, ◌⊎◌, Option, Some, None, ◌≤◌, option_map, find, filter, map, not, slice_get}
use Rattle.std.specs.Option.{option_or}
use Rattle.std.specs.List.{range_with_len, Contains}
use Rattle.std.proofs.lemmas.List.FromFn.{filter_of_map_range_with_len_more}
use Rattle.std.proofs.lemmas.List.Sums.{sum_by-set}
use Rattle.std.proofs.lemmas.List.Elements.{Contains-append_left, Contains-append_right, Contains-append_cases}
use Rattle.std.proofs.lemmas.List.Quantifiers.{all_pairs_push}
use Rattle.std.proofs.lemmas.List.{get_or-set_same, get_or-set_other, get_or_default}
use Rattle.std.proofs.lemmas.Bool.Decides.{nat_tests}
use Rattle.std.proofs.lemmas.Grind.{flat_map-append}
use Rattle.a2_device.specs.Device.{unit_at}
use Rattle.dos_catalog.specs.declared.entry.Entry.{Entry}
use Rattle.dos_catalog.specs.Entry.{entry_at, is_in_use, entries_of, entries_in, free_slots_of, free_slots_in}
use Rattle.dos_catalog.specs.Catalog.{IsLink, HasNoLink, Leads, HasBadLink, linked}
use Rattle.dos_catalog.specs.lemmas.Chain.{leads_on}
use Rattle.dos_catalog.specs.Walk.{IsTable, IsWalking, is_met, first_free_of}

module _ (p : Entry → Bool) (f : ℕ → Entry) (old before : List Entry) (n : ℕ) (is : before ≡ old ++ filter p (map f (range_with_len 0 n))) where
  one_more : filter p (map f (range_with_len 0 (n + 1))) ≡ filter p (map f (range_with_len 0 n)) ++ cond (p (f n)) (f n ∷ []) []
  one_more = filter_of_map_range_with_len_more p f 0 n n (omega arith)

  with_rest : before ++ cond (p (f n)) (f n ∷ []) [] ≡ old ++ filter p (map f (range_with_len 0 (n + 1)))
  with_rest = ap (λ b. b ++ cond (p (f n)) (f n ∷ []) []) is ∙ append_assoc old (filter p (map f (range_with_len 0 n))) (cond (p (f n)) (f n ∷ []) []) ∙ ap (λ r. old ++ r) (sym one_more)

  pub taken : (entry : Entry) → entry ≡ f n → p entry ≡ true → before ++ entry ∷ [] ≡ old ++ filter p (map f (range_with_len 0 (n + 1)))
  taken entry named used =
      ap (λ e. before ++ e ∷ []) named
      ∙ subst (λ b. before ++ cond b (f n ∷ []) [] ≡ old ++ filter p (map f (range_with_len 0 (n + 1)))) (subst (λ e. p e ≡ true) named used) with_rest

  pub passed : (entry : Entry) → entry ≡ f n → p entry ≡ false → before ≡ old ++ filter p (map f (range_with_len 0 (n + 1)))
  passed entry named unused =
      sym (append-nil before)
      ∙ subst (λ b. before ++ cond b (f n ∷ []) [] ≡ old ++ filter p (map f (range_with_len 0 (n + 1)))) (subst (λ e. p e ≡ false) named unused) with_rest

only : (y z : ℕ) → Contains (y ∷ []) z → z ≡ y
only y z has =
    let first : has.0 ≡ 0 = omega (arith, has.1) in
    sym (subst (λ k. get_or (y ∷ []) k z ≡ z) first has.2)

-- one place fewer is not met
pub marked : (met : List Bool) (sector : ℕ) → sector < length met → is_met met sector ≡ false
    → count_by not (set met sector true) + 1 ≡ count_by not met
marked met sector within unmet =
    let moved = sum_by-set (λ b. cond (not b) 1 0) met sector true false within in
    let was : ◌≡◌ {A = ℕ} (cond (not (get_or met sector false)) 1 0) 1 = rw unmet refl in
    omega (arith, moved, was)

-- the table with one sector more
pub tabled : (met : List Bool) (sectors : List ℕ) (sector : ℕ) → sector < length met → is_met met sector ≡ false → IsTable met sectors
    → IsTable (set met sector true) (sectors ++ (272 + sector) ∷ [])
tabled met sectors sector within unmet table = record {
  has = λ s is. by_test s (s == sector) refl is;
  all = λ s has. ⊎_elim (λ old. still s (table.all s old)) (λ new. here s (omega (arith, only (272 + sector) (272 + s) new))) (Contains-append_cases sectors ((272 + sector) ∷ []) (272 + s) has);
  once = all_pairs_push (λ place later. place ≢ later) sectors (272 + sector) table.once (λ k d h same. not_yet (subst (Contains sectors) same (k, h, get_or_default sectors k _ d h)));
}
  where
    not_yet : Contains sectors (272 + sector) → ⊥
    not_yet has = let is = table.all sector has in grind (arith, is, unmet)

    here : (s : ℕ) → s ≡ sector → is_met (set met sector true) s ≡ true
    here s same = subst (λ t. is_met (set met sector true) t ≡ true) (sym same) (get_or-set_same met sector true false within)

    still : (s : ℕ) → is_met met s ≡ true → is_met (set met sector true) s ≡ true
    still s is = by_place (s == sector) refl
      where
        by_place : (same : Bool) → (s == sector) ≡ same → is_met (set met sector true) s ≡ true
        by_place true at = here s (grind (arith, nat_tests))
        by_place false at = let differ : s ≢ sector = grind (arith, nat_tests) in get_or-set_other met sector s true false differ ∙ is

    by_test : (s : ℕ) (same : Bool) → (s == sector) ≡ same → is_met (set met sector true) s ≡ true → Contains (sectors ++ (272 + sector) ∷ []) (272 + s)
    by_test s true at is =
        let same : s ≡ sector = grind (arith, nat_tests) in
        subst (λ t. Contains (sectors ++ (272 + sector) ∷ []) (272 + t)) (sym same) (Contains-append_right sectors ((272 + sector) ∷ []) (272 + sector) (0, omega arith, refl))
    by_test s false at is =
        let differ : s ≢ sector = grind (arith, nat_tests) in
        Contains-append_left sectors ((272 + sector) ∷ []) (272 + s) (table.has s (sym (get_or-set_other met sector s true false differ) ∙ is))

-- one sector more
pub walked : (store : List (List ℕ)) (sectors : List ℕ) (entries : List Entry) (holder : ℕ) (unit : List ℕ) (next : ℕ)
    → IsWalking store sectors entries holder unit → IsLink unit → next ≡ linked unit
    → IsWalking store (sectors ++ next ∷ []) (entries ++ entries_of next (unit_at store next)) next (unit_at store next)
walked store sectors entries holder unit next walking link named = record {
  leads = leads_on store 272 sectors holder next walking.leads (subst IsLink walking.here link) (named ∙ ap linked walking.here);
  here = refl;
  taken = ap (λ es. es ++ entries_of next (unit_at store next)) walking.taken
      ∙ ap (λ es. entries_in store sectors ++ es) (sym (append-nil (entries_of next (unit_at store next))))
      ∙ sym (flat_map-append (λ place. entries_of place (unit_at store place)) sectors (next ∷ []));
}

pub walked_on : (store : List (List ℕ)) (sectors grown : List ℕ) (entries taken : List Entry) (holder : ℕ) (unit here : List ℕ) (next : ℕ)
    → IsWalking store sectors entries holder unit → IsLink unit → next ≡ linked unit
    → grown ≡ sectors ++ next ∷ [] → taken ≡ entries ++ entries_of next here → here ≡ unit_at store next → IsWalking store grown taken next here
walked_on store sectors grown entries taken holder unit here next walking link named more_is taken_is here_is =
    let further = walked store sectors entries holder unit next walking link named in
    record {
      leads = subst (λ ps. Leads store 272 ps next) (sym more_is) further.leads;
      here = here_is;
      taken = taken_is ∙ ap (λ u. entries ++ entries_of next u) here_is ∙ further.taken ∙ ap (entries_in store) (sym more_is);
    }

-- the walk ends at a bad link
pub bad_link : (store : List (List ℕ)) (met : List Bool) (sectors : List ℕ) (entries : List Entry) (holder : ℕ) (unit : List ℕ)
    → IsTable met sectors → IsWalking store sectors entries holder unit → ¬ HasNoLink unit
    → (¬ IsLink unit) ⊎ (IsLink unit × (sector : ℕ) × (linked unit ≡ 272 + sector) × (is_met met sector ≡ true)) → HasBadLink store holder
bad_link store met sectors entries holder unit table walking on why = record {
  sectors = sectors;
  leads = walking.leads;
  linked_on = subst (λ u. ¬ HasNoLink u) walking.here on;
  bad = subst (λ u. (¬ IsLink u) ⊎ (IsLink u × Contains sectors (linked u))) walking.here
      (⊎_elim inl (λ twice. inr (twice.0, subst (Contains sectors) (sym twice.2) (table.has twice.1 twice.3))) why);
}

first-append : {X : Type 0} (xs ys : List X) → slice_get (xs ++ ys) 0 ≡ option_or (slice_get xs 0) (slice_get ys 0)
first-append [] ys = refl
first-append (x ∷ xs) ys = refl

first-filter : {X : Type 0} (f : ℕ → X) (p : ℕ → Bool) (xs : List ℕ) → option_map f (find p xs) ≡ slice_get (map f (filter p xs)) 0
first-filter f p [] = refl
first-filter f p (x ∷ xs) = by_test (p x) refl (first-filter f p xs)
  where
    by_test : (b : Bool) → p x ≡ b → option_map f (find p xs) ≡ slice_get (map f (filter p xs)) 0 → option_map f (find p (x ∷ xs)) ≡ slice_get (map f (filter p (x ∷ xs))) 0
    by_test true is rest = rw is refl
    by_test false is rest = rw is rest

-- a search by number: it ends here, goes on, or is at its end
module _ (p : ℕ → Bool) (k n : ℕ) (whole : Option ℕ) (is : whole ≡ find p (range_with_len k (n - k))) where
  next : k < n → whole ≡ cond (p k) (Some k) (find p (range_with_len (k + 1) (n - (k + 1))))
  next within = let more : n - k ≡ suc (n - (k + 1)) = omega (arith, within) in is ∙ ap (λ m. find p (range_with_len k m)) more

  pub find_here : k < n → p k ≡ true → whole ≡ Some k
  find_here within passes = next within ∙ ap (λ b. cond b (Some k) (find p (range_with_len (k + 1) (n - (k + 1))))) passes

  pub find_on : k < n → p k ≡ false → whole ≡ find p (range_with_len (k + 1) (n - (k + 1)))
  find_on within fails = next within ∙ ap (λ b. cond b (Some k) (find p (range_with_len (k + 1) (n - (k + 1))))) fails

  pub find_end : n ≤ k → whole ≡ None
  find_end end = let none : n - k ≡ 0 = omega (arith, end) in is ∙ ap (λ m. find p (range_with_len k m)) none

first_free_is : (place : ℕ) (unit : List ℕ) → first_free_of place unit ≡ slice_get (free_slots_of place unit) 0
unfolding first_free_of
first_free_is place unit = first-filter (λ slot. (place, slot)) (λ slot. not (is_in_use (entry_at place unit slot))) (range_with_len 0 7)

-- the first free slot, one sector further
pub free_on : (store : List (List ℕ)) (sectors grown : List ℕ) (next : ℕ) (here : List ℕ) (free first : Option (ℕ × ℕ)) → free ≡ slice_get (free_slots_in store sectors) 0
    → grown ≡ sectors ++ next ∷ [] → first ≡ option_or free (first_free_of next here) → here ≡ unit_at store next → first ≡ slice_get (free_slots_in store grown) 0
free_on store sectors grown next here free first is more_is first_is here_is =
    let slots : ℕ → List (ℕ × ℕ) = λ place. free_slots_of place (unit_at store place) in
    first_is
    ∙ ap (option_or free) (first_free_is next here)
    ∙ ap (λ o. option_or o (slice_get (free_slots_of next here) 0)) is
    ∙ ap (λ u. option_or (slice_get (free_slots_in store sectors) 0) (slice_get (free_slots_of next u) 0)) here_is
    ∙ sym (first-append (free_slots_in store sectors) (slots next))
    ∙ ap (λ s. slice_get (free_slots_in store sectors ++ s) 0) (sym (append-nil (slots next)))
    ∙ ap (λ s. slice_get s 0) (sym (flat_map-append slots sectors (next ∷ [])))
    ∙ ap (λ ps. slice_get (free_slots_in store ps) 0) (sym more_is)
