-- The free slots of a directory: each is one of its slots, has no entry and is no header.
use Rattle.std.specs.Prelude.{◌≡◌, ◌≢◌, ◌<◌, ◌==◌, not, ◌&&◌, ℕ, zero, suc, Bool, true, false, List, [], ◌∷◌, Some, None, map, filter, slice_get, All, Contains}
use Rattle.std.specs.List.{range_with_len}
use Rattle.std.proofs.Common.{refl, sym, ap, subst, arith}
use Rattle.std.proofs.lemmas.Bool.Decides.{nat_tests}
use Rattle.std.proofs.lemmas.List.Elements.{All-nil, All-cons, All-head, All-tail, All-append, All-filter, filter_passes, Contains-append_left, Contains-append_right}
use Rattle.std.proofs.lemmas.List.FromFn.{length-range_with_len, get_or-range_with_len}
use Rattle.vol_layout.proofs.Lists.{Contains-cons}
use Rattle.a2_device.specs.Device.{unit_at}
use Rattle.pro_dir.specs.Entry.{entry_at, free_slots_of, free_slots_in, is_inactive, slot_bytes, storage_of}
use Rattle.pro_dir.specs.Tree.{IsRun}
use Rattle.pro_dir.specs.lemmas.TreeLaws.{one_run}
use Rattle.vol_format.proofs.Filters.{in_filter}
use Rattle.pro_format.specs.Slots.{IsFreeSlotOf, IsNoHeader}

-- an inactive slot of a directory is no header of it
inactive_no_header : (key place slot : ℕ) (unit : List ℕ) → is_inactive (entry_at key place unit slot) ≡ true → IsNoHeader place slot key
inactive_no_header key place slot unit inactive first same = by_tests (storage_of (slot_bytes unit slot) == 0) (place == key) (slot == 0) refl refl inactive
  where
    by_tests : (free a b : Bool) → (place == key) ≡ a → (slot == 0) ≡ b → (free && not (a && b)) ≡ true → ⊥
    by_tests true true true is is' passes = absurd (cc)
    by_tests false a b is is' passes = absurd (cc)
    by_tests true true false is is' passes = let differ : slot ≢ 0 = grind (arith, nat_tests, is') in absurd (differ first)
    by_tests true false b is is' passes = let differ : place ≢ key = grind (arith, nat_tests, is) in absurd (differ same)

inactive_unused : (key place slot : ℕ) (unit : List ℕ) → is_inactive (entry_at key place unit slot) ≡ true → storage_of (slot_bytes unit slot) ≡ 0
inactive_unused key place slot unit inactive = by_test (storage_of (slot_bytes unit slot) == 0) refl inactive
  where
    by_test : (free : Bool) → (storage_of (slot_bytes unit slot) == 0) ≡ free → (free && not (place == key && slot == 0)) ≡ true → storage_of (slot_bytes unit slot) ≡ 0
    by_test true is passes = grind (arith, nat_tests, is)
    by_test false is passes = absurd (cc)

All-map : {X Y : Type 0} (P : Y → Type 0) (f : X → Y) (xs : List X) → All (λ x. P (f x)) xs → All P (map f xs)
All-map P f [] all = All-nil P
All-map P f (x ∷ xs) all = All-cons P (f x) (map f xs) (All-head (λ x. P (f x)) x xs all) (All-map P f xs (All-tail (λ x. P (f x)) x xs all))

-- a slot of some blocks that has no entry
record IsUnused (store : List (List ℕ)) (key : ℕ) (places : List ℕ) (found : ℕ × ℕ) : Type 0 where
  has : Contains places found.0
  below : found.1 < 13
  inactive : is_inactive (entry_at key found.0 (unit_at store found.0) found.1) ≡ true

slots_unused : (store : List (List ℕ)) (key place : ℕ) (places : List ℕ) → Contains places place → All (IsUnused store key places) (free_slots_of key place (unit_at store place))
unfolding free_slots_of
slots_unused store key place places has =
    All-map (IsUnused store key places) (λ slot. (place, slot)) (filter test (range_with_len 0 13))
    (λ k d within. record {
      has = has;
      below = All-filter test (λ slot. slot < 13) (range_with_len 0 13)
          (λ i d' inside. omega (arith, inside, length-range_with_len 0 13, get_or-range_with_len 0 13 i d' (omega (arith, inside, length-range_with_len 0 13)))) k d within;
      inactive = filter_passes test (range_with_len 0 13) k d within;
    })
  where
    test : ℕ → Bool
    test slot = is_inactive (entry_at key place (unit_at store place) slot)

all_unused : (store : List (List ℕ)) (key : ℕ) (whole places : List ℕ) → ((place : ℕ) → Contains places place → Contains whole place) → All (IsUnused store key whole) (free_slots_in store key places)
all_unused store key whole [] among = All-nil (IsUnused store key whole)
all_unused store key whole (place ∷ rest) among =
    All-append (IsUnused store key whole) (free_slots_of key place (unit_at store place)) (free_slots_in store key rest)
    (slots_unused store key place whole (among place (0, omega arith, refl)))
    (all_unused store key whole rest (λ other has. among other (Contains-cons place rest other has)))

first_of : {X : Type 0} (P : X → Type 0) (xs : List X) (x : X) → All P xs → slice_get xs 0 ≡ Some x → P x
first_of P [] x all is = absurd (cc)
first_of P (y ∷ xs) x all is = subst P (same y x is) (All-head P y xs all)
  where
    same : {X : Type 0} (y x : X) → Some y ≡ Some x → y ≡ x
    same y x e = cc

-- the first free slot of a directory
pub first_free_slot : (store : List (List ℕ)) (key place slot : ℕ) (own : List ℕ) → IsRun store key own → slice_get (free_slots_in store key own) 0 ≡ Some (place, slot)
    → IsFreeSlotOf store key place slot
first_free_slot store key place slot own run is =
    let found = first_of (IsUnused store key own) (free_slots_in store key own) (place, slot) (all_unused store key own own (λ other has. has)) is in
    record {
      is = record {
        own = own;
        run = run;
        has = found.has;
        below = found.below;
        no_header = inactive_no_header key place slot (unit_at store place) found.inactive;
      };
      unused = inactive_unused key place slot (unit_at store place) found.inactive;
    }

-- and each free slot is among them
in_map : {X Y : Type 0} (f : X → Y) (xs : List X) (x : X) → Contains xs x → Contains (map f xs) (f x)
in_map f [] x has = absurd (omega (arith, has.1))
in_map f (y ∷ xs) x (zero, within, same) = (0, omega arith, ap f same)
in_map f (y ∷ xs) x (suc k, within, same) = let later = in_map f xs x (k, omega (arith, within), same) in (suc later.0, omega (arith, later.1), later.2)

slot_listed : (key place slot : ℕ) (unit : List ℕ) → slot < 13 → is_inactive (entry_at key place unit slot) ≡ true → Contains (free_slots_of key place unit) (place, slot)
unfolding free_slots_of
slot_listed key place slot unit low inactive =
    in_map (λ slot. (place, slot)) (filter (λ s. is_inactive (entry_at key place unit s)) (range_with_len 0 13)) slot
    (in_filter (λ s. is_inactive (entry_at key place unit s)) (range_with_len 0 13) slot
    (slot, omega (arith, low, length-range_with_len 0 13), omega (arith, get_or-range_with_len 0 13 slot slot low)) inactive)

block_listed : (store : List (List ℕ)) (key : ℕ) (places : List ℕ) (place slot : ℕ) → Contains places place → Contains (free_slots_of key place (unit_at store place)) (place, slot)
    → Contains (free_slots_in store key places) (place, slot)
block_listed store key [] place slot has listed = absurd (omega (arith, has.1))
block_listed store key (first ∷ rest) place slot (zero, within, same) listed =
    Contains-append_left (free_slots_of key first (unit_at store first)) (free_slots_in store key rest) (place, slot)
    (subst (λ p. Contains (free_slots_of key p (unit_at store p)) (place, slot)) (sym same) listed)
block_listed store key (first ∷ rest) place slot (suc k, within, same) listed =
    Contains-append_right (free_slots_of key first (unit_at store first)) (free_slots_in store key rest) (place, slot)
    (block_listed store key rest place slot (k, omega (arith, within), same) listed)

free_inactive : (store : List (List ℕ)) (key place slot : ℕ) → IsFreeSlotOf store key place slot → is_inactive (entry_at key place (unit_at store place) slot) ≡ true
free_inactive store key place slot free = by_tests (storage_of (slot_bytes (unit_at store place) slot) == 0) (place == key) (slot == 0) refl refl refl
  where
    by_tests : (none here zeroth : Bool) → (storage_of (slot_bytes (unit_at store place) slot) == 0) ≡ none → (place == key) ≡ here → (slot == 0) ≡ zeroth → (none && not (here && zeroth)) ≡ true
    by_tests false here zeroth is is' is'' = let used : storage_of (slot_bytes (unit_at store place) slot) ≢ 0 = grind (arith, nat_tests, is) in absurd (used free.unused)
    by_tests true true true is is' is'' =
        let at : place ≡ key = grind (arith, nat_tests, is') in
        let first : slot ≡ 0 = grind (arith, nat_tests, is'') in
        absurd (free.is.no_header first at)
    by_tests true true false is is' is'' = refl
    by_tests true false zeroth is is' is'' = refl

nothing_in : {X : Type 0} (xs : List X) (x : X) → slice_get xs 0 ≡ None → Contains xs x → ⊥
nothing_in [] x none has = omega (arith, has.1)
nothing_in (y ∷ xs) x none has = cc

-- a directory with no first free slot has none
pub no_free_slot : (store : List (List ℕ)) (key place slot : ℕ) (own : List ℕ) → IsRun store key own → slice_get (free_slots_in store key own) 0 ≡ None
    → IsFreeSlotOf store key place slot → ⊥
no_free_slot store key place slot own run none free =
    nothing_in (free_slots_in store key own) (place, slot) none
    (block_listed store key own place slot (subst (λ bs. Contains bs place) (one_run store key own free.is.own run free.is.run) free.is.has)
    (slot_listed key place slot (unit_at store place) free.is.below (free_inactive store key place slot free)))
