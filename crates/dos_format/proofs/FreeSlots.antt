-- The free slots of the catalog, as they are listed.
use Rattle.std.specs.Prelude.{◌≡◌, ◌<◌, ℕ, not, false, true, Bool, List, [], ◌∷◌, filter, Some, None, slice_get, All, Contains}
use Rattle.std.specs.List.{range_with_len}
use Rattle.std.proofs.Common.{refl, sym, ◌∙◌, ap, subst, arith, get_or, ⊎_elim}
use Rattle.std.proofs.lemmas.Bool.{not-true}
use Rattle.std.proofs.lemmas.List.{length-map, get_or-map}
use Rattle.std.proofs.lemmas.List.Elements.{All-append, All-map, Contains-get_or, Contains-append_left, Contains-append_right}
use Rattle.std.proofs.lemmas.List.FromFn.{length-range_with_len, get_or-range_with_len}
use Rattle.vol_layout.proofs.Lists.{Contains-cons, Contains-cases}
use Rattle.vol_format.proofs.Filters.{in_filter, out_of_filter}
use Rattle.a2_device.specs.Device.{unit_at}
use Rattle.dos_catalog.specs.Entry.{entry_at, is_in_use, free_slots_of, free_slots_in}
use Rattle.dos_format.specs.Slots.{IsFreeSlot}

-- a slot of a sector, as it is listed
abbrev listed : ℕ → ℕ → ℕ × ℕ
listed place slot = (place, slot)

-- no entry is in use in a slot
abbrev is_free : List (List ℕ) → ℕ → ℕ → Bool
is_free store place slot = not (is_in_use (entry_at place (unit_at store place) slot))

not_in_use : (b : Bool) → b ≡ false → not b ≡ true
not_in_use b unused = ap not unused

-- what holds of each free slot of these sectors
each_free : (P : ℕ × ℕ → Type 0) (store : List (List ℕ)) (sectors : List ℕ) → ((place slot : ℕ) → IsFreeSlot store sectors place slot → P (place, slot)) → All P (free_slots_in store sectors)
each_free P store [] each = λ k d within. absurd (omega (arith, within))
each_free P store (place ∷ rest) each =
    All-append P (free_slots_of place (unit_at store place)) (free_slots_in store rest)
    (All-map P (listed place) (filter (is_free store place) (range_with_len 0 7)) (λ k d within. of_slot (get_or (filter (is_free store place) (range_with_len 0 7)) k d)
    (out_of_filter (is_free store place) (range_with_len 0 7) (get_or (filter (is_free store place) (range_with_len 0 7)) k d)
    (Contains-get_or (filter (is_free store place) (range_with_len 0 7)) k d within))))
    (each_free P store rest (λ other slot free. each other slot (record {
      of_catalog = Contains-cons place rest other free.of_catalog;
      below = free.below;
      unused = free.unused;
    })))
  where
    of_slot : (slot : ℕ) → Contains (range_with_len 0 7) slot × (is_free store place slot ≡ true) → P (place, slot)
    of_slot slot found =
        let low : found.0.0 < 7 = omega (arith, found.0.1, length-range_with_len 0 7) in
        each place slot (record {
          of_catalog = (0, omega arith, refl);
          below = omega (arith, low, get_or-range_with_len 0 7 found.0.0 slot low, found.0.2);
          unused = not-true (is_in_use (entry_at place (unit_at store place) slot)) found.1;
        })

-- a free slot of these sectors is listed
module _ (store : List (List ℕ)) (place slot : ℕ) (below : slot < 7) (unused : is_in_use (entry_at place (unit_at store place) slot) ≡ false) where
  in_sector : Contains (free_slots_of place (unit_at store place)) (place, slot)
  in_sector =
      let kept = filter (is_free store place) (range_with_len 0 7) in
      let found = in_filter (is_free store place) (range_with_len 0 7) slot (slot, omega (arith, below, length-range_with_len 0 7), get_or-range_with_len 0 7 slot slot below ∙ omega arith)
      (not_in_use (is_in_use (entry_at place (unit_at store place) slot)) unused) in (
        found.0,
        omega (arith, found.1, length-map kept (listed place)),
        get_or-map (listed place) kept found.0 slot (place, slot) found.1 ∙ ap (listed place) found.2,
      )

  in_sectors : (sectors : List ℕ) → Contains sectors place → Contains (free_slots_in store sectors) (place, slot)
  in_sectors [] has = absurd (omega (arith, has.1))
  in_sectors (first ∷ rest) has = ⊎_elim
      (λ same. Contains-append_left (free_slots_of first (unit_at store first)) (free_slots_in store rest) (place, slot)
      (subst (λ p. Contains (free_slots_of p (unit_at store p)) (place, slot)) (sym same) in_sector))
      (λ later. Contains-append_right (free_slots_of first (unit_at store first)) (free_slots_in store rest) (place, slot) (in_sectors rest later))
      (Contains-cases first rest place has)

of_first : {X : Type 0} (P : X → Type 0) (xs : List X) (x : X) → All P xs → slice_get xs 0 ≡ Some x → P x
of_first P [] x all is = absurd (cc)
of_first P (y ∷ xs) x all is = let same : y ≡ x = cc in subst P same (all 0 x (omega arith))

none_first : {X : Type 0} (xs : List X) (x : X) → slice_get xs 0 ≡ None → Contains xs x → ⊥
none_first [] x is has = omega (arith, has.1)
none_first (y ∷ xs) x is has = absurd (cc)

-- the first that is listed is free, and where none is listed none is free
pub first_is_free : (store : List (List ℕ)) (sectors : List ℕ) (place slot : ℕ) → slice_get (free_slots_in store sectors) 0 ≡ Some (place, slot) → IsFreeSlot store sectors place slot
first_is_free store sectors place slot is =
    of_first (λ (found : ℕ × ℕ). IsFreeSlot store sectors found.0 found.1) (free_slots_in store sectors) (place, slot)
    (each_free (λ (found : ℕ × ℕ). IsFreeSlot store sectors found.0 found.1) store sectors (λ other number free. free)) is

pub none_is_free : (store : List (List ℕ)) (sectors : List ℕ) (place slot : ℕ) → slice_get (free_slots_in store sectors) 0 ≡ None → IsFreeSlot store sectors place slot → ⊥
none_is_free store sectors place slot is free =
    none_first (free_slots_in store sectors) (place, slot) is (in_sectors store place slot free.below free.unused sectors free.of_catalog)
