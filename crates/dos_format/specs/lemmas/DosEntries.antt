-- The entries of a catalog: where they stand, each in a slot of its own.
use Rattle.std.specs.Prelude.{◌≡◌, ◌≢◌, ◌<◌, ◌≤◌, ℕ, ◌*◌, ◌-◌, suc, true, List, [], ◌∷◌, ◌++◌, length, map, All, AllPairs}
use Rattle.std.specs.List.{range_with_len}
use Rattle.std.proofs.Common.{inl, inr, refl, sym, ap, arith, subst, get_or, length-append}
use Rattle.std.proofs.lemmas.List.{get_or_append_left, get_or-append_right}
use Rattle.std.proofs.lemmas.Bool.{cases_lt}
use Rattle.std.proofs.lemmas.List.Elements.{All-append, filter_passes}
use Rattle.std.proofs.lemmas.List.Kept.{AllPairs-filter}
use Rattle.std.proofs.lemmas.List.FromFn.{length-map-range_with_len, get_or-map-range_with_len}
use Rattle.a2_device.specs.Device.{unit_at}
use Rattle.dos_catalog.specs.declared.entry.Entry.{Entry}
use Rattle.dos_catalog.specs.Entry.{entry_at, is_in_use, entries_of, entries_in}
use Rattle.dos_catalog.specs.Catalog.{IsCatalog}
use Rattle.dos_catalog.specs.Found.{AreOnTrack}
use Rattle.dos_catalog.proofs.OnTrack.{each_slot, at_most_seven}
use Rattle.dos_format.specs.lemmas.DosChain.{sectors_on_track, few_sectors}

-- what holds of each entry of a slot below 7 of one of these sectors
pub each_entry : (P : Entry → Type 0) (store : List (List ℕ)) (sectors : List ℕ)
    → All (λ place. (slot : ℕ) → slot < 7 → P (entry_at place (unit_at store place) slot)) sectors → All P (entries_in store sectors)
each_entry P store [] each = λ k d within. absurd (omega (arith, within))
each_entry P store (place ∷ rest) each =
    All-append P (entries_of place (unit_at store place)) (entries_in store rest)
    (each_slot place (unit_at store place) P (each 0 place (omega arith)))
    (each_entry P store rest (λ k d within. each (suc k) d (omega (arith, within))))

pub each_in_use : (store : List (List ℕ)) (sectors : List ℕ) → All (λ (entry : Entry). is_in_use entry ≡ true) (entries_in store sectors)
each_in_use store [] = λ k d within. absurd (omega (arith, within))
each_in_use store (place ∷ rest) =
    All-append (λ (entry : Entry). is_in_use entry ≡ true) (entries_of place (unit_at store place)) (entries_in store rest)
    (filter_passes is_in_use (map (entry_at place (unit_at store place)) (range_with_len 0 7)))
    (each_in_use store rest)

few_in : (store : List (List ℕ)) (sectors : List ℕ) → length (entries_in store sectors) ≤ 7 * length sectors
few_in store [] = omega arith
few_in store (place ∷ rest) = omega (
  arith,
  few_in store rest,
  at_most_seven place (unit_at store place),
  length-append (entries_of place (unit_at store place)) (entries_in store rest),
)

pub on_track : (store : List (List ℕ)) (sectors : List ℕ) → IsCatalog store sectors → AreOnTrack (entries_in store sectors)
on_track store sectors catalog =
    let on = sectors_on_track store 272 sectors catalog.last catalog.leads in
    record {
      places = each_entry (λ (entry : Entry). (272 < entry.place) × (entry.place < 288)) store sectors (λ k d within slot low. on k d within);
      slots = each_entry (λ (entry : Entry). entry.slot < 7) store sectors (λ k d within slot low. low);
      few = omega (arith, few_in store sectors, few_sectors sectors on catalog.once);
    }

-- two entries stand in different slots, or in different sectors
abbrev pub AreApart : Entry → Entry → Type 0
AreApart entry later = entry.place ≡ later.place → entry.slot ≡ later.slot → ⊥

AllPairs-append : {X : Type 0} (R : X → X → Type 0) (xs ys : List X) → AllPairs R xs → AllPairs R ys → All (λ x. All (R x) ys) xs → AllPairs R (xs ++ ys)
AllPairs-append R xs ys first second across i j d less within = elim (cases_lt j (length xs)) [
  | inl inside ↦ subst (λ x. R x (get_or (xs ++ ys) j d)) (sym (left i (omega (arith, less, inside)))) (subst (R (get_or xs i d)) (sym (left j inside)) (first i j d less inside))
  | inr beyond ↦ elim (cases_lt i (length xs)) [
    | inl inside ↦
        subst (λ x. R x (get_or (xs ++ ys) j d)) (sym (left i inside))
        (subst (R (get_or xs i d)) (sym (right j (omega arith))) (across i d inside (j - length xs) d (later j (omega arith) within)))
    | inr behind ↦
        subst (λ x. R x (get_or (xs ++ ys) j d)) (sym (right i (omega arith)))
        (subst (R (get_or ys (i - length xs) d)) (sym (right j (omega arith)))
        (second (i - length xs) (j - length xs) d (omega arith) (later j (omega arith) within)))
  ]
]
  where
    left : (k : ℕ) → k < length xs → get_or (xs ++ ys) k d ≡ get_or xs k d
    left k inside = get_or_append_left xs ys d k inside

    right : (k : ℕ) → length xs ≤ k → get_or (xs ++ ys) k d ≡ get_or ys (k - length xs) d
    right k beyond = get_or-append_right xs ys (length xs) k d refl beyond

    later : (k : ℕ) → length xs ≤ k → k < length (xs ++ ys) → k - length xs < length ys
    later k beyond inside = omega (arith, beyond, inside, length-append xs ys)

slots_apart : (place : ℕ) (unit : List ℕ) → AllPairs AreApart (entries_of place unit)
slots_apart place unit = AllPairs-filter AreApart is_in_use (map (entry_at place unit) (range_with_len 0 7)) (λ i j d less within same_place same_slot.
    let inside : j < 7 = omega (arith, within, length-map-range_with_len (entry_at place unit) 0 7) in
    let first = ap (λ (e : Entry). e.slot) (get_or-map-range_with_len (entry_at place unit) 0 7 i i d (omega (arith, less, inside)) (omega arith)) in
    let second = ap (λ (e : Entry). e.slot) (get_or-map-range_with_len (entry_at place unit) 0 7 j j d inside (omega arith)) in
    omega (arith, first, second, same_slot, less))

pub entries_apart : (store : List (List ℕ)) (sectors : List ℕ) → AllPairs (λ place later. place ≢ later) sectors → AllPairs AreApart (entries_in store sectors)
entries_apart store [] once = λ i j d less within. absurd (omega (arith, within))
entries_apart store (place ∷ rest) once =
    AllPairs-append AreApart (entries_of place (unit_at store place)) (entries_in store rest) (slots_apart place (unit_at store place))
    (entries_apart store rest (λ i j d less within. once (suc i) (suc j) d (omega (arith, less)) (omega (arith, within))))
    (each_slot place (unit_at store place) (λ entry. All (AreApart entry) (entries_in store rest)) (λ slot low.
    each_entry (AreApart (entry_at place (unit_at store place) slot)) store rest (λ k d within later later_low same_place same_slot.
    once 0 (suc k) d (omega arith) (omega (arith, within)) same_place)))
