-- A slot of the catalog that has an entry in use, and that entry in the directory.
use Rattle.std.specs.Prelude.{◌≡◌, ◌<◌, ℕ, zero, suc, if◌then◌else◌, Bool, true, false, List, [], ◌∷◌, map, filter, Contains}
use Rattle.std.specs.List.{range_with_len}
use Rattle.std.proofs.Common.{sym, ◌∙◌, ap, arith, subst, ⊎_elim}
use Rattle.std.proofs.lemmas.List.Elements.{Contains-append_left, Contains-append_right}
use Rattle.std.proofs.lemmas.List.FromFn.{length-map-range_with_len, get_or-map-range_with_len}
use Rattle.vol_layout.proofs.Lists.{Contains-cases}
use Rattle.a2_device.specs.Device.{unit_at}
use Rattle.dos_catalog.specs.declared.entry.Entry.{Entry}
use Rattle.dos_catalog.specs.Entry.{entry_at, is_in_use, entries_of, entries_in}
use Rattle.dos_catalog.specs.Catalog.{IsCatalog}
use Rattle.vol_format.specs.Directory.{Directory, Listed, entries, entry_of}
use Rattle.dos_format.specs.Dos.{dos_entry, DescribesDos}
use Rattle.dos_format.specs.lemmas.DosDirectory.{length-numbered, entry_of-dos}
use Rattle.dos_format.specs.Rewriting.{place_of_entry, slot_of_entry}
use Rattle.dos_format.specs.Slots.{IsUsedSlot}
use Rattle.dos_format.proofs.SlotWrites.{says_of}

-- an element that passes a test is among those that do
in_kept : {X : Type 0} (p : X → Bool) (xs : List X) (y : X) → Contains xs y → p y ≡ true → Contains (filter p xs) y
in_kept p [] y has passes = has
in_kept p (x ∷ xs) y (zero, h, is) passes = here (p x) (ap p is ∙ passes)
  where
    here : (b : Bool) → b ≡ true → Contains (if b then x ∷ filter p xs else filter p xs) y
    here true _ = (0, omega arith, is)
    here false not = absurd (cc)
in_kept p (x ∷ xs) y (suc i, h, is) passes = later (in_kept p xs y (i, omega (arith, h), is) passes) (p x)
  where
    later : Contains (filter p xs) y → (b : Bool) → Contains (if b then x ∷ filter p xs else filter p xs) y
    later rest true = (suc rest.0, omega (arith, rest.1), rest.2)
    later rest false = rest

module _ (store : List (List ℕ)) (place slot : ℕ) (below : slot < 7) (used : is_in_use (entry_at place (unit_at store place) slot) ≡ true) where
  abbrev entry : Entry
  entry = entry_at place (unit_at store place) slot

  in_sector : Contains (entries_of place (unit_at store place)) entry
  in_sector = in_kept is_in_use (map (entry_at place (unit_at store place)) (range_with_len 0 7)) entry (
    slot,
    omega (arith, below, length-map-range_with_len (entry_at place (unit_at store place)) 0 7),
    get_or-map-range_with_len (entry_at place (unit_at store place)) 0 7 slot slot entry below (omega arith),
  ) used

  in_sectors : (sectors : List ℕ) → Contains sectors place → Contains (entries_in store sectors) entry
  in_sectors [] has = absurd (omega (arith, has.1))
  in_sectors (first ∷ rest) has = ⊎_elim
      (λ same. Contains-append_left (entries_of first (unit_at store first)) (entries_in store rest) entry
      (subst (λ p. Contains (entries_of p (unit_at store p)) entry) (sym same) in_sector))
      (λ later. Contains-append_right (entries_of first (unit_at store first)) (entries_in store rest) entry (in_sectors rest later))
      (Contains-cases first rest place has)

-- the slot is that of an entry
pub entry_of_slot : (data_disk : Bool) (reserved : List Bool) (store : List (List ℕ)) (directory : Directory) (sectors : List ℕ) (place slot : ℕ)
    → DescribesDos data_disk reserved store directory → IsCatalog store sectors → IsUsedSlot store sectors place slot
    → (file : ℕ) × (file < entries directory) × (place_of_entry directory file ≡ place) × (slot_of_entry directory file ≡ slot)
entry_of_slot data_disk reserved store directory sectors place slot described catalog used =
    let all = entries_in store sectors in
    let e = entry_at place (unit_at store place) slot in
    let found = in_sectors store place slot used.below used.in_use sectors used.of_catalog in
    let says = says_of data_disk reserved store directory sectors described catalog in
    let at : entry_of directory found.0 ≡ dos_entry found.0 e =
    ap (λ (d : Directory). entry_of d found.0) says
    ∙ entry_of-dos data_disk reserved (unit_at store 272) all found.0 e found.1
    ∙ ap (dos_entry found.0) found.2 in
    (found.0, omega (arith, found.1, ap entries says, length-numbered 0 all), ap (λ (l : Listed). l.place) at, ap (λ (l : Listed). l.slot) at)
