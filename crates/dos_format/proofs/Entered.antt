-- A new entry written into a free slot of the catalog.
use Rattle.std.specs.Prelude.{◌≡◌, ◌≤◌, ℕ, ◌+◌, ◌/◌, ◌%◌, ◌==◌, not, ◌&&◌, Bool, true, false, List, [], ◌∷◌, length, slice_set}
use Rattle.std.proofs.Common.{refl, sym, ◌∙◌, ap, arith, subst, inl, inr, length-append}
use Rattle.std.proofs.lemmas.Bool.Decides.{nat_tests}
use Rattle.std.proofs.lemmas.List.{take_at, get_or-set_same}
use Rattle.a2_device.specs.Device.{unit_at}
use Rattle.a2_device.specs.declared.part.PartKind.TheVariants.{List as AList}
use Rattle.dos_catalog.specs.declared.slot.NewEntry.{NewEntry}
use Rattle.dos_catalog.specs.Entry.{entry_at, is_in_use, entries_in}
use Rattle.dos_catalog.specs.Catalog.{IsCatalog}
use Rattle.dos_catalog.specs.Writes.{slot_offset, with_bytes, entry_bytes}
use Rattle.vol_format.specs.declared.link.Link.{Link}
use Rattle.vol_format.specs.Directory.{Directory, entries}
use Rattle.dos_format.specs.Dos.{dos_entry, dos_directory, DescribesDos, CanNameDos}
use Rattle.dos_format.specs.lemmas.DosBytes.{link_to-place}
use Rattle.dos_format.specs.lemmas.DosDirectory.{length-numbered}
use Rattle.vol_laws.specs.Inserted.{inserted}
use Rattle.dos_format.specs.Slots.{IsFreeSlot, number_of_slot, new_listed, entry_written}
use Rattle.dos_format.proofs.OneMore.{number_within, more_described}
use Rattle.dos_format.proofs.SlotWrites.{fills, says_of, below_last}
use Rattle.dos_format.proofs.Windows.{bytes_there, length-with_bytes, byte_before, byte_behind}

-- a new entry says what it is to say, and is in use, since a place that can be named is on no track 00 or FF
new_entry : (file place slot : ℕ) (new : NewEntry) → length new.name ≡ 30 → CanNameDos new.pointer
    → dos_entry file (record { place = place; slot = slot; bytes = entry_bytes new }) ≡ new_listed file place slot new
new_entry file place slot new size named =
    ap (λ (path : List ℕ). record (dos_entry file (record { place = place; slot = slot; bytes = entry_bytes new })) { path = path })
    (take_at new.name ((new.sectors % 256) ∷ (new.sectors / 256) ∷ []) 30 size)
    ∙ ap (λ (root : Link). record (new_listed file place slot new) { root = root }) (link_to-place file AList 0 new.pointer named)

new_in_use : (place slot : ℕ) (new : NewEntry) → CanNameDos new.pointer → is_in_use (record { place = place; slot = slot; bytes = entry_bytes new }) ≡ true
new_in_use place slot new named = by_tests (new.pointer / 16 == 0) (new.pointer / 16 == 0xff) refl refl
  where
    by_tests : (zero last : Bool) → (new.pointer / 16 == 0) ≡ zero → (new.pointer / 16 == 0xff) ≡ last → (not zero && not last) ≡ true
    by_tests true last zero_is last_is = absurd (grind (arith, nat_tests, named.0))
    by_tests false true zero_is last_is = absurd (grind (arith, nat_tests, named.1))
    by_tests false false zero_is last_is = refl

module _ (data_disk : Bool) (reserved : List Bool) (store : List (List ℕ)) (directory : Directory) (sectors : List ℕ) (place slot : ℕ)
    (described : DescribesDos data_disk reserved store directory) (catalog : IsCatalog store sectors) (free : IsFreeSlot store sectors place slot) where
  pub number_inside : number_of_slot store sectors place slot ≤ entries directory
  number_inside = omega (
    arith,
    number_within store sectors place slot free.of_catalog,
    ap entries (says_of data_disk reserved store directory sectors described catalog),
    length-numbered 0 (entries_in store sectors),
  )

  pub entered : (new : NewEntry) → length (unit_at store place) ≡ 256 → length new.name ≡ 30 → CanNameDos new.pointer
      → DescribesDos data_disk reserved (entry_written store place slot new)
      (inserted directory (number_of_slot store sectors place slot) (new_listed (number_of_slot store sectors place slot) place slot new))
  entered new whole size named =
      let old = unit_at store place in
      let bytes = entry_bytes new in
      let index = number_of_slot store sectors place slot in
      let inside = below_last data_disk reserved store directory sectors described catalog place free.of_catalog in
      let count : length bytes ≡ 35 = omega (arith, size, length-append new.name ((new.sectors % 256) ∷ (new.sectors / 256) ∷ [])) in
      let fits : slot_offset slot + length bytes ≤ length old = omega (arith, count, free.below, whole) in
      let unit = with_bytes (slot_offset slot) bytes old in
      let there : entry_at place unit slot ≡ record { place = place; slot = slot; bytes = bytes } =
      ap (λ (b : List ℕ). record { place = place; slot = slot; bytes = b }) (bytes_there old (slot_offset slot) bytes fits 35 count) in
      let filled = fills store place slot unit inside free.below (length-with_bytes old (slot_offset slot) bytes fits)
      (λ byte apart. elim apart [
        | inl low ↦ byte_before old (slot_offset slot) bytes fits byte low
        | inr high ↦ byte_behind old (slot_offset slot) bytes fits byte (omega (arith, high, count))
      ])
      free.unused (ap is_in_use there ∙ new_in_use place slot new named) in
      let says : dos_entry index (entry_at place (unit_at (slice_set store place unit) place) slot) ≡ new_listed index place slot new =
      ap (λ u. dos_entry index (entry_at place u slot)) (get_or-set_same store place unit [] inside)
      ∙ ap (dos_entry index) there ∙ new_entry index place slot new size named in
      subst (λ d. DescribesDos data_disk reserved (slice_set store place unit) (inserted d index (new_listed index place slot new)))
      (sym (says_of data_disk reserved store directory sectors described catalog))
      (subst (λ e. DescribesDos data_disk reserved (slice_set store place unit) (inserted (dos_directory data_disk reserved (unit_at store 272) (entries_in store sectors)) index e)) says
      (more_described store (slice_set store place unit) place slot filled sectors catalog free.of_catalog data_disk reserved described.size described.geometry))
