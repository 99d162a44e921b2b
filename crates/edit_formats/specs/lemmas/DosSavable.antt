-- In DOS 3.3 a new file is entered by one write to the catalog.
use Rattle.std.specs.Prelude.{◌≡◌, ◌≢◌, ◌⊎◌, ◌<◌, ◌≤◌, ◌+◌, ◌*◌, ◌/◌, ℕ, nat_lt, Bool, true, false, List, [], ◌∷◌, length, map, max, slice_index, slice_set}
use Rattle.std.proofs.Common.{refl, sym, ◌∙◌, ap, subst, arith, inl, inr}
use Rattle.std.proofs.Math.Nat.{max-le}
use Rattle.std.proofs.lemmas.Bool.Decides.{nat_tests}
use Rattle.std.specs.List.{flat_map, range_with_len}
use Rattle.std.proofs.lemmas.List.{get_or-set_same, length-append, length-map}
use Rattle.std.proofs.lemmas.List.Elements.{All-contains}
use Rattle.std.proofs.lemmas.List.FromFn.{length-range_with_len}
use Rattle.std.proofs.lemmas.List.Sums.{length-filter, count_by-le-length}
use Rattle.a2_device.specs.Device.{unit_at}
use Rattle.a2_device.specs.declared.part.PartKind.TheVariants.{List as AList, Body}
use Rattle.dos_catalog.specs.declared.slot.NewEntry.{NewEntry}
use Rattle.dos_catalog.specs.Catalog.{IsCatalog}
use Rattle.dos_catalog.specs.Writes.{slot_offset, with_bytes, entry_bytes}
use Rattle.vol_format.specs.Directory.{Directory, Listed, entries, is_system, map_place}
use Rattle.dos_format.specs.Dos.{DescribesDos, CanNameDos, dos_meaning}
use Rattle.dos_format.specs.lemmas.DosChain.{IsOnTrack, sectors_on_track}
use Rattle.dos_format.specs.lemmas.DosMarks.{track_inside}
use Rattle.vol_laws.specs.Built.{IsBuilt}
use Rattle.vol_laws.specs.Entered.{HasSameRest}
use Rattle.vol_laws.specs.Inserted.{inserted}
use Rattle.dos_format.specs.SameCatalog.{HasSameCatalog}
use Rattle.dos_format.specs.Slots.{IsFreeSlot, number_of_slot, new_listed, entry_written}
use Rattle.dos_format.proofs.Entered.{entered, number_inside}
use Rattle.dos_format.proofs.FreeSlots.{first_is_free}
use Rattle.dos_format.proofs.SameCatalog.{marks_leave, catalog_stays, free_stays, number_stays}
use Rattle.dos_format.proofs.SlotWrites.{sector_written}
use Rattle.vol_laws.specs.Writes.{Write, store_after}
use Rattle.edit_formats.specs.declared.new_part.NewPart.{NewPart}
use Rattle.edit_formats.specs.Order.{AreDosParts, IsOfList, part_at}
use Rattle.edit_formats.specs.Parts.{bodies, dos_parts_of, is_stored, list_count, list_with_bodies, new_part}
use Rattle.edit_formats.specs.lemmas.DosOrder.{dos_parts_are, has_stored}
use Rattle.edit_formats.specs.ListUnit.{HasListUnits}
use Rattle.edit_formats.specs.lemmas.DosBuilt.{dos_file_built, entry_first}
use Rattle.edit_formats.specs.lemmas.Parts.{plan_rising}
use Rattle.edit_formats.specs.Erasing.{HasWholeUnits}
use Rattle.edit_formats.specs.lemmas.DosNaming.{length-dos_name}
use Rattle.edit_formats.specs.lemmas.Fronts.{one_front}
use Rattle.edit_formats.specs.declared.target.Attributes.{Attributes}
use Rattle.edit_formats.specs.declared.target.Extent.{Extent}
use Rattle.edit_formats.specs.declared.target.Slot.{Slot}
use Rattle.edit_formats.specs.Saves.{IsElsewhere, IsEntering, IsSavable}
use Rattle.edit_formats.specs.DosSaves.{IsDosEntry, dos_entering, dos_saves, new_entry}

-- units elsewhere and marks leave the catalog
module _ (data_disk : Bool) (reserved : List Bool) (store base : List (List ℕ)) (directory : Directory) (described : DescribesDos data_disk reserved store directory)
    (elsewhere : IsElsewhere (dos_meaning data_disk reserved) directory store base) where
  one_map : (place : ℕ) → place < directory.places → map_place directory place ≡ 272
  one_map place = subst (λ (d : Directory). place < d.places → map_place d place ≡ 272) (sym described.says) (λ below.
      ap (slice_index (272 ∷ [])) (first place below))
    where
      first : (p : ℕ) → p < 560 → p / 560 ≡ 0
      first p low = omega (arith, low)

  system : (place : ℕ) → 272 ≤ place → place < 288 → is_system directory place ≡ true
  system place low high = track_inside data_disk reserved store directory described place (low, high)

  same_sector : (place : ℕ) → 272 < place → place < 288 → unit_at base place ≡ unit_at store place
  same_sector place low high = elim (elsewhere.system place (system place (omega (arith, low)) high)) [
    | inl same ↦ same
    | inr is ↦ absurd (omega (arith, low, one_map is.marked is.inside, is.here))
  ]

  same_link : (byte : ℕ) → (byte ≡ 1) ⊎ (byte ≡ 2) → slice_index (unit_at base 272) byte ≡ slice_index (unit_at store 272) byte
  same_link byte either = elim (elsewhere.system 272 (system 272 (omega arith) (omega arith))) [
    | inl same ↦ ap (λ u. slice_index u byte) same
    | inr is ↦
        let leaves = marks_leave data_disk reserved store is.marks described.size in
        let here = get_or-set_same store 272 (unit_at base 272) [] (omega (arith, described.size)) in
        ap (λ u. slice_index u byte) (sym here) ∙ ap (λ u. slice_index (unit_at (slice_set store 272 u) 272) byte) is.is ∙ by_byte leaves
  ]
    where
      by_byte : {new : List (List ℕ)} → HasSameCatalog store new → slice_index (unit_at new 272) byte ≡ slice_index (unit_at store 272) byte
      by_byte {new} leaves = elim either [
        | inl one ↦ subst (λ b. slice_index (unit_at new 272) b ≡ slice_index (unit_at store 272) b) (sym one) leaves.track
        | inr two ↦ subst (λ b. slice_index (unit_at new 272) b ≡ slice_index (unit_at store 272) b) (sym two) leaves.sector
      ]

  pub same_catalog : HasSameCatalog store base
  same_catalog = record { sectors = same_sector; track = same_link 1 (inl refl); sector = same_link 2 (inr refl) }

module _ (data_disk : Bool) (reserved : List Bool) (store base : List (List ℕ)) (directory now : Directory)
    (path : List ℕ) (slot : Slot) (attributes : Attributes) (extent : Extent) (at : ℕ) (entry : Listed)
    (described : DescribesDos data_disk reserved store directory) (whole : HasWholeUnits (dos_meaning data_disk reserved) store)
    (first : CanNameDos extent.first) (is : IsDosEntry store path slot attributes extent at entry)
    (described_now : DescribesDos data_disk reserved base now) (elsewhere : IsElsewhere (dos_meaning data_disk reserved) directory store base) where
  same : HasSameCatalog store base
  same = same_catalog data_disk reserved store base directory described elsewhere

  catalog : IsCatalog base is.sectors
  catalog = catalog_stays store base is.sectors same is.catalog

  free : IsFreeSlot base is.sectors slot.place slot.number
  free = free_stays store base is.sectors same is.catalog slot.place slot.number is.free

  number : number_of_slot base is.sectors slot.place slot.number ≡ at
  number = number_stays store base is.sectors same is.catalog slot.place slot.number is.free.of_catalog ∙ sym is.number

  on_track : IsOnTrack slot.place
  on_track = All-contains IsOnTrack is.sectors slot.place (sectors_on_track store 272 is.sectors is.catalog.last is.catalog.leads) is.free.of_catalog

  same_unit : unit_at base slot.place ≡ unit_at store slot.place
  same_unit = same.sectors slot.place on_track.0 on_track.1

  abbrev new : NewEntry
  new = new_entry path attributes extent

  abbrev write : Write
  write = record { place = slot.place; unit = with_bytes (slot_offset slot.number) (entry_bytes new) (unit_at store slot.place) }

  after : entry_written base slot.place slot.number new ≡ store_after (write ∷ []) base
  after = ap (λ u. slice_set base slot.place (with_bytes (slot_offset slot.number) (entry_bytes new) u)) same_unit

  stands : DescribesDos data_disk reserved (store_after (write ∷ []) base) (inserted now at entry)
  stands =
      let one = entered data_disk reserved base now is.sectors slot.place slot.number described_now catalog free new
      (ap length same_unit ∙ whole slot.place (omega (arith, on_track.1, described.size))) (length-dos_name path is.name) first in
      subst (λ (e : Listed). DescribesDos data_disk reserved (store_after (write ∷ []) base) (inserted now at e)) (sym is.is)
      (subst (λ n. DescribesDos data_disk reserved (store_after (write ∷ []) base) (inserted now n (new_listed n slot.place slot.number new))) number
      (subst (λ s. DescribesDos data_disk reserved s (inserted now (number_of_slot base is.sectors slot.place slot.number)
      (new_listed (number_of_slot base is.sectors slot.place slot.number) slot.place slot.number new))) after one))

  pub entering_one : IsEntering (dos_meaning data_disk reserved) now at entry base (dos_entering store path slot attributes extent)
  entering_one = record {
    within = subst (λ n. n ≤ entries now) number (number_inside data_disk reserved base now is.sectors slot.place slot.number described_now catalog free);
    enters = omega arith;
    described = one_front (λ (s : List (List ℕ)). DescribesDos data_disk reserved s (inserted now at entry)) base write stands;
    rest = one_front (HasSameRest now base) base write
        (sector_written data_disk reserved base now is.sectors described_now catalog slot.place free.of_catalog (with_bytes (slot_offset slot.number) (entry_bytes new) (unit_at store slot.place)));
  }

-- how many parts a file has
pub few_bodies : (stored : List Bool) (from count : ℕ) → length (bodies stored from count) ≤ count
unfolding bodies
few_bodies stored from count =
    omega (
      arith,
      length-filter (λ (part : NewPart). is_stored stored part.number) (map (new_part Body) (range_with_len from count)),
      count_by-le-length (λ (part : NewPart). is_stored stored part.number) (map (new_part Body) (range_with_len from count)),
      length-map (range_with_len from count) (new_part Body),
      length-range_with_len from count,
    )

few_in_lists : (stored : List Bool) (numbers : List ℕ) → length (flat_map (list_with_bodies stored) numbers) ≤ 123 * length numbers
few_in_lists stored [] = omega arith
few_in_lists stored (number ∷ numbers) =
    omega (
      arith,
      length-append (list_with_bodies stored number) (flat_map (list_with_bodies stored) numbers),
      few_bodies stored (122 * number) 122,
      few_in_lists stored numbers,
    )

few_parts : (stored : List Bool) → length stored ≤ 560 → length (dos_parts_of stored) < 65536
unfolding dos_parts_of
few_parts stored below =
    omega (
      arith,
      few_in_lists stored (range_with_len 0 (list_count (length stored))),
      length-range_with_len 0 (list_count (length stored)),
      few_lists ((length stored + 121) / 122) (omega (arith, below)),
    )
  where
    few_lists : (lists : ℕ) → lists ≤ 5 → max lists 1 ≤ 5
    few_lists lists low = max-le low (omega arith)

not_long : (units : ℕ) → nat_lt 560 units ≡ false → units ≤ 560
not_long units is = grind (arith, nat_tests)

-- the tables of a file are lists
pub is_a_list : (stored : List Bool) (k : ℕ) → nat_lt 560 (length stored) ≡ false → k < length (dos_parts_of stored)
    → (part_at (dos_parts_of stored) k).kind ≢ Body → (part_at (dos_parts_of stored) k).kind ≡ AList
is_a_list stored k short inside table = elim ((dos_parts_are stored (not_long (length stored) short)).kinds k inside) [
  | inl list ↦ list.0
  | inr body ↦ absurd (table body)
]

pub are_dos_parts : (stored : List Bool) → nat_lt 560 (length stored) ≡ false → AreDosParts (dos_parts_of stored)
are_dos_parts stored short = dos_parts_are stored (not_long (length stored) short)

pub dos_is_savable : (data_disk : Bool) (reserved : List Bool) → IsSavable (dos_meaning data_disk reserved) dos_saves
dos_is_savable data_disk reserved = record {
  units = λ stored short. has_stored stored;
  some = λ stored short. (dos_parts_are stored (not_long (length stored) short)).ordered.some;
  few = λ stored short. few_parts stored (not_long (length stored) short);
  countable = λ eof units short. omega (arith, not_long units short);
  shorter = λ eof units short. short;
  rising = λ at stored places planned short has. plan_rising at (dos_parts_of stored) places planned has IsOfList (dos_parts_are stored (not_long (length stored) short)).ordered;
  built = λ count at store path slot attributes extent entry stored places planned short have has tables size is units first.
      let parts = dos_parts_of stored in
      let are = dos_parts_are stored (not_long (length stored) short) in
      let lists : HasListUnits parts places planned = λ k inside kind. tables k inside (λ body. no_list (sym kind ∙ body)) in
      let new = new_entry path attributes extent in
      subst (λ (e : Listed). IsBuilt (dos_meaning data_disk reserved) count planned e.root) (sym is.is)
      (dos_file_built data_disk reserved count at parts places planned are have has lists (new_listed at slot.place slot.number new).root
      (entry_first data_disk reserved count at parts places planned are have has lists slot.place slot.number new first));
  enters = λ store base directory now path slot attributes extent described whole target short named dated described_now elsewhere.
      let is : IsDosEntry store path slot attributes extent (number_of_slot store target.sectors slot.place slot.number)
      (new_listed (number_of_slot store target.sectors slot.place slot.number) slot.place slot.number (new_entry path attributes extent)) = record {
        name = target.name;
        sectors = target.sectors;
        catalog = target.catalog;
        free = first_is_free store target.sectors slot.place slot.number target.is.1;
        number = refl;
        is = refl;
      } in
      record {
        at = number_of_slot store target.sectors slot.place slot.number;
        entry = new_listed (number_of_slot store target.sectors slot.place slot.number) slot.place slot.number (new_entry path attributes extent);
        is = is;
        entering = entering_one data_disk reserved store base directory now path slot attributes extent (number_of_slot store target.sectors slot.place slot.number)
            (new_listed (number_of_slot store target.sectors slot.place slot.number) slot.place slot.number (new_entry path attributes extent)) described whole named.1 is described_now elsewhere;
      };
}
  where
    no_list : AList ≡ Body → ⊥
    no_list same = absurd (cc)
