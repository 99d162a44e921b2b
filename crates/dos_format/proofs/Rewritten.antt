-- A sector in which a slot's bytes behind its pointer are written: the directory has that entry rewritten, and else what it had.
use Rattle.std.specs.Prelude.{◌≡◌, ◌<◌, ℕ, ◌+◌, ◌==◌, not, ◌&&◌, true, Bool, List, [], length, map, take, drop, slice_index, slice_set, All}
use Rattle.std.proofs.Common.{sym, ◌∙◌, ap, arith, subst, get_or, inl, inr}
use Rattle.std.proofs.lemmas.Bool.{cases_eq}
use Rattle.std.proofs.lemmas.List.{length-set, get_or-take, get_or-drop, get_or-set_same, get_or-set_other}
use Rattle.a2_device.specs.Device.{unit_at}
use Rattle.a2_device.specs.declared.part.PartKind.TheVariants.{List as AList}
use Rattle.dos_vtoc.specs.Vtoc.{HasGeometry}
use Rattle.dos_catalog.specs.declared.entry.Entry.{Entry}
use Rattle.dos_catalog.specs.Entry.{entry_at, is_in_use, entries_in}
use Rattle.dos_catalog.specs.Catalog.{IsCatalog}
use Rattle.dos_catalog.specs.Writes.{slot_offset}
use Rattle.dos_tslist.specs.Reach.{entry_pointer}
use Rattle.vol_format.specs.declared.link.Link.{Link}
use Rattle.vol_format.specs.Directory.{Directory, Listed, entry_of}
use Rattle.dos_format.specs.Dos.{link_to, dos_entry, numbered, dos_directory, DescribesDos}
use Rattle.dos_format.specs.lemmas.DosBytes.{pointer_of-same}
use Rattle.dos_format.specs.lemmas.DosChain.{HaveSameLinks, catalog_same}
use Rattle.dos_format.specs.lemmas.DosDirectory.{entry_of-dos, no_list}
use Rattle.dos_format.specs.lemmas.DosEntries.{each_in_use, on_track, entries_apart}
use Rattle.dos_format.specs.lemmas.DosRoots.{IsStored, each_stored}
use Rattle.dos_format.specs.lemmas.DosTurned.{with_entry, entries_turned, one_turned}
use Rattle.vol_laws.specs.Inserted.{rewritten}
use Rattle.dos_format.proofs.Numbers.{numbered_set}
use Rattle.dos_format.proofs.Windows.{IsSameOutside, other_slot}

-- a sector with a slot written behind its pointer: its entry points to what it pointed to, and is in use as it was
module _ (old unit : List ℕ) (slot : ℕ) (same : IsSameOutside old unit (slot_offset slot + 2) (slot_offset slot + 35)) where
  byte_there : (byte : ℕ) → byte < 2 → slice_index (take 35 (drop (slot_offset slot) unit)) byte ≡ slice_index (take 35 (drop (slot_offset slot) old)) byte
  byte_there byte low = of_unit unit ∙ same (slot_offset slot + byte) (inl (omega (arith, low))) ∙ sym (of_unit old)
    where
      of_unit : (u : List ℕ) → slice_index (take 35 (drop (slot_offset slot) u)) byte ≡ slice_index u (slot_offset slot + byte)
      of_unit u = get_or-take 35 (drop (slot_offset slot) u) byte 0 (omega (arith, low)) ∙ get_or-drop (slot_offset slot) u byte 0

  pub same_pointer : (place : ℕ) → entry_pointer (entry_at place unit slot) ≡ entry_pointer (entry_at place old slot)
  same_pointer place = pointer_of-same (take 35 (drop (slot_offset slot) old)) (take 35 (drop (slot_offset slot) unit)) 0 (byte_there 0 (omega arith)) (byte_there 1 (omega arith))

  pub stays_in_use : (place : ℕ) → is_in_use (entry_at place old slot) ≡ true → is_in_use (entry_at place unit slot) ≡ true
  stays_in_use place used = ap (λ track. not (track == 0) && not (track == 0xff)) (byte_there 0 (omega arith)) ∙ used

  module _ (path bytes : List ℕ) (path_is : take 30 (drop 3 (take 35 (drop (slot_offset slot) unit))) ≡ path)
      (bytes_is : drop 2 (take 35 (drop (slot_offset slot) unit)) ≡ bytes) where
    -- the entry that is written has this path and these bytes, and else what it had
    pub entry_there : (file place : ℕ) → dos_entry file (entry_at place unit slot) ≡ record (dos_entry file (entry_at place old slot)) { path = path; bytes = bytes }
    entry_there file place =
        let before : Listed = dos_entry file (entry_at place old slot) in
        let after : Listed = dos_entry file (entry_at place unit slot) in
        ap (λ (p : List ℕ). record after { path = p }) path_is
        ∙ ap (λ (b : List ℕ). record after { path = path; bytes = b }) bytes_is
        ∙ ap (λ (root : Link). record before { path = path; bytes = bytes; root = root }) (ap (link_to file AList 0) (same_pointer place))

-- a sector in which the bytes of a slot alone are written has the links that it had
pub links_kept : (store : List (List ℕ)) (place slot : ℕ) (unit : List ℕ) → place < length store
    → IsSameOutside (unit_at store place) unit (slot_offset slot + 2) (slot_offset slot + 35) → HaveSameLinks store (slice_set store place unit)
links_kept store place slot unit inside same at near = elim (cases_eq at place) [
  | inl here ↦ subst
      (λ p. (slice_index (unit_at (slice_set store place unit) p) 1 ≡ slice_index (unit_at store p) 1)
      × (slice_index (unit_at (slice_set store place unit) p) 2 ≡ slice_index (unit_at store p) 2))
      (sym here) (byte_here 1 (omega arith), byte_here 2 (omega arith))
  | inr differ ↦ (
    ap (λ u. slice_index u 1) (get_or-set_other store place at unit [] differ),
    ap (λ u. slice_index u 2) (get_or-set_other store place at unit [] differ),
  )
]
  where
    byte_here : (byte : ℕ) → byte < 11 → slice_index (unit_at (slice_set store place unit) place) byte ≡ slice_index (unit_at store place) byte
    byte_here byte low = ap (λ u. slice_index u byte) (get_or-set_same store place unit [] inside) ∙ same byte (inl (omega (arith, low)))

module _ (data_disk : Bool) (reserved : List Bool) (store : List (List ℕ)) (sectors : List ℕ) (size : length store ≡ 560) (geometry : HasGeometry (unit_at store 272))
    (catalog : IsCatalog store sectors) (file : ℕ) (inside : file < length (entries_in store sectors)) (entry : Entry) (entry_is : entry ≡ get_or (entries_in store sectors) file no_list)
    (unit path bytes : List ℕ) (long : length unit ≡ length (unit_at store entry.place))
    (same : IsSameOutside (unit_at store entry.place) unit (slot_offset entry.slot + 2) (slot_offset entry.slot + 35))
    (path_is : take 30 (drop 3 (take 35 (drop (slot_offset entry.slot) unit))) ≡ path)
    (bytes_is : drop 2 (take 35 (drop (slot_offset entry.slot) unit)) ≡ bytes) where
  abbrev after : List (List ℕ)
  after = slice_set store entry.place unit

  abbrev entry_after : Entry
  entry_after = entry_at entry.place unit entry.slot

  abbrev directory : Directory
  directory = dos_directory data_disk reserved (unit_at store 272) (entries_in store sectors)

  of_entry : (P : Entry → Type 0) → All P (entries_in store sectors) → P entry
  of_entry P all = subst P (sym entry_is) (all file no_list inside)

  place_on_track : (272 < entry.place) × (entry.place < 288)
  place_on_track = of_entry (λ e. (272 < e.place) × (e.place < 288)) (on_track store sectors catalog).places

  below : entry.place < length store
  below = omega (arith, size, place_on_track.1)

  as_stored : entry ≡ entry_at entry.place (unit_at store entry.place) entry.slot
  as_stored = of_entry (IsStored store) (each_stored store sectors)

  was_in_use : is_in_use (entry_at entry.place (unit_at store entry.place) entry.slot) ≡ true
  was_in_use = subst (λ e. is_in_use e ≡ true) as_stored (of_entry (λ e. is_in_use e ≡ true) (each_in_use store sectors))

  vtoc_same : unit_at after 272 ≡ unit_at store 272
  vtoc_same = get_or-set_other store entry.place 272 unit [] (λ e. omega (arith, e, place_on_track.0))

  entries_after : entries_in after sectors ≡ slice_set (entries_in store sectors) file entry_after
  entries_after =
      entries_turned store entry.place entry.slot unit below was_in_use (stays_in_use (unit_at store entry.place) unit entry.slot same entry.place was_in_use)
      (other_slot (unit_at store entry.place) unit entry.slot (slot_offset entry.slot + 2) long (omega arith) same entry.place) sectors
      ∙ ap (λ e. map (with_entry e.place e.slot entry_after) (entries_in store sectors)) entry_is
      ∙ one_turned (entries_in store sectors) file no_list entry_after (entries_apart store sectors catalog.once) inside

  listed_there : dos_entry (0 + file) entry_after ≡ record (entry_of directory file) { path = path; bytes = bytes }
  listed_there =
      ap (λ n. dos_entry n entry_after) (omega arith)
      ∙ entry_there (unit_at store entry.place) unit entry.slot same path bytes path_is bytes_is file entry.place
      ∙ ap (λ (e : Entry). record (dos_entry file e) { path = path; bytes = bytes }) (sym as_stored ∙ entry_is)
      ∙ ap (λ (listed : Listed). record listed { path = path; bytes = bytes })
      (sym (entry_of-dos data_disk reserved (unit_at store 272) (entries_in store sectors) file no_list inside))

  pub rewritten_at : DescribesDos data_disk reserved (slice_set store entry.place unit)
      (rewritten (dos_directory data_disk reserved (unit_at store 272) (entries_in store sectors)) file path bytes)
  rewritten_at = record {
    size = length-set store entry.place unit ∙ size;
    geometry = subst HasGeometry (sym vtoc_same) geometry;
    sectors = sectors;
    catalog = catalog_same store after (links_kept store entry.place entry.slot unit below same) sectors catalog;
    says = sym (
        ap (λ vtoc. dos_directory data_disk reserved vtoc (entries_in after sectors)) vtoc_same
        ∙ ap (dos_directory data_disk reserved (unit_at store 272)) entries_after
        ∙ ap (λ (listed : List Listed). record directory { listed = listed })
        (numbered_set (entries_in store sectors) 0 file entry_after ∙ ap (slice_set (numbered 0 (entries_in store sectors)) file) listed_there)
        );
  }
