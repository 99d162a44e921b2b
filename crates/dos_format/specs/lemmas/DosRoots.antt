-- An entry's pointer, written: the directory has that entry pointing to the new place, and else what it had.
use Rattle.std.specs.Prelude.{◌≡◌, ◌≢◌, ◌<◌, ℕ, ◌+◌, ◌/◌, zero, suc, true, Bool, List, [], ◌∷◌, length, map, take, drop, slice_index, slice_set, All}
use Rattle.std.proofs.Common.{refl, sym, ◌∙◌, ap, arith, subst, get_or, inl, inr, add-zero}
use Rattle.std.proofs.lemmas.Bool.{cases_eq}
use Rattle.std.proofs.lemmas.List.{length-set, get_or-set_same, get_or-set_other}
use Rattle.a2_device.specs.Device.{unit_at}
use Rattle.a2_device.specs.declared.part.Part.{Part}
use Rattle.a2_device.specs.declared.part.PartKind.TheVariants.{List as AList}
use Rattle.dos_vtoc.specs.Vtoc.{HasGeometry}
use Rattle.dos_catalog.specs.declared.entry.Entry.{Entry}
use Rattle.dos_catalog.specs.Entry.{entry_at, is_in_use, entries_in}
use Rattle.dos_catalog.specs.Catalog.{IsCatalog}
use Rattle.dos_catalog.specs.Writes.{slot_offset}
use Rattle.dos_tslist.specs.Reach.{entry_pointer}
use Rattle.vol_format.specs.declared.link.Link.{Link}
use Rattle.vol_format.specs.declared.link.Link.TheVariants.{To}
use Rattle.vol_format.specs.Directory.{Directory, Listed, entries, entry_of, root_of, turned}
use Rattle.vol_format.specs.Standing.{at_place}
use Rattle.dos_format.specs.Dos.{link_to, dos_entry, numbered, dos_directory, DescribesDos, CanNameDos, dos_with_root}
use Rattle.dos_format.specs.lemmas.DosBytes.{byte-with_place_other, stored, link_to-place}
use Rattle.dos_format.specs.lemmas.DosChain.{HaveSameLinks, catalog_same}
use Rattle.dos_format.specs.lemmas.DosDirectory.{length-numbered, entry_of-dos, root_of-dos, no_list}
use Rattle.dos_format.specs.lemmas.DosEntries.{each_entry, each_in_use, on_track, entries_apart}
use Rattle.dos_format.specs.lemmas.DosLaws.{IsNamed}
use Rattle.dos_format.specs.lemmas.DosSlots.{behind_pointer, other_slot, track_there, sector_there, in_use_there}
use Rattle.dos_format.specs.lemmas.DosTurned.{with_entry, entries_turned, one_turned}

-- an entry is what is stored in its slot
abbrev pub IsStored : List (List ℕ) → Entry → Type 0
IsStored store entry = entry ≡ entry_at entry.place (unit_at store entry.place) entry.slot

pub each_stored : (store : List (List ℕ)) (sectors : List ℕ) → All (IsStored store) (entries_in store sectors)
each_stored store sectors = each_entry (IsStored store) store sectors (λ k d within slot low. refl)

numbered-set : (all : List Entry) (from k : ℕ) (entry : Entry) → numbered from (slice_set all k entry) ≡ slice_set (numbered from all) k (dos_entry (from + k) entry)
numbered-set [] from k entry = refl
numbered-set (first ∷ all) from zero entry = ap (λ n. dos_entry n entry ∷ numbered (from + 1) all) (sym (add-zero from))
numbered-set (first ∷ all) from (suc k) entry =
    ap (λ es. dos_entry from first ∷ es) (numbered-set all (from + 1) k entry)
    ∙ ap (λ n. dos_entry from first ∷ slice_set (numbered (from + 1) all) k (dos_entry n entry)) (omega arith)

module _ (unit : List ℕ) (file slot place to : ℕ) (part : Part) (named : CanNameDos to) (within : slot_offset slot + 1 < length unit) (is : IsNamed file AList 0 part) where
  root_there : link_to file AList 0 (entry_pointer (entry_at place (dos_with_root unit slot to) slot)) ≡ To (at_place part to)
  root_there =
      ap (λ track. link_to file AList 0 (stored track (slice_index (take 35 (drop (slot_offset slot) (dos_with_root unit slot to))) 1))) (track_there unit slot to within)
      ∙ ap (λ sector. link_to file AList 0 (stored (to / 16) sector)) (sector_there unit slot to within)
      ∙ link_to-place file AList 0 to named
      ∙ ap (λ f. To (record { file = f; kind = AList; number = 0; place = to })) (sym is.same_file)
      ∙ ap (λ k. To (record { file = part.file; kind = k; number = 0; place = to })) (sym is.same_kind)
      ∙ ap (λ n. To (record { file = part.file; kind = part.kind; number = n; place = to })) (sym is.same_number)

  -- the entry that is written has what it had but the pointer
  pub entry_there : dos_entry file (entry_at place (dos_with_root unit slot to) slot) ≡ record (dos_entry file (entry_at place unit slot)) { root = To (at_place part to) }
  entry_there =
      let before : Listed = dos_entry file (entry_at place unit slot) in
      let after : Listed = dos_entry file (entry_at place (dos_with_root unit slot to) slot) in
      ap (λ (bytes : List ℕ). record after { path = take 30 bytes }) (behind_pointer unit slot to 3 (omega arith))
      ∙ ap (λ (bytes : List ℕ). record before { bytes = bytes; root = after.root }) (behind_pointer unit slot to 2 (omega arith))
      ∙ ap (λ (root : Link). record before { root = root }) root_there

-- a slot of a catalog sector written leaves the links
same_links : (store : List (List ℕ)) (place slot to : ℕ) → place < length store → HaveSameLinks store (slice_set store place (dos_with_root (unit_at store place) slot to))
same_links store place slot to inside at near = elim (cases_eq at place) [
  | inl same ↦ subst
      (λ p. (slice_index (unit_at (slice_set store place (dos_with_root (unit_at store place) slot to)) p) 1 ≡ slice_index (unit_at store p) 1)
      × (slice_index (unit_at (slice_set store place (dos_with_root (unit_at store place) slot to)) p) 2 ≡ slice_index (unit_at store p) 2))
      (sym same) (here 1 (λ e. omega (arith, e)) (λ e. omega (arith, e)), here 2 (λ e. omega (arith, e)) (λ e. omega (arith, e)))
  | inr differ ↦ (
    ap (λ u. slice_index u 1) (get_or-set_other store place at (dos_with_root (unit_at store place) slot to) [] differ),
    ap (λ u. slice_index u 2) (get_or-set_other store place at (dos_with_root (unit_at store place) slot to) [] differ),
  )
]
  where
    here : (byte : ℕ) → byte ≢ slot_offset slot → byte ≢ slot_offset slot + 1
        → slice_index (unit_at (slice_set store place (dos_with_root (unit_at store place) slot to)) place) byte ≡ slice_index (unit_at store place) byte
    here byte first second = ap (λ u. slice_index u byte) (get_or-set_same store place (dos_with_root (unit_at store place) slot to) [] inside)
        ∙ byte-with_place_other (slot_offset slot) to (unit_at store place) byte first second

module _ (data_disk : Bool) (reserved : List Bool) (store : List (List ℕ)) (sectors : List ℕ) (size : length store ≡ 560) (geometry : HasGeometry (unit_at store 272))
    (catalog : IsCatalog store sectors) (file to : ℕ) (part : Part) (inside : file < length (entries_in store sectors)) (named : CanNameDos to)
    (is : IsNamed file AList 0 part) (entry : Entry) (entry_is : entry ≡ get_or (entries_in store sectors) file no_list)
    (whole : length (unit_at store entry.place) ≡ 256) where
  abbrev unit_after : List ℕ
  unit_after = dos_with_root (unit_at store entry.place) entry.slot to

  abbrev after : List (List ℕ)
  after = slice_set store entry.place unit_after

  abbrev entry_after : Entry
  entry_after = entry_at entry.place unit_after entry.slot

  abbrev directory : Directory
  directory = dos_directory data_disk reserved (unit_at store 272) (entries_in store sectors)

  of_entry : (P : Entry → Type 0) → All P (entries_in store sectors) → P entry
  of_entry P all = subst P (sym entry_is) (all file no_list inside)

  place_on_track : (272 < entry.place) × (entry.place < 288)
  place_on_track = of_entry (λ e. (272 < e.place) × (e.place < 288)) (on_track store sectors catalog).places

  below : entry.place < length store
  below = omega (arith, size, place_on_track.1)

  within : slot_offset entry.slot + 1 < length (unit_at store entry.place)
  within = omega (arith, whole, of_entry (λ e. e.slot < 7) (on_track store sectors catalog).slots)

  as_stored : entry ≡ entry_at entry.place (unit_at store entry.place) entry.slot
  as_stored = of_entry (IsStored store) (each_stored store sectors)

  was_in_use : is_in_use (entry_at entry.place (unit_at store entry.place) entry.slot) ≡ true
  was_in_use = subst (λ e. is_in_use e ≡ true) as_stored (of_entry (λ e. is_in_use e ≡ true) (each_in_use store sectors))

  vtoc_same : unit_at after 272 ≡ unit_at store 272
  vtoc_same = get_or-set_other store entry.place 272 unit_after [] (λ e. omega (arith, e, place_on_track.0))

  entries_after : entries_in after sectors ≡ slice_set (entries_in store sectors) file entry_after
  entries_after =
      entries_turned store entry.place entry.slot unit_after below was_in_use (in_use_there (unit_at store entry.place) entry.slot to entry.place named within)
      (λ other apart. other_slot (unit_at store entry.place) entry.slot to entry.place other apart) sectors
      ∙ ap (λ e. map (with_entry e.place e.slot entry_after) (entries_in store sectors)) entry_is
      ∙ one_turned (entries_in store sectors) file no_list entry_after (entries_apart store sectors catalog.once) inside

  listed_there : dos_entry (0 + file) entry_after ≡ record (entry_of directory file) { root = To (at_place part to) }
  listed_there =
      ap (λ n. dos_entry n entry_after) (omega arith)
      ∙ entry_there (unit_at store entry.place) file entry.slot entry.place to part named within is
      ∙ ap (λ (e : Entry). record (dos_entry file e) { root = To (at_place part to) }) (sym as_stored ∙ entry_is)
      ∙ ap (λ (listed : Listed). record listed { root = To (at_place part to) })
      (sym (entry_of-dos data_disk reserved (unit_at store 272) (entries_in store sectors) file no_list inside))

  pub turned_at : DescribesDos data_disk reserved (slice_set store entry.place (dos_with_root (unit_at store entry.place) entry.slot to))
      (turned (dos_directory data_disk reserved (unit_at store 272) (entries_in store sectors)) file (To (at_place part to)))
  turned_at = record {
    size = length-set store entry.place unit_after ∙ size;
    geometry = subst HasGeometry (sym vtoc_same) geometry;
    sectors = sectors;
    catalog = catalog_same store after (same_links store entry.place entry.slot to below) sectors catalog;
    says = sym (
        ap (λ vtoc. dos_directory data_disk reserved vtoc (entries_in after sectors)) vtoc_same
        ∙ ap (dos_directory data_disk reserved (unit_at store 272)) entries_after
        ∙ ap (λ (listed : List Listed). record directory { listed = listed })
        (numbered-set (entries_in store sectors) 0 file entry_after ∙ ap (slice_set (numbered 0 (entries_in store sectors)) file) listed_there)
        );
  }

-- the pointer of an entry in use that names a part can be written
pub turn_dos : (data_disk : Bool) (reserved : List Bool) (store : List (List ℕ)) (directory : Directory) (file to : ℕ) (part : Part) → DescribesDos data_disk reserved store directory
    → file < entries directory → root_of directory file ≡ To part → CanNameDos to → length (unit_at store (entry_of directory file).place) ≡ 256
    → DescribesDos data_disk reserved (slice_set store (entry_of directory file).place (dos_with_root (unit_at store (entry_of directory file).place) (entry_of directory file).slot to))
    (turned directory file (To (at_place part to)))
turn_dos data_disk reserved store directory file to part described = subst Turns (sym described.says) (λ within root named whole.
    let inside : file < length (entries_in store described.sectors) = omega (arith, within, length-numbered 0 (entries_in store described.sectors)) in
    let at = entry_of-dos data_disk reserved (unit_at store 272) (entries_in store described.sectors) file no_list inside in
    subst (λ (e : Listed). DescribesDos data_disk reserved (slice_set store e.place (dos_with_root (unit_at store e.place) e.slot to))
    (turned (dos_directory data_disk reserved (unit_at store 272) (entries_in store described.sectors)) file (To (at_place part to)))) (sym at)
    (turned_at data_disk reserved store described.sectors described.size described.geometry described.catalog file to part inside named
    (root_of-dos data_disk reserved (unit_at store 272) (entries_in store described.sectors) file part root)
    (get_or (entries_in store described.sectors) file no_list) refl
    (subst (λ (e : Listed). length (unit_at store e.place) ≡ 256) at whole)))
  where
    Turns : Directory → Type 0
    Turns d = file < entries d → root_of d file ≡ To part → CanNameDos to → length (unit_at store (entry_of d file).place) ≡ 256
        → DescribesDos data_disk reserved (slice_set store (entry_of d file).place (dos_with_root (unit_at store (entry_of d file).place) (entry_of d file).slot to))
        (turned d file (To (at_place part to)))
