-- A place's mark, written, and a write outside the system: what the directory is then.
use Rattle.std.specs.Prelude.{◌≡◌, ◌≢◌, ◌<◌, ◌≤◌, ℕ, ◌-◌, ◌/◌, ◌%◌, ◌==◌, nat_lt, not, ◌&&◌, ◌||◌, true, false, Bool, List, [], ◌∷◌, length, map, slice_index, slice_set, All, bit_and, bit_or}
use Rattle.std.specs.List.{range_with_len}
use Rattle.std.proofs.Common.{refl, sym, ◌∙◌, ap, arith, subst, get_or, inl, inr, ◌^◌}
use Rattle.std.proofs.lemmas.Bool.{cases_eq}
use Rattle.std.proofs.lemmas.Bool.Decides.{nat_tests}
use Rattle.std.proofs.lemmas.List.{ext_get_or, length-set, get_or-set_same, get_or-set_other}
use Rattle.std.proofs.lemmas.List.FromFn.{length-map-range_with_len, get_or-map-range_with_len}
use Rattle.a2_device.specs.Device.{unit_at}
use Rattle.dos_vtoc.specs.Vtoc.{HasGeometry, byte_of_place, is_free}
use Rattle.dos_vtoc.proofs.Bits.{is_free-marked_same, is_free-marked_other, is_free-released_same, is_free-released_other}
use Rattle.dos_catalog.specs.Entry.{entries_in}
use Rattle.vol_layout.specs.Reserved.{is_reserved}
use Rattle.vol_format.specs.Directory.{Directory, is_system, map_place, remapped}
use Rattle.dos_format.specs.Dos.{dos_free, dos_directory, DescribesDos, dos_with_free}
use Rattle.dos_format.specs.lemmas.DosChain.{IsOnTrack, HaveSameLinks, sectors_on_track, catalog_same, entries_same}
use Rattle.dos_format.specs.lemmas.DosDirectory.{system_at}

pub length-with_free : (unit : List ℕ) (place : ℕ) (free : Bool) → length (dos_with_free unit place free) ≡ length unit
length-with_free unit place true = length-set unit (byte_of_place place) (bit_or (slice_index unit (byte_of_place place)) (2 ^ (place % 8)))
length-with_free unit place false = length-set unit (byte_of_place place) (bit_and (slice_index unit (byte_of_place place)) (255 - 2 ^ (place % 8)))

-- the bytes before the map
before_map : (unit : List ℕ) (place : ℕ) (free : Bool) (byte : ℕ) → byte < 0x38 → slice_index (dos_with_free unit place free) byte ≡ slice_index unit byte
before_map unit place true byte before =
    get_or-set_other unit (byte_of_place place) byte (bit_or (slice_index unit (byte_of_place place)) (2 ^ (place % 8))) 0 (λ e. omega (arith, e, before))
before_map unit place false byte before =
    get_or-set_other unit (byte_of_place place) byte (bit_and (slice_index unit (byte_of_place place)) (255 - 2 ^ (place % 8))) 0 (λ e. omega (arith, e, before))

pub length-dos_free : (vtoc : List ℕ) → length (dos_free vtoc) ≡ 560
unfolding dos_free
length-dos_free vtoc = length-map-range_with_len (is_free vtoc) 0 560

module _ (vtoc : List ℕ) (place : ℕ) (whole : length vtoc ≡ 256) (within : place < 560) where
  marked_there : (free : Bool) → is_free (dos_with_free vtoc place free) place ≡ free
  marked_there true = is_free-released_same vtoc place whole within
  marked_there false = is_free-marked_same vtoc place whole within

  marked_elsewhere : (free : Bool) (other : ℕ) → other ≢ place → is_free (dos_with_free vtoc place free) other ≡ is_free vtoc other
  marked_elsewhere true = is_free-released_other vtoc place whole within
  marked_elsewhere false = is_free-marked_other vtoc place whole within

  pub free_after : (free : Bool) → dos_free (dos_with_free vtoc place free) ≡ slice_set (dos_free vtoc) place free
  unfolding dos_free
  free_after free =
      ext_get_or false (map (is_free (dos_with_free vtoc place free)) (range_with_len 0 560)) (slice_set (map (is_free vtoc) (range_with_len 0 560)) place free)
      (omega (
        arith,
        length-map-range_with_len (is_free (dos_with_free vtoc place free)) 0 560,
        length-map-range_with_len (is_free vtoc) 0 560,
        length-set (map (is_free vtoc) (range_with_len 0 560)) place free,
      ))
      (λ at inside. at_place at (omega (arith, inside, length-map-range_with_len (is_free (dos_with_free vtoc place free)) 0 560)))
    where
      at_place : (at : ℕ) → at < 560
          → get_or (map (is_free (dos_with_free vtoc place free)) (range_with_len 0 560)) at false ≡ get_or (slice_set (map (is_free vtoc) (range_with_len 0 560)) place free) at false
      at_place at below =
          get_or-map-range_with_len (is_free (dos_with_free vtoc place free)) 0 560 at at false below (omega arith)
          ∙ elim (cases_eq at place) [
            | inl same ↦
                ap (is_free (dos_with_free vtoc place free)) same ∙ marked_there free
                ∙ sym (ap (λ n. get_or (slice_set (map (is_free vtoc) (range_with_len 0 560)) place free) n false) same
                ∙ get_or-set_same (map (is_free vtoc) (range_with_len 0 560)) place free false (omega (arith, within, length-map-range_with_len (is_free vtoc) 0 560)))
            | inr differ ↦
                marked_elsewhere free at differ
                ∙ sym (get_or-set_other (map (is_free vtoc) (range_with_len 0 560)) place at free false differ
                ∙ get_or-map-range_with_len (is_free vtoc) 0 560 at at false below (omega arith))
          ]

-- the unit that has the mark of a place
pub map_place-dos : (place : ℕ) → place < 560 → slice_index (272 ∷ []) (place / 560) ≡ 272
map_place-dos place within = let first : place / 560 ≡ 0 = omega arith in ap (slice_index (272 ∷ [])) first

module _ (data_disk : Bool) (reserved : List Bool) (store : List (List ℕ)) (directory : Directory) (described : DescribesDos data_disk reserved store directory) where
  abbrev sectors : List ℕ
  sectors = described.sectors

  on : All IsOnTrack sectors
  on = sectors_on_track store 272 sectors described.catalog.last described.catalog.leads

  -- a place marked free or used
  module _ (place : ℕ) (free : Bool) (within : place < 560) (whole : length (unit_at store 272) ≡ 256) where
    abbrev vtoc_after : List ℕ
    vtoc_after = dos_with_free (unit_at store 272) place free

    abbrev after : List (List ℕ)
    after = slice_set store 272 vtoc_after

    vtoc_there : unit_at after 272 ≡ vtoc_after
    vtoc_there = get_or-set_same store 272 vtoc_after [] (omega (arith, described.size))

    byte_there : (byte : ℕ) → byte < 0x38 → slice_index (unit_at after 272) byte ≡ slice_index (unit_at store 272) byte
    byte_there byte before = ap (λ u. slice_index u byte) vtoc_there ∙ before_map (unit_at store 272) place free byte before

    geometry_after : HasGeometry (unit_at after 272)
    geometry_after = record {
      tracks = byte_there 0x34 (omega arith) ∙ described.geometry.tracks;
      sectors = byte_there 0x35 (omega arith) ∙ described.geometry.sectors;
      sector_low = byte_there 0x36 (omega arith) ∙ described.geometry.sector_low;
      sector_high = byte_there 0x37 (omega arith) ∙ described.geometry.sector_high;
    }

    links_after : HaveSameLinks store after
    links_after at near = elim (cases_eq at 272) [
      | inl same ↦ subst (λ p. (slice_index (unit_at after p) 1 ≡ slice_index (unit_at store p) 1) × (slice_index (unit_at after p) 2 ≡ slice_index (unit_at store p) 2)) (sym same)
          (byte_there 1 (omega arith), byte_there 2 (omega arith))
      | inr differ ↦ (ap (λ u. slice_index u 1) (get_or-set_other store 272 at vtoc_after [] differ), ap (λ u. slice_index u 2) (get_or-set_other store 272 at vtoc_after [] differ))
    ]

    entries_after : entries_in after sectors ≡ entries_in store sectors
    entries_after = entries_same store after sectors (λ k d inside. get_or-set_other store 272 (get_or sectors k d) vtoc_after [] (λ e. omega (arith, e, (on k d inside).0)))

    marked_at : DescribesDos data_disk reserved after (remapped directory place free)
    marked_at = record {
      size = length-set store 272 vtoc_after ∙ described.size;
      geometry = geometry_after;
      sectors = sectors;
      catalog = catalog_same store after links_after sectors described.catalog;
      says = ap (λ (d : Directory). remapped d place free) described.says
          ∙ sym (ap (dos_directory data_disk reserved (unit_at after 272)) entries_after
          ∙ ap (λ (number : ℕ). record directory_before { name = number ∷ []; free = dos_free (unit_at after 272) }) (byte_there 0x06 (omega arith))
          ∙ ap (λ (free' : List Bool). record directory_before { free = free' }) (ap dos_free vtoc_there ∙ free_after (unit_at store 272) place whole within free));
    }
      where
        directory_before : Directory
        directory_before = dos_directory data_disk reserved (unit_at store 272) (entries_in store described.sectors)

    pub remap_dos : DescribesDos data_disk reserved (slice_set store (map_place directory place) (dos_with_free (unit_at store (map_place directory place)) place free))
        (remapped directory place free)
    remap_dos = subst (λ p. DescribesDos data_disk reserved (slice_set store p (dos_with_free (unit_at store p) place free)) (remapped directory place free)) (sym here) marked_at
      where
        here : map_place directory place ≡ 272
        here = ap (λ (d : Directory). map_place d place) described.says ∙ map_place-dos place within

  -- track 17 is the system's
  second_true : (a b c d : Bool) → b ≡ true → (((a || b) || c) || d) ≡ true
  second_true true b c d is = refl
  second_true false true c d is = refl
  second_true false false c d is = absurd (cc)

  on_system_track : (place : ℕ) → (272 ≤ place) × (place < 288) → (place / 16 == 17) ≡ true
  on_system_track place near = by_test (place / 16 == 17) refl
    where
      by_test : (b : Bool) → (place / 16 == 17) ≡ b → (place / 16 == 17) ≡ true
      by_test true is = is
      by_test false is = let differ : place / 16 ≢ 17 = grind (arith, nat_tests) in absurd (differ (omega (arith, near.0, near.1)))

  pub track_inside : (place : ℕ) → (272 ≤ place) × (place < 288) → is_system directory place ≡ true
  track_inside place near =
      ap (λ (d : Directory). is_system d place) described.says
      ∙ system_at data_disk reserved (unit_at store 272) (entries_in store described.sectors) place (omega (arith, near.1))
      ∙ second_true (nat_lt place 16) (place / 16 == 17) (not data_disk && nat_lt place 48) (is_reserved reserved place) (on_system_track place near)

  -- a write outside the system
  pub outside_dos : (place : ℕ) (unit : List ℕ) → is_system directory place ≡ false → DescribesDos data_disk reserved (slice_set store place unit) directory
  outside_dos place unit outside = record {
    size = length-set store place unit ∙ described.size;
    geometry = subst HasGeometry (sym (kept 272 (omega arith, omega arith))) described.geometry;
    sectors = sectors;
    catalog = catalog_same store (slice_set store place unit) (λ at near. (ap (λ u. slice_index u 1) (kept at near), ap (λ u. slice_index u 2) (kept at near))) sectors described.catalog;
    says = described.says ∙ sym (
        ap (λ vtoc. dos_directory data_disk reserved vtoc (entries_in (slice_set store place unit) sectors)) (kept 272 (omega arith, omega arith))
        ∙ ap (dos_directory data_disk reserved (unit_at store 272)) (entries_same store (slice_set store place unit) sectors
        (λ k d inside. kept (get_or sectors k d) (omega (arith, (on k d inside).0), (on k d inside).1)))
        );
  }
    where
      kept : (at : ℕ) → (272 ≤ at) × (at < 288) → unit_at (slice_set store place unit) at ≡ unit_at store at
      kept at near = get_or-set_other store place at unit []
          (λ e. let system : is_system directory place ≡ true = subst (λ p. is_system directory p ≡ true) e (track_inside at near) in absurd (cc (outside, system)))
