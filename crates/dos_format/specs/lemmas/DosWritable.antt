-- The laws of DOS 3.3 that writes to the system's units ask for.
use Rattle.std.specs.Prelude.{◌≡◌, ◌<◌, ℕ, true, Bool, List, length}
use Rattle.std.proofs.Common.{sym, ◌∙◌, ap, arith, subst}
use Rattle.a2_device.specs.Device.{unit_at}
use Rattle.dos_catalog.specs.Entry.{entries_in}
use Rattle.dos_catalog.specs.Writes.{slot_offset}
use Rattle.vol_format.specs.Directory.{Directory, Listed, entries, entry_of, is_system, map_place}
use Rattle.vol_format.specs.Laws.{IsWritable}
use Rattle.dos_format.specs.Dos.{DescribesDos, dos_meaning}
use Rattle.dos_format.specs.lemmas.DosBytes.{length-with_place}
use Rattle.dos_format.specs.lemmas.DosDirectory.{length-numbered, entry_of-dos, no_list}
use Rattle.dos_format.specs.lemmas.DosEntries.{on_track}
use Rattle.dos_format.specs.lemmas.DosMarks.{length-dos_free, length-with_free, map_place-dos, track_inside, remap_dos}
use Rattle.dos_format.specs.lemmas.DosRoots.{turn_dos}
use Rattle.dos_format.specs.lemmas.DosSystemContents.{root_content, mark_content, frame_content-dos}

module _ (data_disk : Bool) (reserved : List Bool) (store : List (List ℕ)) (directory : Directory) (described : DescribesDos data_disk reserved store directory) where
  places_is : directory.places ≡ 560
  places_is = ap (λ (d : Directory). d.places) described.says

  -- an entry stands on the catalog's track, behind the VTOC
  pub entry_on_track : (file : ℕ) → file < entries directory → (272 < (entry_of directory file).place) × ((entry_of directory file).place < 288)
  entry_on_track file = subst (λ (d : Directory). file < entries d → (272 < (entry_of d file).place) × ((entry_of d file).place < 288)) (sym described.says) (λ within.
      let inside : file < length (entries_in store described.sectors) = omega (arith, within, length-numbered 0 (entries_in store described.sectors)) in
      subst (λ (e : Listed). (272 < e.place) × (e.place < 288)) (sym (entry_of-dos data_disk reserved (unit_at store 272) (entries_in store described.sectors) file no_list inside))
      ((on_track store described.sectors described.catalog).places file no_list inside))

  map_place_is : (place : ℕ) → place < directory.places → map_place directory place ≡ 272
  map_place_is place within = ap (λ (d : Directory). map_place d place) described.says ∙ map_place-dos place (omega (arith, within, places_is))

pub dos_is_writable : (data_disk : Bool) (reserved : List Bool) → IsWritable (dos_meaning data_disk reserved)
dos_is_writable data_disk reserved = record {
  entry_inside = λ store directory file described inside.
      let on = entry_on_track data_disk reserved store directory described file inside in
      track_inside data_disk reserved store directory described (entry_of directory file).place (omega (arith, on.0), on.1);
  marks = λ store directory described.
      ap (λ (d : Directory). length d.free) described.says ∙ length-dos_free (unit_at store 272) ∙ sym (places_is data_disk reserved store directory described);
  map_inside = λ store directory place described inside.
      subst (λ p. is_system directory p ≡ true) (sym (map_place_is data_disk reserved store directory described place inside))
      (track_inside data_disk reserved store directory described 272 (omega arith, omega arith));
  turn = λ store directory file place part described inside root named whole. turn_dos data_disk reserved store directory file place part described inside root named whole;
  remap = λ store directory place free described inside whole.
      remap_dos data_disk reserved store directory described place free (omega (arith, inside, places_is data_disk reserved store directory described))
      (subst (λ p. length (unit_at store p) ≡ 256) (map_place_is data_disk reserved store directory described place inside) whole);
  root_length = λ unit slot place. length-with_place (slot_offset slot) place unit;
  free_length = λ unit place free. length-with_free unit place free;
  turn_content = λ store directory file place part unit described inside root whole.
      root_content directory file place unit inside (λ e. omega (arith, e, (entry_on_track data_disk reserved store directory described file inside).0));
  remap_content = λ store directory place free unit described has whole. mark_content data_disk reserved store directory place free unit described has whole;
  frame_content = λ before after place unit same. frame_content-dos before after place unit same;
}
