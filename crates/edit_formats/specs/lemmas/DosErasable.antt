-- In DOS 3.3 the entry of a file is erased by one write to the catalog.
use Rattle.std.specs.Prelude.{◌≡◌, ◌≢◌, ◌<◌, ◌/◌, ℕ, Bool, List, [], ◌∷◌, length, slice_index}
use Rattle.std.proofs.Common.{sym, ap, subst, arith}
use Rattle.std.proofs.lemmas.List.Elements.{All-nil, All-cons}
use Rattle.vol_format.specs.Directory.{Directory, entries, entry_of, map_place}
use Rattle.dos_format.specs.Dos.{DescribesDos, dos_meaning}
use Rattle.dos_format.specs.lemmas.DosLaws.{dos_is_readable}
use Rattle.dos_format.specs.lemmas.DosMovable.{dos_is_movable}
use Rattle.dos_format.specs.lemmas.DosWritable.{entry_on_track}
use Rattle.vol_laws.specs.Entered.{HasSameRest}
use Rattle.dos_format.specs.Erasing.{HasErased}
use Rattle.dos_format.specs.Rewriting.{sector_of_entry}
use Rattle.dos_format.proofs.Erased.{file_erased}
use Rattle.vol_laws.specs.Writes.{Write, store_after}
use Rattle.edit_formats.specs.DosErasing.{dos_erasing, dos_erasures}
use Rattle.edit_formats.specs.Erasing.{IsErasing, IsErasable}
use Rattle.edit_formats.specs.lemmas.Fronts.{one_front}

module _ (data_disk : Bool) (reserved : List Bool) (store : List (List ℕ)) (directory : Directory) (file : ℕ)
    (described : DescribesDos data_disk reserved store directory) (inside : file < entries directory) where
  -- the VTOC has all marks
  one_map : (place : ℕ) → place < directory.places → map_place directory place ≡ 272
  one_map place = subst (λ (d : Directory). place < d.places → map_place d place ≡ 272) (sym described.says) (λ below.
      ap (slice_index (272 ∷ [])) (first place below))
    where
      first : (p : ℕ) → p < 560 → p / 560 ≡ 0
      first p low = omega (arith, low)

  pub entry_erased : length (sector_of_entry directory store file) ≡ 256 → IsErasing (dos_meaning data_disk reserved) directory file store (dos_erasing directory file store)
  entry_erased whole =
      let erased : HasErased data_disk reserved directory file store (store_after (dos_erasing directory file store) store) =
      file_erased data_disk reserved store directory described.sectors described described.catalog file inside whole in
      let track = entry_on_track data_disk reserved store directory described file inside in
      record {
        few = erased.few;
        takes = erased.places;
        within = erased.within;
        is = erased.is;
        erases = omega arith;
        described = one_front (λ (s : List (List ℕ)). DescribesDos data_disk reserved s erased.few) store (get_write (dos_erasing directory file store)) erased.described;
        rest = one_front (HasSameRest erased.few store) store (get_write (dos_erasing directory file store)) erased.rest;
        apart = λ place below. All-cons (λ (write : Write). write.place ≢ map_place directory place) (get_write (dos_erasing directory file store)) []
            (λ same. omega (arith, track.0, same, one_map place below)) (All-nil (λ (write : Write). write.place ≢ map_place directory place));
      }
    where
      get_write : List Write → Write
      get_write (write ∷ writes) = write
      get_write [] = record { place = 0; unit = [] }

pub dos_is_erasable : (data_disk : Bool) (reserved : List Bool) → IsErasable (dos_meaning data_disk reserved) dos_erasures
dos_is_erasable data_disk reserved = record {
  erasing = λ store directory file writes described inside is_file whole erases.
      let below = ((dos_is_movable data_disk reserved).described store directory described).entry_below file inside in
      let all = (dos_is_readable data_disk reserved).all_places store directory described in
      subst (IsErasing (dos_meaning data_disk reserved) directory file store) (sym erases)
      (entry_erased data_disk reserved store directory file described inside (whole (entry_of directory file).place (omega (arith, below, all))));
}
