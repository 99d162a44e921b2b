-- The writes of a deletion, from those that erase the entry and those that mark the places of the file free.
use Rattle.std.specs.Prelude.{◌≡◌, ◌≢◌, ◌<◌, ℕ, true, List, map, slice_index_or, All, IsTrue}
use Rattle.std.proofs.Common.{refl, sym, ◌∙◌, ap, subst}
use Rattle.std.proofs.lemmas.List.Elements.{All-contains}
use Rattle.a2_device.specs.Device.{DeviceState}
use Rattle.vol_format.specs.Directory.{Directory, map_place}
use Rattle.vol_format.specs.Laws.{IsReadable}
use Rattle.vol_format.specs.Meaning.{Meaning}
use Rattle.vol_laws.specs.Deletion.{IsOwnPlace, IsDeletion}
use Rattle.vol_laws.specs.Markings.{Marking}
use Rattle.vol_laws.specs.Writes.{Write}
use Rattle.edit_formats.specs.declared.writes.Prepared.{Prepared}
use Rattle.edit_formats.specs.Prepared.{write_of}
use Rattle.edit_formats.specs.Deleted.{HasPlacesOf}
use Rattle.edit_formats.specs.Erasing.{IsErasing}
use Rattle.edit_formats.specs.Markings.{marked_in, HasMarkOf, AreMarked}
use Rattle.edit_formats.proofs.MarkingWrites.{markings, markings_are, markings_rising, of_markings, marked_here, marking_each, marking_some}

module _ {A : Type 0} (format : Meaning) (laws : IsReadable format) (directory : Directory) (file : ℕ) (places : List ℕ) (old : DeviceState) (start writes : List (Prepared A))
    (honest : IsTrue old.honest) (erasing : IsErasing format directory file old.store (map write_of start))
    (all : AreMarked format true directory places old start writes) (own : HasPlacesOf format directory file old.store places) where
  same_map : (place : ℕ) → map_place directory place ≡ map_place erasing.few place
  same_map place = ap (λ (d : Directory). map_place d place) erasing.is

  same_places : directory.places ≡ erasing.few.places
  same_places = ap (λ (d : Directory). d.places) erasing.is

  own_places : (at : ℕ) → All (IsOwnPlace format directory erasing.few file old.store at) (marked_in directory at places)
  own_places at i d within =
      let place = slice_index_or (marked_in directory at places) i d in
      let here = marked_here format true directory places old start writes honest all at i d within in
      record {
        inside = subst (λ n. place < n) same_places (All-contains (λ p. p < directory.places) places place own.inside here.0);
        here = sym (same_map place) ∙ here.1;
        own = (own.are place).0 here.0;
      }

  apart_of : (at : ℕ) → HasMarkOf directory places at → All (λ (write : Write). write.place ≢ at) (map write_of start)
  apart_of at has = subst (λ n. All (λ (write : Write). write.place ≢ n) (map write_of start)) has.2
      (erasing.apart has.0 (All-contains (λ p. p < directory.places) places has.0 own.inside has.1))

  -- those to the directory are the ones that erase the entry
  pub whole_delete : (deletion : IsDeletion format directory file old.store (map write_of writes)) × (deletion.system ≡ map write_of start)
  whole_delete = (
    record {
      few = erasing.few;
      takes = erasing.takes;
      within = erasing.within;
      is = erasing.is;
      system = map write_of start;
      erases = erasing.erases;
      described = erasing.described;
      rest = erasing.rest;
      releases = markings format true directory places old start writes honest all;
      are = markings_are format true directory places old start writes honest all;
      inside = of_markings format true directory places old start writes honest all (λ (m : Marking). m.at < erasing.few.places)
          (λ i d within. subst (λ n. (slice_index_or all.1.marked i d).place < n) same_places (all.1.inside i d within));
      rising = markings_rising format true directory places old start writes honest all;
      apart = of_markings format true directory places old start writes honest all (λ (m : Marking). All (λ (write : Write). write.place ≢ m.at) (map write_of start))
          (λ i d within. apart_of (slice_index_or all.1.marked i d).place (all.1.own i d within));
      own = of_markings format true directory places old start writes honest all (λ (m : Marking). All (IsOwnPlace format directory erasing.few file old.store m.at) m.places)
          (λ i d within. own_places (slice_index_or all.1.marked i d).place);
      some = marking_some format true directory places old start writes honest all;
      each = λ part mine. marking_each format true directory places old start writes honest all part.place ((own.are part.place).1 (part, mine, refl));
    },
    refl,
  )
