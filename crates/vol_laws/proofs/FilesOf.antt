-- The file of an entry: by its number and by what the entry points to; in a store with the same units of it; and under another number.
use Rattle.std.specs.Prelude.{◌≡◌, ◌<◌, ℕ, not, List, length, All}
use Rattle.std.specs.List.{AllZip, range_with_len}
use Rattle.std.proofs.Common.{sym, ◌∙◌, ap, subst, arith}
use Rattle.std.proofs.lemmas.List.Elements.{All-filter}
use Rattle.std.proofs.lemmas.List.FromFn.{get_or-range_with_len, length-range_with_len}
use Rattle.a2_device.specs.Device.{unit_at}
use Rattle.a2_device.specs.declared.part.Part.{Part}
use Rattle.vol_format.specs.Directory.{Directory, Listed, entries, entry_of, root_of, is_directory, files}
use Rattle.vol_format.specs.Laws.{IsReadable}
use Rattle.vol_format.specs.Meaning.{Meaning}
use Rattle.vol_format.specs.Files.{Stored, File, IsStored, IsFile, IsFiles, file_numbers}
use Rattle.vol_format.proofs.Entries.{numbers_are}
use Rattle.vol_laws.specs.EditLaws.{IsFileFree}
use Rattle.vol_laws.specs.FilesOf.{HasUnit, IsFileOf}
use Rattle.vol_laws.specs.Inserted.{in_file, refiled}
use Rattle.vol_laws.specs.PartsOf.{PartOf}
use Rattle.vol_laws.proofs.Parts.{reach_of, of_reach, file_of_part, part_stays, part_was, part_refiled, refiled_was}
use Rattle.vol_laws.proofs.Renumbered.{FilesOwn}
use Rattle.vol_laws.proofs.Zipped.{zipped_where, zipped_of_map, map_of_zipped}

module _ (format : Meaning) (laws : IsReadable format) (directory : Directory) (store : List (List ℕ)) (own : FilesOwn directory) where
  module _ (entry : ℕ) (inside : entry < entries directory) where
    unit_of_number : (stored : Stored) → IsStored format directory store entry stored → HasUnit format store (root_of directory entry) stored
    unit_of_number stored is =
        let of = of_reach format directory store is.part is.reached in
        let number : of.0 ≡ entry = sym (file_of_part format laws store (root_of directory of.0) of.0 (own of.0) is.part of.2) ∙ is.in_file in
        record {
          part = is.part;
          reached = subst (λ n. PartOf format store (root_of directory n) is.part) number of.2;
          of_body = is.of_body;
          numbered = is.numbered;
          stands = is.stands;
        }

    number_of_unit : (stored : Stored) → HasUnit format store (root_of directory entry) stored → IsStored format directory store entry stored
    number_of_unit stored has = record {
      part = has.part;
      reached = reach_of format directory store entry has.part inside has.reached;
      in_file = file_of_part format laws store (root_of directory entry) entry (own entry) has.part has.reached;
      of_body = has.of_body;
      numbered = has.numbered;
      stands = has.stands;
    }

    pub file_of_number : (file : File) → IsFile format directory store entry file → IsFileOf format store (entry_of directory entry) file
    file_of_number file is = record {
      path = is.path;
      bytes = is.bytes;
      members = λ stored. (λ has. unit_of_number stored ((is.members stored).0 has), λ has. (is.members stored).1 (number_of_unit stored has));
      rising = is.rising;
    }

    pub number_of_file : (file : File) → IsFileOf format store (entry_of directory entry) file → IsFile format directory store entry file
    number_of_file file is = record {
      path = is.path;
      bytes = is.bytes;
      members = λ stored. (λ has. number_of_unit stored ((is.members stored).0 has), λ has. (is.members stored).1 (unit_of_number stored has));
      rising = is.rising;
    }

  numbers_inside : All (λ entry. entry < entries directory) (file_numbers directory)
  numbers_inside = All-filter (λ entry. not (is_directory (entry_of directory entry))) (λ entry. entry < entries directory) (range_with_len 0 (entries directory))
      (λ k d within.
      let inside : k < entries directory = omega (arith, within, length-range_with_len 0 (entries directory)) in
      omega (arith, inside, get_or-range_with_len 0 (entries directory) k d inside))

  -- the list of the files of a volume, by the entries that are files'
  pub by_entries : (all : List File) → IsFiles format directory store all → AllZip (IsFileOf format store) (files directory) all
  by_entries all are =
      subst (λ l. AllZip (IsFileOf format store) l all) (numbers_are directory)
      (map_of_zipped (entry_of directory) (IsFileOf format store) (file_numbers directory) all
      (zipped_where (λ entry. entry < entries directory) (IsFile format directory store) (λ entry. IsFileOf format store (entry_of directory entry))
      (λ entry file inside is. file_of_number entry inside file is) (file_numbers directory) all numbers_inside are))

  pub by_numbers : (all : List File) → AllZip (IsFileOf format store) (files directory) all → IsFiles format directory store all
  by_numbers all are =
      zipped_where (λ entry. entry < entries directory) (λ entry. IsFileOf format store (entry_of directory entry)) (IsFile format directory store)
      (λ entry file inside is. number_of_file entry inside file is) (file_numbers directory) all numbers_inside
      (zipped_of_map (entry_of directory) (IsFileOf format store) (file_numbers directory) all
      (subst (λ l. AllZip (IsFileOf format store) l all) (sym (numbers_are directory)) are))

-- in a store with the same units of the file
module _ (format : Meaning) (old new : List (List ℕ)) (size : length new ≡ length old) (entry : Listed)
    (units : (part : Part) → PartOf format old entry.root part → unit_at new part.place ≡ unit_at old part.place) where
  unit_stays : (stored : Stored) → HasUnit format old entry.root stored → HasUnit format new entry.root stored
  unit_stays stored has = record {
    part = has.part;
    reached = part_stays format old new size entry.root units has.part has.reached;
    of_body = has.of_body;
    numbered = has.numbered;
    stands = units has.part has.reached ∙ has.stands;
  }

  unit_was : (stored : Stored) → HasUnit format new entry.root stored → HasUnit format old entry.root stored
  unit_was stored has =
      let was = part_was format old new size entry.root units has.part has.reached in
      record {
        part = has.part;
        reached = was;
        of_body = has.of_body;
        numbered = has.numbered;
        stands = sym (units has.part was) ∙ has.stands;
      }

  pub file_stays : (file : File) → IsFileOf format old entry file → IsFileOf format new entry file
  file_stays file is = record {
    path = is.path;
    bytes = is.bytes;
    members = λ stored. (λ has. unit_stays stored ((is.members stored).0 has), λ has. (is.members stored).1 (unit_was stored has));
    rising = is.rising;
  }

  pub file_was : (file : File) → IsFileOf format new entry file → IsFileOf format old entry file
  file_was file is = record {
    path = is.path;
    bytes = is.bytes;
    members = λ stored. (λ has. unit_was stored ((is.members stored).0 has), λ has. (is.members stored).1 (unit_stays stored has));
    rising = is.rising;
  }

-- under another number
module _ (format : Meaning) (free : IsFileFree format) (store : List (List ℕ)) (number : ℕ) (entry : Listed) where
  unit_goes : (stored : Stored) → HasUnit format store entry.root stored → HasUnit format store (refiled number entry.root) stored
  unit_goes stored has = record {
    part = in_file has.part number;
    reached = part_refiled format free store number entry.root has.part has.reached;
    of_body = has.of_body;
    numbered = has.numbered;
    stands = has.stands;
  }

  unit_came : (stored : Stored) → HasUnit format store (refiled number entry.root) stored → HasUnit format store entry.root stored
  unit_came stored has =
      let was = refiled_was format free store number entry.root has.part has.reached in
      record {
        part = was.0;
        reached = was.1;
        of_body = sym (ap (λ (p : Part). p.kind) was.2) ∙ has.of_body;
        numbered = sym (ap (λ (p : Part). p.number) was.2) ∙ has.numbered;
        stands = sym (ap (λ (p : Part). unit_at store p.place) was.2) ∙ has.stands;
      }

  pub file_goes : (file : File) → IsFileOf format store entry file → IsFileOf format store (record entry { root = refiled number entry.root }) file
  file_goes file is = record {
    path = is.path;
    bytes = is.bytes;
    members = λ stored. (λ has. unit_goes stored ((is.members stored).0 has), λ has. (is.members stored).1 (unit_came stored has));
    rising = is.rising;
  }

  pub file_came : (file : File) → IsFileOf format store (record entry { root = refiled number entry.root }) file → IsFileOf format store entry file
  file_came file is = record {
    path = is.path;
    bytes = is.bytes;
    members = λ stored. (λ has. unit_came stored ((is.members stored).0 has), λ has. (is.members stored).1 (unit_goes stored has));
    rising = is.rising;
  }
