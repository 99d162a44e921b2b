-- What is shown of a DOS 3.3 volume is what its VTOC and its catalog say.
use Rattle.std.specs.Prelude.{◌≡◌, ℕ, ◌+◌, ◌*◌, ◌%◌, nat_le, Bool, false, List, [], ◌∷◌, map, take, drop, slice_index, count_by}
use Rattle.std.specs.List.{range_with_len}
use Rattle.std.proofs.Common.{refl, sym, ◌∙◌, ap, cond}
use Rattle.std.proofs.lemmas.List.{get_or-drop}
use Rattle.std.proofs.lemmas.List.Sums.{sum_by-cons}
use Rattle.dos_vtoc.specs.Vtoc.{is_free, free_count_of}
use Rattle.dos_catalog.specs.declared.entry.Entry.{Entry}
use Rattle.dos_format.specs.Dos.{dos_directory, dos_entry, dos_free, numbered}
use Rattle.file_formats.specs.declared.listing.ListEntry.{ListEntry}
use Rattle.file_formats.specs.Catalog.{list_entry}
use Rattle.file_formats.specs.DosFiles.{dos_shown, no_date}
use Rattle.file_formats.specs.Listing.{free_count}

-- what is shown of an entry
pub list_entry-dos : {A : Type 0} (file : ℕ) (entry : Entry) → list_entry {A = A} entry ≡ dos_shown (dos_entry file entry)
list_entry-dos {A} file entry =
    ap (λ kind. shown_of kind (slice_index entry.bytes 0x21) (slice_index entry.bytes 0x22)) (sym (get_or-drop 2 entry.bytes 0 0))
    ∙ ap (λ low. shown_of (slice_index (drop 2 entry.bytes) 0) low (slice_index entry.bytes 0x22)) (sym (get_or-drop 2 entry.bytes 0x1f 0))
    ∙ ap (shown_of (slice_index (drop 2 entry.bytes) 0) (slice_index (drop 2 entry.bytes) 0x1f)) (sym (get_or-drop 2 entry.bytes 0x20 0))
  where
    shown_of : ℕ → ℕ → ℕ → ListEntry A
    shown_of kind low high = record {
      locked = nat_le 0x80 kind;
      kind = kind % 0x80;
      size = low + 256 * high;
      eof = 0;
      access = 0;
      aux = 0;
      created = no_date;
      modified = no_date;
      directory = false;
      path = take 30 (drop 3 entry.bytes);
    }

pub shown_numbered : {A : Type 0} (file : ℕ) (entries : List Entry) → map (λ entry. dos_shown {A = A} entry) (numbered file entries) ≡ map (list_entry {A = A}) entries
shown_numbered file [] = refl
shown_numbered {A} file (entry ∷ entries) =
    ap (λ (shown : ListEntry A). shown ∷ map dos_shown (numbered (file + 1) entries)) (sym (list_entry-dos file entry))
    ∙ ap (λ (later : List (ListEntry A)). list_entry entry ∷ later) (shown_numbered (file + 1) entries)

-- the free places
pub free_count-dos : (data_disk : Bool) (reserved : List Bool) (vtoc : List ℕ) (all : List Entry) → free_count_of vtoc ≡ free_count (dos_directory data_disk reserved vtoc all)
unfolding dos_free free_count_of
free_count-dos data_disk reserved vtoc all = count_of_map (range_with_len 0 560)
  where
    count_of_map : (places : List ℕ) → count_by (is_free vtoc) places ≡ count_by (λ (free : Bool). free) (map (is_free vtoc) places)
    count_of_map [] = refl
    count_of_map (place ∷ places) =
        sum_by-cons (λ p. cond (is_free vtoc p) 1 0) place places
        ∙ ap (λ n. cond (is_free vtoc place) 1 0 + n) (count_of_map places)
        ∙ sym (sum_by-cons (λ (free : Bool). cond free 1 0) (is_free vtoc place) (map (is_free vtoc) places))
