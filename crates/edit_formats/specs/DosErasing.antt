-- The one write that erases an entry of a DOS 3.3 catalog (Beneath Apple DOS, chapter 4).
use Rattle.std.specs.Prelude.{◌≡◌, ℕ, nat_le, List, [], ◌∷◌, slice_index}
use Rattle.vol_format.specs.Directory.{Directory}
use Rattle.dos_catalog.specs.Writes.{erased}
use Rattle.dos_format.specs.Rewriting.{place_of_entry, slot_of_entry, sector_of_entry}
use Rattle.vol_laws.specs.Writes.{Write}
use Rattle.edit_formats.specs.Erasing.{EraseMeaning}

-- its track goes into the last byte of its name, and FF comes in its place
abbrev pub dos_erasing : Directory → ℕ → List (List ℕ) → List Write
dos_erasing directory file store = record {
  place = place_of_entry directory file;
  unit = erased (slot_of_entry directory file) (sector_of_entry directory store file);
} ∷ []

-- A file that is locked is not deleted: the bit 80 of its kind is on, which is the first of its entry's bytes.
abbrev pub dos_erasures : EraseMeaning
dos_erasures = record {
  protects = λ bytes. nat_le 0x80 (slice_index bytes 0);
  Erases = λ store directory file writes. writes ≡ dos_erasing directory file store;
}
