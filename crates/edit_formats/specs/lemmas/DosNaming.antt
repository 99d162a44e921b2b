-- In DOS 3.3 a name is written into the entry of a file alone.
use Rattle.std.specs.Prelude.{◌≡◌, ◌≤◌, ◌+◌, ◌-◌, ◌==◌, ◌&&◌, not, ℕ, nat_le, Bool, true, false, List, length, map, replicate, slice_index, bit_or}
use Rattle.std.specs.List.{list_all}
use Rattle.std.proofs.Common.{refl, arith, length-append}
use Rattle.std.proofs.lemmas.Bool.{leb-true}
use Rattle.std.proofs.lemmas.List.{length-map, length-replicate}
use Rattle.dos_catalog.specs.Writes.{slot_offset}
use Rattle.dos_format.specs.Dos.{dos_meaning}
use Rattle.dos_format.proofs.Rewrites.{name_rewrites}
use Rattle.dos_format.proofs.Windows.{length-with_bytes}
use Rattle.file_formats.specs.DosFiles.{dos_name}
use Rattle.edit_formats.specs.Names.{IsNamable}
use Rattle.edit_formats.specs.DosNames.{dos_names, is_dos_name, is_first_byte, is_name_byte}

second_of_five : (a b c d e : Bool) → (a && b && c && d && e) ≡ true → b ≡ true
second_of_five true true c d e is = refl
second_of_five true false c d e is = absurd (cc)
second_of_five false b c d e is = absurd (cc)

-- a name that a file may get has at most 30 bytes, and 30 as it is stored
pub short_name : (new : List ℕ) → is_dos_name new ≡ true → length new ≤ 30
short_name new is =
    leb-true (length new) 30 (second_of_five (nat_le 1 (length new)) (nat_le (length new) 30) (is_first_byte (slice_index new 0))
    (not (slice_index new (length new - 1) == 0x20)) (list_all is_name_byte new) is)

pub length-dos_name : (new : List ℕ) → is_dos_name new ≡ true → length (dos_name new) ≡ 30
length-dos_name new is =
    omega (
      arith,
      length-append (map (λ byte. bit_or byte 0x80) new) (replicate (30 - length new) 0xa0),
      length-map new (λ byte. bit_or byte 0x80),
      length-replicate {A = ℕ} (30 - length new) 0xa0,
      short_name new is,
    )

pub dos_is_namable : (data_disk : Bool) (reserved : List Bool) → IsNamable (dos_meaning data_disk reserved) dos_names
dos_is_namable data_disk reserved = record {
  name_length = λ new entry unit may slot whole.
      length-with_bytes unit (slot_offset entry.slot + 0x03) (dos_name new) (omega (arith, length-dos_name new may, slot, whole));
  rename = λ store directory file new may described inside is_file whole.
      name_rewrites (dos_name new) (length-dos_name new may) data_disk reserved store directory file described inside whole;
}
