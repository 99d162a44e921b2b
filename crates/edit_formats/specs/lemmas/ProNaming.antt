-- In ProDOS a name is written into the entry of a file alone.
use Rattle.std.specs.Prelude.{◌≡◌, ◌≤◌, ◌+◌, ◌-◌, ◌*◌, ◌/◌, ◌&&◌, ℕ, nat_le, Bool, true, false, List, length, take, replicate, slice_index, slice_set}
use Rattle.std.specs.List.{list_all}
use Rattle.std.specs.Char.{to_ascii_uppercase}
use Rattle.std.proofs.Common.{refl, ◌∙◌, ap, subst, arith, length-append}
use Rattle.std.proofs.lemmas.Bool.{leb-true}
use Rattle.std.proofs.lemmas.List.{length-map, length-replicate, length-set, take_at}
use Rattle.pro_dir.specs.Entry.{name_of}
use Rattle.pro_dir.specs.Paths.{folded}
use Rattle.pro_dir.specs.Writes.{slot_offset, padded}
use Rattle.vol_format.specs.Directory.{entry_of}
use Rattle.pro_format.specs.Pro.{pro_meaning, DescribesPro}
use Rattle.vol_laws.specs.Inserted.{rewritten}
use Rattle.pro_format.specs.Rewritten.{renamed, with_name}
use Rattle.pro_format.proofs.Bytes.{length-with_bytes}
use Rattle.pro_format.proofs.Names.{is_renaming}
use Rattle.pro_format.proofs.Rewrites.{entry_rewritten}
use Rattle.edit_formats.specs.Names.{IsNamable, name_written}
use Rattle.edit_formats.specs.ProNames.{pro_names, pro_name, is_pro_name, is_letter, is_name_byte}

second_of_four : (a b c d : Bool) → (a && b && c && d) ≡ true → b ≡ true
second_of_four true true c d is = refl
second_of_four true false c d is = absurd (cc)
second_of_four false b c d is = absurd (cc)

-- a name that a file may get has at most 15 bytes, and 15 as it is stored
pub short_name : (new : List ℕ) → is_pro_name new ≡ true → length new ≤ 15
short_name new is =
    leb-true (length new) 15 (second_of_four (nat_le 1 (length new)) (nat_le (length new) 15) (is_letter (slice_index new 0)) (list_all is_name_byte new) is)

length-folded : (new : List ℕ) → length (folded new) ≡ length new
length-folded new = length-map new to_ascii_uppercase

pub length-pro_name : (new : List ℕ) → is_pro_name new ≡ true → length (pro_name new) ≡ 15
length-pro_name new is =
    omega (arith, length-append (folded new) (replicate (15 - length new) 0), length-folded new, length-replicate {A = ℕ} (15 - length new) 0, short_name new is)

-- the bytes of the name before the 00 behind it
pub front_of_name : (new : List ℕ) → take (length new) (pro_name new) ≡ folded new
front_of_name new = take_at (folded new) (replicate (15 - length new) 0) (length new) (length-folded new)

length-padded : (new : List ℕ) → is_pro_name new ≡ true → length (padded (length new) (pro_name new)) ≡ 15
length-padded new is =
    omega (
      arith,
      length-append (take (length new) (pro_name new)) (replicate (15 - length new) 0),
      ap length (front_of_name new),
      length-folded new,
      length-replicate {A = ℕ} (15 - length new) 0,
      short_name new is,
    )

pub pro_is_namable : (reserved : List Bool) → IsNamable (pro_meaning reserved) pro_names
pro_is_namable reserved = record {
  name_length = λ new entry unit may slot whole.
      let at = slot_offset entry.slot in
      let first = slice_set unit at (slice_index unit at / 16 * 16 + length new) in
      let size : length first ≡ length unit = length-set unit at (slice_index unit at / 16 * 16 + length new) in
      length-with_bytes first (at + 1) (padded (length new) (pro_name new)) (omega (arith, length-padded new may, slot, whole, size)) ∙ size;
  rename = λ store directory file new may described inside is_file whole.
      let entry = entry_of directory file in
      subst (λ name. DescribesPro reserved (name_written pro_names directory store file new)
      (rewritten directory file (renamed entry.path (name_of entry.bytes) name) (with_name 0 (length new) (pro_name new) entry.bytes))) (front_of_name new)
      (entry_rewritten (λ at unit. with_name at (length new) (pro_name new) unit) (λ path bytes. renamed path (name_of bytes) (take (length new) (pro_name new)))
      (λ bytes. with_name 0 (length new) (pro_name new) bytes)
      (is_renaming (length new) (pro_name new) (short_name new may) (length-pro_name new may)) reserved store directory described file inside is_file whole);
}
