-- The count of files in the header of a ProDOS directory (ProDOS 8 Technical Reference Manual, Appendix B).
use Rattle.std.specs.Prelude.{ℕ, ◌+◌, ◌-◌, ◌==◌, min, if◌then◌else◌, List, [], ◌∷◌}
use Rattle.a2_device.specs.Device.{unit_at}
use Rattle.pro_dir.specs.Entry.{word}
use Rattle.pro_dir.specs.Writes.{with_bytes, word_bytes}
use Rattle.vol_laws.specs.Writes.{Write}
use Rattle.edit_formats.specs.declared.counting.FileCount.{FileCount}
use Rattle.edit_formats.specs.declared.counting.FileCount.TheVariants.{More, Less}

-- one file more, but not past 65,535, or one less, but not below 0
abbrev pub recounted : FileCount → ℕ → ℕ
recounted More files = min (files + 1) 65535
recounted Less files = files - 1

-- The header begins at 04 of the key block, and has the count at 21, which is at 25 of the block.
abbrev pub counting : FileCount → List ℕ → List ℕ
counting by unit = with_bytes 0x25 (word_bytes (recounted by (word unit 0x25))) unit

-- A block of a directory is written, and the count in the key block of that directory. Where both are one block they
-- are one write; else the count is the second.
abbrev pub counted_writes : FileCount → ℕ → List ℕ → ℕ → List (List ℕ) → List Write
counted_writes by place unit key store =
    if place == key
    then record { place = place; unit = counting by unit } ∷ []
    else (record { place = place; unit = unit } ∷ record { place = key; unit = counting by (unit_at store key) } ∷ [])
