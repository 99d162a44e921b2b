-- The bytes of a date and a time (ProDOS 8 Technical Reference Manual, Appendix B).
use Rattle.std.specs.Prelude.{ℕ, ◌+◌, ◌/◌, ◌%◌, nat_lt, if◌then◌else◌, List, slice_index}
use Rattle.pro_dir.specs.Entry.{word}

-- The first word: the year in bits 15 to 9, the month in bits 8 to 5, the day in bits 4 to 0.
abbrev pub year_bits : List ℕ → ℕ
year_bits bytes = word bytes 0 / 512

abbrev pub month_bits : List ℕ → ℕ
month_bits bytes = word bytes 0 / 32 % 16

abbrev pub day_bits : List ℕ → ℕ
day_bits bytes = word bytes 0 % 32

-- 40 to 99 are 1940 to 1999, and 0 to 39 are 2000 to 2039
abbrev pub full_year : ℕ → ℕ
full_year year = if nat_lt year 40 then 2000 + year else 1900 + year

-- of the second word the high byte is the hour, the low byte the minute
abbrev pub hour_byte : List ℕ → ℕ
hour_byte bytes = slice_index bytes 3

abbrev pub minute_byte : List ℕ → ℕ
minute_byte bytes = slice_index bytes 2
