-- The date and the time of an entry, as a listing shows them (ProDOS 8 Technical Reference Manual, Appendix B).
use Rattle.std.specs.Prelude.{◌-◌, ◌^◌, ℕ, pos, nat_lt, nat_le, ◌&&◌, Bool, false, if◌then◌else◌, List, [], ◌∷◌, ◌++◌, Option, Some, None, codes, decimal}
use Rattle.std.specs.Fmt.{padded_integral, format_spec}
use Rattle.jiff_core.specs.Calendar.{days_in_month}
use Rattle.pro_dates.specs.Dates.{year_bits, month_bits, day_bits, full_year, hour_byte, minute_byte}
use Rattle.pro_dates.specs.declared.shown.Minute.{Minute}

-- a day of a month of a year
abbrev pub is_day : ℕ → ℕ → ℕ → Bool
is_day year month day = nat_le 1 month && nat_le month 12 && nat_le 1 day && nat_le day (days_in_month (pos year) month)

-- the bytes name a year from 1940 to 2039, a day that it has, and a minute that a clock shows
abbrev pub is_moment : List ℕ → Bool
is_moment bytes =
    nat_lt (year_bits bytes) 100 && is_day (full_year (year_bits bytes)) (month_bits bytes) (day_bits bytes)
    && nat_lt (hour_byte bytes) 24 && nat_lt (minute_byte bytes) 60

abbrev pub named_minute : List ℕ → Minute
named_minute bytes = record {
  year = full_year (year_bits bytes);
  month = month_bits bytes;
  day = day_bits bytes;
  hour = hour_byte bytes;
  minute = minute_byte bytes;
}

-- the minute that the bytes name, if they name one
abbrev pub minute_of : List ℕ → Option Minute
minute_of bytes = if is_moment bytes then Some (named_minute bytes) else None

-- a number with at least so many digits
abbrev pub digits : ℕ → ℕ → List ℕ
digits count n = padded_integral (format_spec 32 0 4 count (2 ^ 64 - 1)) false [] (decimal n)

-- YYYY-MM-DD HH:MM
abbrev pub minute_text : Minute → List ℕ
minute_text moment =
    digits 4 moment.year ++ 45 ∷ digits 2 moment.month ++ 45 ∷ digits 2 moment.day ++ 32 ∷ digits 2 moment.hour ++ 58
    ∷ digits 2 moment.minute

-- bytes that name no minute have these 16 characters
abbrev pub text_of_minute : Option Minute → List ℕ
text_of_minute (Some moment) = minute_text moment
text_of_minute None = codes "<NO DATE>       "

abbrev pub date_text : List ℕ → List ℕ
date_text bytes = text_of_minute (minute_of bytes)
