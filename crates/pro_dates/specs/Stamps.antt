-- The date and the time of an entry, as data has them.
use Rattle.std.specs.Prelude.{◌<◌, ℕ, ◌+◌, ◌/◌, ◌%◌, List, [], ◌∷◌, ◌++◌}
use Rattle.pro_dates.specs.declared.shown.Minute.{Minute}

-- a number below 100 as its two digits
abbrev pub two_digits : ℕ → List ℕ
two_digits n = (48 + n / 10) ∷ (48 + n % 10) ∷ []

-- YYYY-MM-DDTHH:MM
abbrev pub stamp_bytes : Minute → List ℕ
stamp_bytes moment =
    two_digits (moment.year / 100) ++ two_digits (moment.year % 100) ++ 45 ∷ two_digits moment.month ++ 45
    ∷ two_digits moment.day
    ++ 84 ∷ two_digits moment.hour ++ 58 ∷ two_digits moment.minute

-- a year of four digits, and the rest of two
pub record HasDigits (moment : Minute) : Type 0 where
  pub year : moment.year < 10000
  pub month : moment.month < 100
  pub day : moment.day < 100
  pub hour : moment.hour < 100
  pub minute : moment.minute < 100
