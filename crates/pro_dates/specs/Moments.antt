-- The civil date and time that bytes name.
use Rattle.std.specs.Prelude.{ℕ, pos, ◌<◌, ◌≡◌, List}
use Rattle.jiff.specs.Words.{IsDate, IsTime, IsYmd, IsHms}
use Rattle.jiff_core.specs.declared.civil.datetime.DateTime.{DateTime}
use Rattle.pro_dates.specs.Dates.{year_bits, month_bits, day_bits, full_year, hour_byte, minute_byte}

-- the bytes name a civil date and time
pub record IsMoment (bytes : List ℕ) : Type 0 where
  pub year : year_bits bytes < 100
  pub date : IsDate (pos (full_year (year_bits bytes))) (pos (month_bits bytes)) (pos (day_bits bytes))
  pub time : IsTime (pos (hour_byte bytes)) (pos (minute_byte bytes)) (pos 0) (pos 0)

-- the date and time are those of the bytes
abbrev pub IsMomentOf : List ℕ → DateTime → Type 0
IsMomentOf bytes moment = IsYmd (pos (full_year (year_bits bytes))) (pos (month_bits bytes))
    (pos (day_bits bytes)) moment.date
    × IsHms (pos (hour_byte bytes)) (pos (minute_byte bytes)) (pos 0) (pos 0) moment.time

-- the date, the hour and the minute are those of the bytes
pub record IsMinuteOf (bytes : List ℕ) (moment : DateTime) : Type 0 where
  pub date : IsYmd (pos (full_year (year_bits bytes))) (pos (month_bits bytes)) (pos (day_bits bytes)) moment.date
  pub hour : hour_byte bytes ≡ moment.time.hour
  pub minute : minute_byte bytes ≡ moment.time.minute
