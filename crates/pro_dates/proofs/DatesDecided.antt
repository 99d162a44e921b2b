-- The test of a date and a time tells what the calendar and the clock say.
use Rattle.std.specs.Prelude.{◌≡◌, ◌↔◌, ◌<◌, ◌≤◌, ℕ, pos, nat_lt, nat_le, ◌&&◌, Bool, true, List}
use Rattle.std.proofs.Common.{arith}
use Rattle.std.proofs.lemmas.Bool.{and_from, and_parts, leb-true, le-leb, ltb-true, lt-ltb}
use Rattle.std.proofs.lemmas.Bool.Decides.{nat_tests}
use Rattle.std.proofs.lemmas.Int.{ints}
use Rattle.jiff.specs.Words.{IsDate, IsTime, IsYear, days_in_month}
use Rattle.pro_dates.specs.Dates.{year_bits, month_bits, day_bits, full_year, hour_byte, minute_byte}
use Rattle.pro_dates.specs.Moments.{IsMoment}
use Rattle.pro_dates.specs.ShownDates.{is_day, is_moment}

pub below_10000 : (year : ℕ) → year < 100 → full_year year < 10000
below_10000 year low = grind (arith, nat_tests)

is_year : (year : ℕ) → year < 100 → IsYear (pos (full_year year))
is_year year low = let small = below_10000 year low in (omega (arith, ints, small), omega (arith, ints, small))

date_named : (year month day : ℕ) → year < 100 → is_day (full_year year) month day ≡ true → IsDate (pos (full_year year)) (pos month) (pos day)
date_named year month day low test =
    let last = days_in_month (pos (full_year year)) month in
    let fourth = and_parts (nat_le 1 month && nat_le month 12 && nat_le 1 day) (nat_le day last) test in
    let third = and_parts (nat_le 1 month && nat_le month 12) (nat_le 1 day) fourth.0 in
    let second = and_parts (nat_le 1 month) (nat_le month 12) third.0 in
    let from = leb-true 1 month second.0 in
    let to = leb-true month 12 second.1 in
    let day_from = leb-true 1 day third.1 in
    let day_to = leb-true day last fourth.1 in
    (is_year year low, (omega (arith, ints, from), omega (arith, ints, to)), (omega (arith, ints, day_from), omega (arith, ints, day_to)))

day_told : (year month day : ℕ) → IsDate (pos (full_year year)) (pos month) (pos day) → is_day (full_year year) month day ≡ true
day_told year month day is =
    let last = days_in_month (pos (full_year year)) month in
    let from : 1 ≤ month = omega (arith, ints, is.1.0) in
    let to : month ≤ 12 = omega (arith, ints, is.1.1) in
    let day_from : 1 ≤ day = omega (arith, ints, is.2.0) in
    let day_to : day ≤ last = omega (arith, ints, is.2.1) in
    and_from (nat_le 1 month && nat_le month 12 && nat_le 1 day) (nat_le day last)
    (and_from (nat_le 1 month && nat_le month 12) (nat_le 1 day)
    (and_from (nat_le 1 month) (nat_le month 12) (le-leb 1 month from) (le-leb month 12 to)) (le-leb 1 day day_from)) (le-leb day last day_to)

time_named : (hour minute : ℕ) → hour < 24 → minute < 60 → IsTime (pos hour) (pos minute) (pos 0) (pos 0)
time_named hour minute hours minutes =
    ((omega (arith, ints), omega (arith, ints, hours)), (omega (arith, ints), omega (arith, ints, minutes)), (omega (arith, ints), omega (arith, ints)), (omega (arith, ints), omega (arith, ints)))

module _ (bytes : List ℕ) where
  abbrev in_years : Bool
  in_years = nat_lt (year_bits bytes) 100

  abbrev in_month : Bool
  in_month = is_day (full_year (year_bits bytes)) (month_bits bytes) (day_bits bytes)

  pub moment_named : is_moment bytes ≡ true → IsMoment bytes
  moment_named test =
      let minutes = and_parts (in_years && in_month && nat_lt (hour_byte bytes) 24) (nat_lt (minute_byte bytes) 60) test in
      let hours = and_parts (in_years && in_month) (nat_lt (hour_byte bytes) 24) minutes.0 in
      let days = and_parts in_years in_month hours.0 in
      let low = ltb-true (year_bits bytes) 100 days.0 in
      record {
        year = low;
        date = date_named (year_bits bytes) (month_bits bytes) (day_bits bytes) low days.1;
        time = time_named (hour_byte bytes) (minute_byte bytes) (ltb-true (hour_byte bytes) 24 hours.1) (ltb-true (minute_byte bytes) 60 minutes.1);
      }

  pub moment_told : IsMoment bytes → is_moment bytes ≡ true
  moment_told is =
      let hours : hour_byte bytes < 24 = omega (arith, ints, is.time.0.1) in
      let minutes : minute_byte bytes < 60 = omega (arith, ints, is.time.1.1) in
      and_from (in_years && in_month && nat_lt (hour_byte bytes) 24) (nat_lt (minute_byte bytes) 60)
      (and_from (in_years && in_month) (nat_lt (hour_byte bytes) 24)
      (and_from in_years in_month (lt-ltb (year_bits bytes) 100 is.year) (day_told (year_bits bytes) (month_bits bytes) (day_bits bytes) is.date))
      (lt-ltb (hour_byte bytes) 24 hours)) (lt-ltb (minute_byte bytes) 60 minutes)

  -- the bytes pass the test where they name a civil date and time
  pub moment_decided : (is_moment bytes ≡ true) ↔ IsMoment bytes
  moment_decided = (moment_named, moment_told)
