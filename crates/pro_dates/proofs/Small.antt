-- Small numbers in signed types.
use Rattle.std.proofs.Common.{◌≡◌, ◌<◌, ◌+◌, ◌*◌, ◌/◌, ◌%◌, ◌^◌, [], ◌∷◌, ℕ, ℤ, pos, sym, subst, arith, FitsSigned, w8, w16}
use Rattle.std.specs.Int.{IsInRange}
use Rattle.std.proofs.lemmas.Int.{ints}
use Rattle.std.proofs.lemmas.Bool.Decides.{nat_tests}
use Rattle.jiff.specs.Words.{IsDate, IsYear, days_in_month}
use Rattle.jiff_core.proofs.CalendarLemmas.{days_in_month_bounds}
use Rattle.pro_dates.specs.Dates.{full_year}
use Rattle.pro_dates.specs.Moments.{IsMoment}

pub fits16 : (n : ℕ) → n < 2 ^ 15 → FitsSigned w16 (pos n)
fits16 n h = omega (arith, ints)

pub fits8 : (n : ℕ) → n < 2 ^ 7 → FitsSigned w8 (pos n)
fits8 n h = omega (arith, ints)

pub full_year_low : (y : ℕ) → y < 100 → full_year y < 2 ^ 15
full_year_low y h = grind (arith, nat_tests)

-- the bytes of a date and a time from 1940 to 2039 name it
pub moment_of : (year month day hour minute low high number : ℕ) (y : ℤ) → year < 100 → pos (full_year year) ≡ y → IsYear y → IsInRange 1 12 month → IsInRange 1 (days_in_month y month) day
    → hour < 24 → minute < 60 → number ≡ 512 * year + 32 * month + day → low ≡ number % 256 → high ≡ number / 256 % 256 → IsMoment (low ∷ high ∷ minute ∷ hour ∷ [])
moment_of year month day hour minute low high number y digits full in_years in_months in_days in_hours in_minutes is low_is high_is =
    let long = (days_in_month_bounds y month).0 in
    let bytes : low + 256 * high ≡ number = omega (arith, digits, in_months, in_days, long, is, low_is, high_is) in
    let years : (low + 256 * high) / 512 ≡ year = omega (arith, digits, in_months, in_days, long, is, bytes) in
    let months : (low + 256 * high) / 32 % 16 ≡ month = omega (arith, digits, in_months, in_days, long, is, bytes) in
    let days : (low + 256 * high) % 32 ≡ day = omega (arith, digits, in_months, in_days, long, is, bytes) in
    let date : IsDate y (pos month) (pos day) =
    (in_years, (omega (arith, ints, in_months), omega (arith, ints, in_months)), (omega (arith, ints, in_days), omega (arith, ints, in_days))) in
    record {
      year = omega (arith, years, digits);
      date = subst (λ n. IsDate (pos (full_year n)) (pos ((low + 256 * high) / 32 % 16)) (pos ((low + 256 * high) % 32))) (sym years)
          (subst (λ n. IsDate (pos (full_year year)) (pos n) (pos ((low + 256 * high) % 32))) (sym months)
          (subst (λ n. IsDate (pos (full_year year)) (pos month) (pos n)) (sym days) (subst (λ z. IsDate z (pos month) (pos day)) (sym full) date)));
      time = ((omega (arith, ints), omega (arith, ints, in_hours)), (omega (arith, ints), omega (arith, ints, in_minutes)), (omega (arith, ints), omega (arith, ints)), (omega (arith, ints), omega (arith, ints)));
    }
