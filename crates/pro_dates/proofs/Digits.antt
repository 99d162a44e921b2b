-- A minute that bytes name has four digits for its year, and two for the rest.
use Rattle.std.proofs.Common.{◌≡◌, ◌<◌, ◌≤◌, ℕ, pos, Bool, true, false, List, refl, sym, ◌∙◌, ap, subst, arith}
use Rattle.std.specs.Prelude.{Option, Some, None, if◌then◌else◌}
use Rattle.std.proofs.lemmas.Int.{ints}
use Rattle.jiff_core.proofs.CalendarLemmas.{days_in_month_bounds}
use Rattle.pro_dates.specs.Dates.{year_bits, month_bits, day_bits, full_year, hour_byte, minute_byte}
use Rattle.pro_dates.specs.Moments.{IsMoment}
use Rattle.pro_dates.specs.ShownDates.{is_moment, minute_of, named_minute}
use Rattle.pro_dates.specs.Stamps.{HasDigits}
use Rattle.pro_dates.specs.declared.shown.Minute.{Minute}
use Rattle.pro_dates.proofs.DatesDecided.{below_10000, moment_named}

named_digits : (bytes : List ℕ) → IsMoment bytes → HasDigits (named_minute bytes)
named_digits bytes is =
    let month_is = is.date.1.1 in
    let day_is = is.date.2.1 in
    let long = (days_in_month_bounds (pos (full_year (year_bits bytes))) (month_bits bytes)).0 in
    let hour_is = is.time.0.1 in
    let minute_is = is.time.1.1 in
    record {
      year = below_10000 (year_bits bytes) is.year;
      month = omega (arith, ints, month_is);
      day = omega (arith, ints, day_is, long);
      hour = omega (arith, ints, hour_is);
      minute = omega (arith, ints, minute_is);
    }

-- the two are one, where each stands for the same
same_minute : (one other : Minute) → Some one ≡ Some other → one ≡ other
same_minute one other is = cc

pub digits_of : (bytes : List ℕ) (minute : Minute) → Some minute ≡ minute_of bytes → HasDigits minute
digits_of bytes minute is = by_test (is_moment bytes) refl
  where
    by_test : (b : Bool) → is_moment bytes ≡ b → HasDigits minute
    by_test true at =
        let named : Some (named_minute bytes) ≡ Some minute = ap (λ b. if b then Some (named_minute bytes) else None) (sym at) ∙ sym is in
        subst (λ (m : Minute). HasDigits m) (same_minute (named_minute bytes) minute named) (named_digits bytes (moment_named bytes at))
    by_test false at = let none : Some minute ≡ None = is ∙ ap (λ b. if b then Some (named_minute bytes) else None) at in cc
