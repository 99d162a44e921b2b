-- The date that a word says.
use Rattle.std.proofs.Common.{◌≡◌, ◌∙◌, ℕ, pos, List, refl, sym, ap, subst}
use Rattle.std.specs.Prelude.{◌↔◌, Option, Some, None, Result, Ok, Err, IsSome, IfSome}
use Rattle.std.specs.Result.{result_ok}
use Rattle.std.proofs.lemmas.Bool.{false≢true}
use Rattle.jiff.specs.Words.{IsBetween, date_parts, datetime_view, parse_datetime, time_parts}
use Rattle.jiff_core.specs.declared.civil.datetime.DateTime.{DateTime}
use Rattle.jiff_core.specs.declared.error.Error.{Error}
use Rattle.pro_dir.specs.declared.date.ProDate.{ProDate}
use Rattle.pro_dates.specs.Moments.{IsMoment, IsMinuteOf}
use Rattle.pro_dates.specs.SaidDates.{IsDateOf, NamesDate}

read_ok : (r : Result DateTime Error) (moment : DateTime) → result_ok r ≡ Some moment → r ≡ Ok moment
read_ok (Ok x) moment is = cc
read_ok (Err e) moment is = cc

same_value : {T E : Type 0} (r : Result T E) (first second : T) → r ≡ Ok first → r ≡ Ok second → first ≡ second
same_value r first second one other = cc

-- moments that a word is read as are of one year
same_year : (word : List ℕ) (first second : DateTime) → datetime_view (Ok first) ≡ parse_datetime word → datetime_view (Ok second) ≡ parse_datetime word
    → first.date.year ≡ second.date.year
same_year word first second one other =
    ap (λ p. p.0.year)
    (same_value (parse_datetime word) (date_parts first.date, time_parts first.time) (date_parts second.date, time_parts second.time) (sym one) (sym other))

-- the word is read as a moment
pub read_as : (word : List ℕ) (r : Result DateTime Error) (moment : DateTime) → datetime_view r ≡ parse_datetime word → result_ok r ≡ Some moment
    → datetime_view (Ok moment) ≡ parse_datetime word
read_as word r moment reads is = sym (ap datetime_view (read_ok r moment is)) ∙ reads

-- a date of the moment that a word is read as
pub date_said : (word : List ℕ) (moment : DateTime) (date : Option ProDate) → datetime_view (Ok moment) ≡ parse_datetime word
    → (IsSome date ↔ IsBetween (pos 1940) (pos 2039) moment.date.year) → IfSome date (λ d. IsMoment d.0) → IfSome date (λ d. IsMinuteOf d.0 moment)
    → IfSome date (IsDateOf (Some word))
date_said word moment None read known named minute = tt
date_said word moment (Some d) read known named minute = (moment, record { read = read; year = known.0 refl }, named, minute)

-- there is none exactly where the word says no date
pub none_said : (word : List ℕ) (moment : DateTime) (date : Option ProDate) → datetime_view (Ok moment) ≡ parse_datetime word
    → (IsSome date ↔ IsBetween (pos 1940) (pos 2039) moment.date.year) → (date ≡ None) ↔ (¬ NamesDate (Some word))
none_said word moment None read known =
    (λ none names. absurd (false≢true (known.1 (subst (IsBetween (pos 1940) (pos 2039)) (same_year word names.0 moment names.1.read read) names.1.year))), λ no. refl)
none_said word moment (Some d) read known = (λ none. cc, λ no. absurd (no (moment, record { read = read; year = known.0 refl })))
