-- The date that a word says, as `jiff` reads a civil date and time.
use Rattle.std.specs.Prelude.{◌≡◌, ℕ, pos, List, [], ◌∷◌, Option, Some, None, Ok}
use Rattle.jiff.specs.Words.{IsBetween, datetime_view, parse_datetime}
use Rattle.jiff_core.specs.declared.civil.datetime.DateTime.{DateTime}
use Rattle.pro_dir.specs.declared.date.ProDate.{ProDate}
use Rattle.pro_dates.specs.Moments.{IsMoment, IsMinuteOf}

-- the word is read as this date and time, of a year that the directories can keep
pub record IsKeptMoment (word : List ℕ) (moment : DateTime) : Type 0 where
  pub read : datetime_view (Ok moment) ≡ parse_datetime word
  pub year : IsBetween (pos 1940) (pos 2039) moment.date.year

-- the bytes are those of the date and the minute that are said, zeros where none is
abbrev pub IsDateOf : Option (List ℕ) → ProDate → Type 0
IsDateOf None date = date.0 ≡ 0 ∷ 0 ∷ 0 ∷ 0 ∷ []
IsDateOf (Some word) date = (moment : DateTime) × IsKeptMoment word moment × IsMoment date.0 × IsMinuteOf date.0 moment

-- no date is said, or one that the directories can keep
abbrev pub NamesDate : Option (List ℕ) → Type 0
NamesDate None = Unit {0}
NamesDate (Some word) = (moment : DateTime) × IsKeptMoment word moment
