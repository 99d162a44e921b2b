-- How far two volumes are compared.
use Rattle.std.specs.Prelude.{◌≡◌, ◌<◌, ◌≤◌, ◌+◌, ℕ, List, [], ◌∷◌, ◌++◌, Option, Result, Ok, Err, length, string_bytes}
use Rattle.vol_layout.specs.declared.form.PlaceForm.{PlaceForm}
use Rattle.volume_compare.specs.CompareText.{told_lines, totals_of}
use Rattle.vol_format.specs.Directory.{entries}
use Rattle.volume_compare.specs.Findings.{AreToldAloneUpTo, Compared, Told, first_bytes, first_bytes_of, second_bytes, second_bytes_of}
use Rattle.volume_compare.specs.declared.error.CompareError.{CompareError}
use Rattle.volume_compare.specs.declared.error.CompareError.TheVariants.{Check, Device, TooLarge, Memory}
use Rattle.volume_compare.specs.declared.finding.Side.TheVariants.{First, Second}
use Rattle.volume_compare.specs.declared.progress.Progress.{Progress}
use Rattle.volume_compare.specs.declared.progress.Left.{Left}
use Rattle.volume_compare.specs.declared.finding.Found.{Found}

-- these files were told of, and of so many bytes of each volume the rest may be read yet
pub record IsProgress (form : PlaceForm) (most : ℕ) (told : List (Option Told)) (progress : Progress) : Type 0 where
  pub text : string_bytes progress.report.text ≡ told_lines progress.all form told
  pub totals : progress.report.totals ≡ totals_of told
  pub first : progress.left.first + first_bytes told ≡ most
  pub second : progress.left.second + second_bytes told ≡ most

-- Why one more can't be told of: it has more bytes than may be read yet.
abbrev pub IsOver : Progress → Progress → Option Told → CompareError → Type 0
IsOver old new next (TooLarge First) = old.left.first < first_bytes_of next
IsOver old new next (TooLarge Second) =
    (new.left.first + first_bytes_of next ≡ old.left.first) × (old.left.second < second_bytes_of next)
IsOver old new next Memory = Unit {0}
IsOver old new next (Check side) = ⊥
IsOver old new next (Device side) = ⊥

-- One more was told of, or why it wasn't.
abbrev pub IsTelling : PlaceForm → Progress → Progress → Option Told → Result (Unit {0}) CompareError → Type 0
IsTelling form old new next (Ok done) =
    (most : ℕ) (told : List (Option Told)) → IsProgress form most told old
    → IsProgress form most (told ++ next ∷ []) new
IsTelling form old new next (Err error) = IsOver old new next error

-- the bytes that were read of a file were taken off
abbrev pub IsSpent : Left → Left → Found → Result (Unit {0}) CompareError → Type 0
IsSpent old new found (Ok done) =
    (new.first + found.first_bytes ≡ old.first) × (new.second + found.second_bytes ≡ old.second)
IsSpent old new found (Err (TooLarge First)) = old.first < found.first_bytes
IsSpent old new found (Err (TooLarge Second)) =
    (new.first + found.first_bytes ≡ old.first) × (old.second < found.second_bytes)
IsSpent old new found (Err error) = ⊥

-- Of one more file it was told what it is, where the devices were honest, or why it wasn't.
abbrev pub TellsNext : Type 0 → (Option Told → Type 0) → PlaceForm → Progress → Progress
    → Result (Unit {0}) CompareError → Type 0
TellsNext honest IsNext form old new (Err Memory) = Unit {0}
TellsNext honest IsNext form old new result =
    (next : Option Told) × IsTelling form old new next result × (honest → IsNext next)

-- These files were told of, as many as there are entries.
pub record IsToldTo (honest : Type 0) (AreTold : List (Option Told) → Type 0) (form : PlaceForm) (most many : ℕ)
    (progress : Progress) : Type 0 where
  pub told : List (Option Told)
  pub long : length told ≡ many
  pub is_progress : IsProgress form most told progress
  pub are_told : honest → AreTold told

-- Behind these files those of the first entries of the second volume were told of.
pub record IsToldBehind (honest : Type 0) (AreTold : List (Option Told) → Type 0) (form : PlaceForm) (most : ℕ)
    (told : List (Option Told)) (many : ℕ) (progress : Progress) : Type 0 where
  pub others : List (Option Told)
  pub long : length others ≡ many
  pub is_progress : IsProgress form most (told ++ others) progress
  pub are_others : honest → AreTold others

-- behind them more can't be told of: the second volume has too many bytes
pub record HasTooManyBehind (compared : Compared) (most : ℕ) (told : List (Option Told)) : Type 0 where
  pub others : List (Option Told)
  pub are_others : AreToldAloneUpTo compared (length others) others
  pub within : length others ≤ entries compared.second.directory
  pub many : most < second_bytes (told ++ others)

abbrev pub IsOverBehind : Compared → ℕ → List (Option Told) → CompareError → Type 0
IsOverBehind compared most told (TooLarge Second) = HasTooManyBehind compared most told
IsOverBehind compared most told (TooLarge First) = ⊥
IsOverBehind compared most told Memory = Unit {0}
IsOverBehind compared most told (Check side) = ⊥
IsOverBehind compared most told (Device side) = ⊥
