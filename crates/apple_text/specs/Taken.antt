-- The bytes that a text is taken for: those that are shown as it.
use Rattle.std.specs.Prelude.{◌≡◌, ◌≢◌, ℕ, suc, ◌==◌, ◌&&◌, if◌then◌else◌, IsFalse, List, [], ◌∷◌, All}
use Rattle.std.specs.List.{onto_first}
use Rattle.apple_text.specs.declared.form.TextForm.{TextForm}
use Rattle.apple_text.specs.Shown.{Text, low, shown_text, with_high}

-- a text in which "\n" ends each line, where "\r\n" may; another "\r" stays, and is shown by no byte
abbrev pub without_returns : Text → Text
without_returns [] = []
without_returns (c ∷ []) = c ∷ []
without_returns (c ∷ d ∷ cs) =
    if c == 13 && d == 10 then without_returns (d ∷ cs) else c ∷ without_returns (d ∷ cs)

-- a byte that a text of the form may have: its highest bit is as said, and it is $00 only where that may be
pub record IsAllowed (form : TextForm) (byte : ℕ) : Type 0 where
  pub high : byte ≡ with_high form.high (low byte)
  pub zero : IsFalse form.zeros → byte ≢ 0

-- the text is taken for these bytes: they are shown as it
pub record IsTaken (form : TextForm) (text : Text) (bytes : List ℕ) : Type 0 where
  pub allowed : All (IsAllowed form) bytes
  pub shown : shown_text bytes ≡ without_returns text

-- some bytes are shown as the text
abbrev pub CanBeTaken : TextForm → Text → Type 0
CanBeTaken form text = (bytes : List ℕ) × IsTaken form text bytes

-- the lines of a text, each with the "\n" at its end
abbrev pub lines : Text → List Text
lines [] = []
lines (c ∷ cs) = if c == 10 then (c ∷ []) ∷ lines cs else onto_first c (lines cs)

-- the number, from 1, of the first of some lines that can't be taken
pub data IsFirstBad (form : TextForm) : List Text → ℕ → Type 0 where
  first : (line : Text) (more : List Text) → ¬ CanBeTaken form line → IsFirstBad form (line ∷ more) 1
  later : (line : Text) (more : List Text) (number : ℕ) → CanBeTaken form line → IsFirstBad form more number
      → IsFirstBad form (line ∷ more) (suc number)

abbrev pub IsBadLine : TextForm → Text → ℕ → Type 0
IsBadLine form text number = IsFirstBad form (lines text) number
