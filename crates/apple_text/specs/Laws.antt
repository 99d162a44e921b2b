-- What the laws on texts speak of.
use Rattle.std.specs.Prelude.{◌≡◌, List, ℕ, All, map}
use Rattle.apple_text.specs.declared.form.TextForm.{TextForm}
use Rattle.apple_text.specs.Shown.{Text, low, shown_text}
use Rattle.apple_text.specs.Taken.{IsAllowed, IsTaken}

-- bytes that are shown alike are alike but for their highest bits
abbrev pub ShownAlike : List ℕ → List ℕ → Type 0
ShownAlike a b = shown_text a ≡ shown_text b → map low a ≡ map low b

-- bytes that may be there are taken from what they are shown as
abbrev pub IsTakenBack : TextForm → List ℕ → Type 0
IsTakenBack form bytes = All (IsAllowed form) bytes → IsTaken form (shown_text bytes) bytes

-- a text is taken for one list of bytes at most
abbrev pub AreOne : TextForm → Text → List ℕ → List ℕ → Type 0
AreOne form text a b = IsTaken form text a → IsTaken form text b → a ≡ b
