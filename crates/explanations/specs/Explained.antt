-- Which words begin a line of a text.
use Rattle.std.specs.Prelude.{ℕ, ◌==◌, ◌&&◌, Bool, true, List, Option, Some, None, length, nat_eq, slice_get}
use Rattle.std.specs.List.{list_any, slice_split, starts_with}

abbrev pub Text : Type 0
Text = List ℕ

-- words end where their line does, or before a space
abbrev pub ends_words : Option ℕ → Bool
ends_words None = true
ends_words (Some byte) = byte == 32

-- a line begins with these words
abbrev pub begins_line : Text → Text → Bool
begins_line front line = starts_with nat_eq line front && ends_words (slice_get line (length front))

-- some line of a text does, where 10 ends each line
abbrev pub begins_a_line : Text → Text → Bool
begins_a_line front text = list_any (begins_line front) (slice_split (λ byte. byte == 10) text)
