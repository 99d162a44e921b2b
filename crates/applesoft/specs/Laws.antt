-- What the laws on programs speak of.
use Rattle.std.specs.Prelude.{◌≡◌, ◌<◌, ℕ, suc, ◌+◌, List, flat_map, length, slice_index_or, take}
use Rattle.apple_text.specs.Shown.{Text}
use Rattle.applesoft.specs.Program.{IsListed, Line, line_bytes, program_bytes}
use Rattle.applesoft.specs.Tokens.{IsTokenized}

-- A program that is linked: each link is $0801 and the place of what stands behind its line, and the numbers rise.
-- Behind the lines stand two bytes $00.
pub record IsLinked (program : List ℕ) : Type 0 where
  pub lines : List Line
  pub bytes : program ≡ program_bytes lines
  pub links : (k : ℕ) (d : Line) → k < length lines
      → (slice_index_or lines k d).link ≡ 0x0801 + length (flat_map line_bytes (take (suc k) lines))
  pub numbers : (k : ℕ) (d : Line) → suc k < length lines
      → (slice_index_or lines k d).number < (slice_index_or lines (suc k) d).number

-- the program lists as a text, and that text is the program
abbrev pub IsItsListing : List ℕ → Type 0
IsItsListing program = (text : Text) × IsListed program text × IsTokenized text program
