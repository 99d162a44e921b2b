-- A program that was made from a text is linked.
use Rattle.std.proofs.Common.{◌≡◌, ℕ, zero, suc, ◌+◌, ◌<◌, List, [], ◌∷◌, length, get_or, take, arith, length-append}
use Rattle.std.specs.Prelude.{flat_map}
use Rattle.apple_text.specs.Shown.{Text}
use Rattle.applesoft.specs.Program.{Line, line_bytes}
use Rattle.applesoft.specs.Tokens.{ArePlaced, IsTokenized}
use Rattle.applesoft.specs.Laws.{IsLinked}

links : (least address : ℕ) (ls : List Line) → ArePlaced least address ls → (k : ℕ) (d : Line) → k < length ls
    → (get_or ls k d).link ≡ address + length (flat_map line_bytes (take (suc k) ls))
links least address [] placed k d within = absurd (omega (arith, within))
links least address (l ∷ ls) placed zero d within =
    omega (arith, placed.0.link, length-append (line_bytes l) (flat_map line_bytes (take 0 ls)))
links least address (l ∷ ls) placed (suc k) d within =
    omega (
      arith,
      placed.0.link,
      links (suc l.number) l.link ls placed.1 k d (omega (arith, within)),
      length-append (line_bytes l) (flat_map line_bytes (take (suc k) ls)),
    )

numbers : (least address : ℕ) (ls : List Line) → ArePlaced least address ls → (k : ℕ) (d : Line) → suc k < length ls
    → (get_or ls k d).number < (get_or ls (suc k) d).number
numbers least address [] placed k d within = absurd (omega (arith, within))
numbers least address (l ∷ []) placed zero d within = absurd (omega (arith, within))
numbers least address (l ∷ m ∷ ls) placed zero d within = omega (arith, placed.1.0.rising)
numbers least address (l ∷ ls) placed (suc k) d within = numbers (suc l.number) l.link ls placed.1 k d (omega (arith, within))

pub linked : (text : Text) (program : List ℕ) → IsTokenized text program → IsLinked program
linked text program is = record {
  lines = is.lines;
  bytes = is.bytes;
  links = links 0 0x0801 is.lines is.placed;
  numbers = numbers 0 0x0801 is.lines is.placed;
}
