-- What is read of an index where a pointer was written.
use Rattle.std.specs.Prelude.{◌≡◌, ◌≢◌, ◌<◌, ℕ, ◌+◌, ◌*◌, ◌/◌, ◌%◌, List, length, slice_index, slice_set}
use Rattle.std.proofs.Common.{◌∙◌, ap, arith}
use Rattle.std.proofs.lemmas.List.{get_or-set_same, get_or-set_other, length-set}
use Rattle.pro_tree.specs.Pointers.{pointer_of, with_pointer}

module _ (i block : ℕ) (unit : List ℕ) where
  pub length-with_pointer : length (with_pointer i block unit) ≡ length unit
  length-with_pointer = length-set (slice_set unit i (block % 256)) (256 + i) (block / 256) ∙ length-set unit i (block % 256)

  pub byte-other : (at : ℕ) → at ≢ i → at ≢ 256 + i → slice_index (with_pointer i block unit) at ≡ slice_index unit at
  byte-other at low high =
      get_or-set_other (slice_set unit i (block % 256)) (256 + i) at (block / 256) 0 high ∙ get_or-set_other unit i at (block % 256) 0 low

  pub byte-low : i < length unit → slice_index (with_pointer i block unit) i ≡ block % 256
  byte-low within =
      let apart : i ≢ 256 + i = omega arith in
      get_or-set_other (slice_set unit i (block % 256)) (256 + i) i (block / 256) 0 apart ∙ get_or-set_same unit i (block % 256) 0 within

  pub byte-high : 256 + i < length unit → slice_index (with_pointer i block unit) (256 + i) ≡ block / 256
  byte-high within =
      get_or-set_same (slice_set unit i (block % 256)) (256 + i) (block / 256) 0 (omega (arith, length-set unit i (block % 256), within))

-- the pointer that was written
pub pointer-here : (unit : List ℕ) (i block : ℕ) → length unit ≡ 512 → i < 256 → pointer_of (with_pointer i block unit) i ≡ block
pointer-here unit i block whole inside =
    let low = byte-low i block unit (omega (arith, whole, inside)) in
    let high = byte-high i block unit (omega (arith, whole, inside)) in
    omega (arith, low, high)

-- the others
pub pointer-other : (unit : List ℕ) (i j block : ℕ) → i < 256 → j < 256 → j ≢ i → pointer_of (with_pointer i block unit) j ≡ pointer_of unit j
pointer-other unit i j block inside within apart =
    ap (λ low. low + 256 * slice_index (with_pointer i block unit) (256 + j)) (byte-other i block unit j apart (λ e. omega (arith, e, within)))
    ∙ ap (λ high. slice_index unit j + 256 * high) (byte-other i block unit (256 + j) (λ e. omega (arith, e, inside)) (λ e. omega (arith, e, apart)))
