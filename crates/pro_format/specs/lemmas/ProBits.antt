-- One bit of a block of the map, written.
use Rattle.std.specs.Prelude.{◌≡◌, ◌≢◌, ◌<◌, ℕ, ◌-◌, ◌/◌, ◌%◌, ◌==◌, Bool, true, false, List, length, slice_index, bit_and, bit_or}
use Rattle.std.specs.Int.{bit_at}
use Rattle.std.proofs.Common.{sym, ◌∙◌, ap, arith, inl, inr, min, ◌^◌, w8}
use Rattle.std.proofs.lemmas.Bool.{cases_eq}
use Rattle.std.proofs.lemmas.List.{length-set, get_or-set_same, get_or-set_other}
use Rattle.std.proofs.lemmas.Nat.{pow_below}
use Rattle.std.proofs.lemmas.Nat.Bits.{bit_at_and, bit_at_or, bit_at_not, bit_at-pow_same, bit_at-pow_other, bit_at-lt}
use Rattle.pro_bitmap.specs.Bitmap.{is_free_in}
use Rattle.pro_format.specs.Pro.{bit_byte, with_bit, pro_with_free}

pub length-with_free : (unit : List ℕ) (place : ℕ) (free : Bool) → length (pro_with_free unit place free) ≡ length unit
length-with_free unit place free = length-set unit (bit_byte place) (with_bit free place (slice_index unit (bit_byte place)))

clear-bit : (byte k i : ℕ) → k < 8 → i < 8 → bit_at (bit_and byte (255 - 2 ^ k)) i ≡ min (bit_at byte i) (1 - bit_at (2 ^ k) i)
clear-bit byte k i low at = bit_at_and byte (255 - 2 ^ k) i ∙ ap (min (bit_at byte i)) (bit_at_not w8 (2 ^ k) i (pow_below k 8 low) at)

pub bit-here : (free : Bool) (place byte : ℕ) → (bit_at (with_bit free place byte) (7 - place % 8) == 1) ≡ free
bit-here true place byte =
    let one : bit_at (bit_or byte (2 ^ (7 - place % 8))) (7 - place % 8) ≡ 1 =
    omega (arith, bit_at_or byte (2 ^ (7 - place % 8)) (7 - place % 8), bit_at-pow_same (7 - place % 8), bit_at-lt byte (7 - place % 8)) in
    ap (λ n. n == 1) one
bit-here false place byte =
    let zero : bit_at (bit_and byte (255 - 2 ^ (7 - place % 8))) (7 - place % 8) ≡ 0 =
    omega (arith, clear-bit byte (7 - place % 8) (7 - place % 8) (omega arith) (omega arith), bit_at-pow_same (7 - place % 8)) in
    ap (λ n. n == 1) zero

pub bit-other : (free : Bool) (place byte i : ℕ) → i < 8 → i ≢ 7 - place % 8 → bit_at (with_bit free place byte) i ≡ bit_at byte i
bit-other true place byte i low apart = omega (arith, bit_at_or byte (2 ^ (7 - place % 8)) i, bit_at-pow_other (7 - place % 8) i apart)
bit-other false place byte i low apart =
    omega (arith, clear-bit byte (7 - place % 8) i (omega arith) low, bit_at-pow_other (7 - place % 8) i apart, bit_at-lt byte i)

module _ (unit : List ℕ) (place : ℕ) (free : Bool) (whole : length unit ≡ 512) where
  byte_there : slice_index (pro_with_free unit place free) (bit_byte place) ≡ with_bit free place (slice_index unit (bit_byte place))
  byte_there = get_or-set_same unit (bit_byte place) (with_bit free place (slice_index unit (bit_byte place))) 0 (omega (arith, whole))

  pub free-here : is_free_in (pro_with_free unit place free) (place % 4096) ≡ free
  free-here =
      let bit : place % 4096 % 8 ≡ place % 8 = omega arith in
      ap (λ k. bit_at (slice_index (pro_with_free unit place free) (bit_byte place)) (7 - k) == 1) bit
      ∙ ap (λ n. bit_at n (7 - place % 8) == 1) byte_there
      ∙ bit-here free place (slice_index unit (bit_byte place))

  pub free-other : (number : ℕ) → number ≢ place % 4096 → is_free_in (pro_with_free unit place free) number ≡ is_free_in unit number
  free-other number apart = elim (cases_eq (number / 8) (bit_byte place)) [
    | inl same ↦
        let differ : 7 - number % 8 ≢ 7 - place % 8 = λ e. apart (omega (arith, e, same)) in
        ap (λ at. bit_at (slice_index (pro_with_free unit place free) at) (7 - number % 8) == 1) same
        ∙ ap (λ n. bit_at n (7 - number % 8) == 1) byte_there
        ∙ ap (λ n. n == 1) (bit-other free place (slice_index unit (bit_byte place)) (7 - number % 8) (omega arith) differ)
        ∙ sym (ap (λ at. bit_at (slice_index unit at) (7 - number % 8) == 1) same)
    | inr other ↦
        ap (λ n. bit_at n (7 - number % 8) == 1)
        (get_or-set_other unit (bit_byte place) (number / 8) (with_bit free place (slice_index unit (bit_byte place))) 0 other)
  ]
