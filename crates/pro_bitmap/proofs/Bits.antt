-- One bit of a bitmap, written.
use Rattle.std.proofs.Common.{◌≡◌, ◌≢◌, ℕ, ◌+◌, ◌-◌, ◌*◌, ◌/◌, ◌%◌, ◌^◌, ◌<◌, ◌≤◌, Bool, true, false, List, [], length, get_or, set, min, bit_and, bit_or, refl, sym, ◌∙◌, ap, arith, w8}
use Rattle.std.specs.Prelude.{◌==◌}
use Rattle.std.specs.Int.{bit_at, bit_not}
use Rattle.std.proofs.lemmas.Bool.Decides.{nat_tests}
use Rattle.std.proofs.lemmas.List.{get_or-set_same, get_or-set_other}
use Rattle.std.proofs.lemmas.Nat.{pow_below}
use Rattle.std.proofs.lemmas.Nat.Bits.{bit_at_and, bit_at_or, bit_at_not, bit_at-pow_same, bit_at-pow_other, bit_at-lt}
use Rattle.a2_device.specs.Device.{unit_at}
use Rattle.pro_bitmap.specs.Bitmap.{FreeMap, is_free, is_free_in, byte_of, with_byte, marked, released}

-- the bits of a byte with one bit put to 0, and to 1
module _ (byte k : ℕ) (low : k < 8) where
  bit_at-clear : (i : ℕ) → i < 8 → bit_at (bit_and byte (255 - 2 ^ k)) i ≡ min (bit_at byte i) (1 - bit_at (2 ^ k) i)
  bit_at-clear i at = bit_at_and byte (255 - 2 ^ k) i ∙ ap (min (bit_at byte i)) (bit_at_not w8 (2 ^ k) i (pow_below k 8 low) at)

  cleared : bit_at (bit_and byte (255 - 2 ^ k)) k ≡ 0
  cleared = omega (arith, bit_at-clear k low, bit_at-pow_same k)

  cleared_other : (i : ℕ) → i < 8 → i ≢ k → bit_at (bit_and byte (255 - 2 ^ k)) i ≡ bit_at byte i
  cleared_other i at apart = omega (arith, bit_at-clear i at, bit_at-pow_other k i apart, bit_at-lt byte i)

  put : bit_at (bit_or byte (2 ^ k)) k ≡ 1
  put = omega (arith, bit_at_or byte (2 ^ k) k, bit_at-pow_same k, bit_at-lt byte k)

  put_other : (i : ℕ) → i < 8 → i ≢ k → bit_at (bit_or byte (2 ^ k)) i ≡ bit_at byte i
  put_other i at apart = omega (arith, bit_at_or byte (2 ^ k) i, bit_at-pow_other k i apart)

-- a bitmap with one byte written
module _ (bitmap : FreeMap) (block : ℕ) (unit : block / 4096 < length bitmap.units) (size : length (unit_at bitmap.units (block / 4096)) ≡ 512) (byte : ℕ) where
  here : unit_at (with_byte bitmap block byte).units (block / 4096) ≡ set (unit_at bitmap.units (block / 4096)) (block % 4096 / 8) byte
  here = get_or-set_same bitmap.units (block / 4096) _ [] unit

  within : block % 4096 / 8 < length (unit_at bitmap.units (block / 4096))
  within = omega (arith, size)

  -- its own bit
  own : is_free (with_byte bitmap block byte) block ≡ (bit_at byte (7 - block % 8) == 1)
  own =
      let bit : block % 4096 % 8 ≡ block % 8 = omega arith in
      ap (λ u. is_free_in u (block % 4096)) here
      ∙ ap (λ n. bit_at n (7 - block % 4096 % 8) == 1) (get_or-set_same (unit_at bitmap.units (block / 4096)) (block % 4096 / 8) byte 0 within)
      ∙ ap (λ k. bit_at byte (7 - k) == 1) bit

  -- the other bits, where those of the byte are kept
  others : ((i : ℕ) → i < 8 → i ≢ 7 - block % 8 → bit_at byte i ≡ bit_at (byte_of bitmap block) i)
      → (other : ℕ) → other ≢ block → is_free (with_byte bitmap block byte) other ≡ is_free bitmap other
  others keeps other apart = by_unit (other / 4096 == block / 4096) refl
    where
      in_unit : other / 4096 ≡ block / 4096 → (b : Bool) → (other % 4096 / 8 == block % 4096 / 8) ≡ b
          → is_free_in (set (unit_at bitmap.units (block / 4096)) (block % 4096 / 8) byte) (other % 4096) ≡ is_free_in (unit_at bitmap.units (block / 4096)) (other % 4096)
      in_unit at true is =
          let same : other % 4096 / 8 ≡ block % 4096 / 8 = grind (arith, nat_tests) in
          let differ : 7 - other % 4096 % 8 ≢ 7 - block % 8 = λ e. apart (omega (arith, at, same, e)) in
          ap (λ k. bit_at (get_or (set (unit_at bitmap.units (block / 4096)) (block % 4096 / 8) byte) k 0) (7 - other % 4096 % 8) == 1) same
          ∙ ap (λ n. bit_at n (7 - other % 4096 % 8) == 1) (get_or-set_same (unit_at bitmap.units (block / 4096)) (block % 4096 / 8) byte 0 within)
          ∙ ap (λ n. n == 1) (keeps (7 - other % 4096 % 8) (omega arith) differ)
          ∙ sym (ap (λ k. bit_at (get_or (unit_at bitmap.units (block / 4096)) k 0) (7 - other % 4096 % 8) == 1) same)
      in_unit at false is =
          let differ : other % 4096 / 8 ≢ block % 4096 / 8 = grind (arith, nat_tests) in
          ap (λ n. bit_at n (7 - other % 4096 % 8) == 1) (get_or-set_other (unit_at bitmap.units (block / 4096)) (block % 4096 / 8) (other % 4096 / 8) byte 0 differ)

      by_unit : (b : Bool) → (other / 4096 == block / 4096) ≡ b → is_free (with_byte bitmap block byte) other ≡ is_free bitmap other
      by_unit true is =
          let at : other / 4096 ≡ block / 4096 = grind (arith, nat_tests) in
          ap (λ k. is_free_in (unit_at (with_byte bitmap block byte).units k) (other % 4096)) at
          ∙ ap (λ u. is_free_in u (other % 4096)) here
          ∙ in_unit at (other % 4096 / 8 == block % 4096 / 8) refl
          ∙ sym (ap (λ k. is_free_in (unit_at bitmap.units k) (other % 4096)) at)
      by_unit false is =
          let differ : other / 4096 ≢ block / 4096 = grind (arith, nat_tests) in
          ap (λ u. is_free_in u (other % 4096)) (get_or-set_other bitmap.units (block / 4096) (other / 4096) _ [] differ)

module _ (bitmap : FreeMap) (block : ℕ) (unit : block / 4096 < length bitmap.units) (size : length (unit_at bitmap.units (block / 4096)) ≡ 512) where
  low : 7 - block % 8 < 8
  low = omega arith

  pub is_free-marked_same : is_free (marked bitmap block) block ≡ false
  is_free-marked_same = own bitmap block unit size _ ∙ ap (λ n. n == 1) (cleared (byte_of bitmap block) (7 - block % 8) low)

  pub is_free-marked_other : (other : ℕ) → other ≢ block → is_free (marked bitmap block) other ≡ is_free bitmap other
  is_free-marked_other = others bitmap block unit size _ (cleared_other (byte_of bitmap block) (7 - block % 8) low)

  pub is_free-released_same : is_free (released bitmap block) block ≡ true
  is_free-released_same = own bitmap block unit size _ ∙ ap (λ n. n == 1) (put (byte_of bitmap block) (7 - block % 8) low)

  pub is_free-released_other : (other : ℕ) → other ≢ block → is_free (released bitmap block) other ≡ is_free bitmap other
  is_free-released_other = others bitmap block unit size _ (put_other (byte_of bitmap block) (7 - block % 8) low)
