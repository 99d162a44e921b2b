-- A bit of a block of the map that is put to 1.
use Rattle.std.proofs.Common.{◌≡◌, ◌≢◌, ◌∙◌, ℕ, ◌-◌, ◌/◌, ◌%◌, ◌^◌, ◌<◌, List, length, get_or, set, bit_or, ap, sym, arith, ⊎_elim}
use Rattle.std.specs.Prelude.{◌==◌, false, replicate, true}
use Rattle.std.specs.Int.{bit_at}
use Rattle.std.proofs.lemmas.Bool.{cases_eq}
use Rattle.std.proofs.lemmas.List.{get_or-replicate, get_or-set_same, get_or-set_other}
use Rattle.std.proofs.lemmas.Nat.Bits.{bit_at_or, bit_at-pow_same, bit_at-pow_other, bit_at-lt, bit_at-zero}
use Rattle.pro_bitmap.specs.Bitmap.{is_free_in}

-- the bits of a byte with one bit put to 1
put : (byte k : ℕ) → bit_at (bit_or byte (2 ^ k)) k ≡ 1
put byte k = omega (arith, bit_at_or byte (2 ^ k) k, bit_at-pow_same k, bit_at-lt byte k)

put_other : (byte k i : ℕ) → i ≢ k → bit_at (bit_or byte (2 ^ k)) i ≡ bit_at byte i
put_other byte k i apart = omega (arith, bit_at_or byte (2 ^ k) i, bit_at-pow_other k i apart)

module _ (unit : List ℕ) (bit : ℕ) (within : bit / 8 < length unit) where
  abbrev pub with_bit : List ℕ
  with_bit = set unit (bit / 8) (bit_or (get_or unit (bit / 8) 0) (2 ^ (7 - bit % 8)))

  pub with_bit-own : is_free_in with_bit bit ≡ true
  with_bit-own =
      ap (λ n. bit_at n (7 - bit % 8) == 1) (get_or-set_same unit (bit / 8) _ 0 within)
      ∙ ap (λ n. n == 1) (put (get_or unit (bit / 8) 0) (7 - bit % 8))

  pub with_bit-others : (other : ℕ) → other ≢ bit → is_free_in with_bit other ≡ is_free_in unit other
  with_bit-others other apart = ⊎_elim
      (λ same.
      let differ : 7 - other % 8 ≢ 7 - bit % 8 = λ e. apart (omega (arith, same, e)) in
      ap (λ k. bit_at (get_or with_bit k 0) (7 - other % 8) == 1) same
      ∙ ap (λ n. bit_at n (7 - other % 8) == 1) (get_or-set_same unit (bit / 8) _ 0 within)
      ∙ ap (λ n. n == 1) (put_other (get_or unit (bit / 8) 0) (7 - bit % 8) (7 - other % 8) differ)
      ∙ sym (ap (λ k. bit_at (get_or unit k 0) (7 - other % 8) == 1) same))
      (λ differ. ap (λ n. bit_at n (7 - other % 8) == 1) (get_or-set_other unit (bit / 8) (other / 8) _ 0 differ))
      (cases_eq (other / 8) (bit / 8))

-- a block of 00s
pub none_free : (bit : ℕ) → bit < 4096 → is_free_in (replicate 512 0) bit ≡ false
none_free bit low = ap (λ n. bit_at n (7 - bit % 8) == 1) (get_or-replicate 512 (bit / 8) 0 0 (omega (arith, low))) ∙ ap (λ n. n == 1) (bit_at-zero (7 - bit % 8))
