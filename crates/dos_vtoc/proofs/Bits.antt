-- One bit of the map, written.
use Rattle.std.proofs.Common.{◌≡◌, ◌≢◌, ℕ, ◌+◌, ◌-◌, ◌*◌, ◌/◌, ◌%◌, ◌^◌, ◌<◌, ◌≤◌, Bool, true, false, List, length, get_or, set, min, max, bit_and, bit_or, refl, sym, ◌∙◌, ap, arith, ⊎_elim, w8}
use Rattle.std.specs.Prelude.{◌==◌}
use Rattle.std.specs.Int.{bit_at, bit_not}
use Rattle.std.proofs.lemmas.Bool.Decides.{nat_tests}
use Rattle.std.proofs.lemmas.List.{get_or-set_same, get_or-set_other}
use Rattle.std.proofs.lemmas.Nat.{pow_below}
use Rattle.std.proofs.lemmas.Nat.Bits.{bit_at_and, bit_at_or, bit_at_not, bit_at-pow_same, bit_at-pow_other, bit_at-lt}
use Rattle.dos_vtoc.specs.Vtoc.{byte_of_place, is_free, marked, released}

-- a sector is named by its byte and its bit there
same_place : (place other : ℕ) → byte_of_place other ≡ byte_of_place place → other % 8 ≡ place % 8 → other ≡ place
same_place place other byte bit = omega (arith, byte, bit)

-- the bits of a byte with one bit put to 0
bit_at-clear : (byte k i : ℕ) → k < 8 → i < 8 → bit_at (bit_and byte (255 - 2 ^ k)) i ≡ min (bit_at byte i) (1 - bit_at (2 ^ k) i)
bit_at-clear byte k i low at = bit_at_and byte (255 - 2 ^ k) i ∙ ap (min (bit_at byte i)) (bit_at_not w8 (2 ^ k) i (pow_below k 8 low) at)

module _ (vtoc : List ℕ) (place : ℕ) (whole : length vtoc ≡ 256) (within : place < 560) where
  here : byte_of_place place < length vtoc
  here = omega (arith, whole, within)

  -- one byte is written
  module _ (written : ℕ) where
    same : get_or (set vtoc (byte_of_place place) written) (byte_of_place place) 0 ≡ written
    same = get_or-set_same vtoc (byte_of_place place) written 0 here

    -- and of its bits, that of the place alone
    others : ((i : ℕ) → i < 8 → i ≢ place % 8 → bit_at written i ≡ bit_at (get_or vtoc (byte_of_place place) 0) i)
        → (other : ℕ) → other ≢ place → is_free (set vtoc (byte_of_place place) written) other ≡ is_free vtoc other
    others keeps other apart = by_byte (byte_of_place other == byte_of_place place) refl
      where
        by_byte : (b : Bool) → (byte_of_place other == byte_of_place place) ≡ b → is_free (set vtoc (byte_of_place place) written) other ≡ is_free vtoc other
        by_byte true is =
            let at : byte_of_place other ≡ byte_of_place place = grind (arith, nat_tests) in
            let bit : other % 8 ≢ place % 8 = λ e. apart (same_place place other at e) in
            ap (λ n. bit_at (get_or (set vtoc (byte_of_place place) written) n 0) (other % 8) == 1) at
            ∙ ap (λ n. bit_at n (other % 8) == 1) same
            ∙ ap (λ n. n == 1) (keeps (other % 8) (omega arith) bit)
            ∙ sym (ap (λ n. bit_at (get_or vtoc n 0) (other % 8) == 1) at)
        by_byte false is =
            let differ : byte_of_place other ≢ byte_of_place place = grind (arith, nat_tests) in
            ap (λ n. bit_at n (other % 8) == 1) (get_or-set_other vtoc (byte_of_place place) (byte_of_place other) written 0 differ)

  pub is_free-marked_same : is_free (marked vtoc place) place ≡ false
  is_free-marked_same =
      let bit : place % 8 < 8 = omega arith in
      let cleared : bit_at (bit_and (get_or vtoc (byte_of_place place) 0) (255 - 2 ^ (place % 8))) (place % 8) ≡ 0 =
      omega (arith, bit_at-clear (get_or vtoc (byte_of_place place) 0) (place % 8) (place % 8) bit bit, bit_at-pow_same (place % 8)) in
      ap (λ n. bit_at n (place % 8) == 1) (same (bit_and (get_or vtoc (byte_of_place place) 0) (255 - 2 ^ (place % 8))))
      ∙ ap (λ n. n == 1) cleared

  pub is_free-marked_other : (other : ℕ) → other ≢ place → is_free (marked vtoc place) other ≡ is_free vtoc other
  is_free-marked_other = others (bit_and (get_or vtoc (byte_of_place place) 0) (255 - 2 ^ (place % 8)))
      (λ i low apart. omega (arith, bit_at-clear (get_or vtoc (byte_of_place place) 0) (place % 8) i (omega arith) low, bit_at-pow_other (place % 8) i apart, bit_at-lt (get_or vtoc (byte_of_place place) 0) i))

  pub is_free-released_same : is_free (released vtoc place) place ≡ true
  is_free-released_same =
      let put : bit_at (bit_or (get_or vtoc (byte_of_place place) 0) (2 ^ (place % 8))) (place % 8) ≡ 1 =
      omega (arith, bit_at_or (get_or vtoc (byte_of_place place) 0) (2 ^ (place % 8)) (place % 8), bit_at-pow_same (place % 8), bit_at-lt (get_or vtoc (byte_of_place place) 0) (place % 8)) in
      ap (λ n. bit_at n (place % 8) == 1) (same (bit_or (get_or vtoc (byte_of_place place) 0) (2 ^ (place % 8)))) ∙ ap (λ n. n == 1) put

  pub is_free-released_other : (other : ℕ) → other ≢ place → is_free (released vtoc place) other ≡ is_free vtoc other
  is_free-released_other = others (bit_or (get_or vtoc (byte_of_place place) 0) (2 ^ (place % 8)))
      (λ i low apart. omega (arith, bit_at_or (get_or vtoc (byte_of_place place) 0) (2 ^ (place % 8)) i, bit_at-pow_other (place % 8) i apart))
