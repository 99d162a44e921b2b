-- The bits of a block of the map put to 0: what the bit of one of these places was makes no difference.
use Rattle.std.specs.Prelude.{◌≡◌, ◌≢◌, ◌<◌, ◌⊎◌, ℕ, ◌-◌, ◌%◌, true, false, Bool, List, [], ◌∷◌, length, slice_index, slice_set, Contains, bit_and}
use Rattle.std.proofs.Common.{refl, sym, ◌∙◌, ap, arith, subst, inl, inr, ◌^◌}
use Rattle.std.proofs.lemmas.Bool.{cases_eq}
use Rattle.vol_layout.proofs.Lists.{Contains-cases}
use Rattle.vol_format.proofs.Bits.{with_byte, twice, either_first, cleared, put, cleared-put, cleared-either_first}
use Rattle.pro_format.specs.Pro.{bit_byte, with_bit, pro_with_free, bits_cleared}
use Rattle.pro_format.specs.lemmas.ProBits.{length-with_free}

-- the bit of a place in its byte, and a bit that is put is the bit of the place put
abbrev bit_of : ℕ → ℕ
bit_of place = 7 - place % 8

put-is : (free : Bool) (place byte : ℕ) → with_bit free place byte ≡ put free (bit_of place) byte
put-is true place byte = refl
put-is false place byte = refl

cleared-put_place : (free : Bool) (place byte : ℕ) → with_bit false place (with_bit free place byte) ≡ with_bit false place byte
cleared-put_place free place byte = ap (λ b. cleared (bit_of place) b) (put-is free place byte) ∙ cleared-put free (bit_of place) byte (omega arith)

cleared-either_place : (free : Bool) (other place byte : ℕ) → bit_of other ≢ bit_of place → with_bit false other (with_bit free place byte) ≡ with_bit free place (with_bit false other byte)
cleared-either_place free other place byte apart =
    ap (λ b. cleared (bit_of other) b) (put-is free place byte) ∙ cleared-either_first free (bit_of other) (bit_of place) byte (omega arith) (omega arith) apart
    ∙ sym (put-is free place (cleared (bit_of other) byte))

-- places with one bit
same_number : (other place : ℕ) (unit : List ℕ) → other % 4096 ≡ place % 4096 → pro_with_free unit other false ≡ pro_with_free unit place false
same_number other place unit same =
    let byte : bit_byte other ≡ bit_byte place = omega (arith, same) in
    let bit : other % 8 ≡ place % 8 = omega (arith, same) in
    ap (λ at. slice_set unit at (bit_and (slice_index unit at) (255 - 2 ^ (7 - other % 8)))) byte
    ∙ ap (λ k. slice_set unit (bit_byte place) (bit_and (slice_index unit (bit_byte place)) (255 - 2 ^ (7 - k)))) bit

-- a bit that is put to 0 after it was put
marked-there : (unit : List ℕ) (place : ℕ) (free : Bool) → length unit ≡ 512 → pro_with_free (pro_with_free unit place free) place false ≡ pro_with_free unit place false
marked-there unit place free whole = twice (with_bit free place) (with_bit false place) (with_bit false place) (bit_byte place) unit
    (omega (arith, whole)) (λ byte. cleared-put_place free place byte)

-- the bit of another place
module _ (unit : List ℕ) (place other : ℕ) (free : Bool) (whole : length unit ≡ 512) (apart : other % 4096 ≢ place % 4096) where
  one_byte : bit_byte other ≡ bit_byte place
      → with_byte (with_bit false other) (bit_byte other) (with_byte (with_bit free place) (bit_byte place) unit)
      ≡ with_byte (with_bit free place) (bit_byte place) (with_byte (with_bit false other) (bit_byte other) unit)
  one_byte same = subst
      (λ at. with_byte (with_bit false other) at (with_byte (with_bit free place) (bit_byte place) unit)
      ≡ with_byte (with_bit free place) (bit_byte place) (with_byte (with_bit false other) at unit))
      (sym same)
      (twice (with_bit free place) (with_bit false other) (λ byte. with_bit false other (with_bit free place byte)) (bit_byte place) unit there (λ byte. refl)
      ∙ sym (twice (with_bit false other) (with_bit free place) (λ byte. with_bit false other (with_bit free place byte)) (bit_byte place) unit there
      (λ byte. sym (cleared-either_place free other place byte bits))))
    where
      there : bit_byte place < length unit
      there = omega (arith, whole)

      bits : bit_of other ≢ bit_of place
      bits e = apart (omega (arith, same, e))

  by_byte : (bit_byte other ≡ bit_byte place) ⊎ (bit_byte other ≢ bit_byte place)
      → with_byte (with_bit false other) (bit_byte other) (with_byte (with_bit free place) (bit_byte place) unit)
      ≡ with_byte (with_bit free place) (bit_byte place) (with_byte (with_bit false other) (bit_byte other) unit)
  by_byte (inl same) = one_byte same
  by_byte (inr differ) = either_first (with_bit free place) (with_bit false other) (bit_byte place) (bit_byte other) unit (λ e. differ (sym e))
      (omega (arith, whole)) (omega (arith, whole))

  marked-elsewhere : pro_with_free (pro_with_free unit place free) other false ≡ pro_with_free (pro_with_free unit other false) place free
  marked-elsewhere = by_byte (cases_eq (bit_byte other) (bit_byte place))

pub bits_cleared-same : (places unit : List ℕ) (place : ℕ) (free : Bool) → length unit ≡ 512 → Contains places place
    → bits_cleared places (pro_with_free unit place free) ≡ bits_cleared places unit
bits_cleared-same [] unit place free whole has = absurd (omega (arith, has.1))
bits_cleared-same (other ∷ places) unit place free whole has =
    by_place (λ later. bits_cleared-same places (pro_with_free unit other false) place free (length-with_free unit other false ∙ whole) later)
    (cases_eq (other % 4096) (place % 4096)) (Contains-cases other places place has)
  where
    by_place : (Contains places place → bits_cleared places (pro_with_free (pro_with_free unit other false) place free) ≡ bits_cleared places (pro_with_free unit other false))
        → (other % 4096 ≡ place % 4096) ⊎ (other % 4096 ≢ place % 4096) → (other ≡ place) ⊎ Contains places place
        → bits_cleared places (pro_with_free (pro_with_free unit place free) other false) ≡ bits_cleared places (pro_with_free unit other false)
    by_place rest (inl same) at = ap (bits_cleared places)
        (same_number other place (pro_with_free unit place free) same ∙ marked-there unit place free whole ∙ sym (same_number other place unit same))
    by_place rest (inr differ) (inl same) = absurd (differ (ap (λ p. p % 4096) same))
    by_place rest (inr differ) (inr later) = ap (bits_cleared places) (marked-elsewhere unit place other free whole differ) ∙ rest later
