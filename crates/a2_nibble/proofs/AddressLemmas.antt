-- The bytes of an address field.
use Rattle.std.proofs.Common.{◌≡◌, ◌≢◌, ℕ, zero, suc, ◌+◌, ◌/◌, ◌<◌, ◌↔◌, List, [], ◌∷◌, length, get_or, drop, All, refl, sym, ap, ◌∙◌, subst, arith, add-zero, Bool, true, false, not, ◌&&◌, ◌||◌, eqb, ltb, ⊎_elim}
use Rattle.std.specs.Prelude.{bit_and, bit_or, bit_xor}
use Rattle.std.specs.Int.{bit_at}
use Rattle.std.specs.Int.Bits.{xor_lt}
use Rattle.std.proofs.lemmas.List.{get_or-take, get_or-drop, get_or_default, length-drop, same_lists}
use Rattle.std.proofs.lemmas.Nat.Bits.{bit_at_or, bit_at-lt}
use Rattle.a2_nibble.specs.Address.{address_field, number_of, odd_bits, even_bits, DecodesTo}
use Rattle.a2_nibble.specs.Track.{nibble_at, StandsAt}
use Rattle.a2_nibble.proofs.TableLemmas.{same_below_at, all_below, all_below_at}
use Rattle.std.proofs.lemmas.Bool.{and_parts, and_from, or_cases, not_from_true, both_ways, eqb-true, ltb-true, eq-eqb}

pub number_of-bits : (number : ℕ) → number < 256 → number_of (odd_bits number) (even_bits number) ≡ number
number_of-bits number l = same_below_at (λ n. number_of (odd_bits n) (even_bits n)) (λ n. n) 256 number refl l

pub volume_from_address : (nibbles : List ℕ) (place volume track sector : ℕ) → volume < 256 →
    StandsAt nibbles place (address_field volume track sector) →
    number_of (nibble_at nibbles (place + 3)) (nibble_at nibbles (place + 4)) ≡ volume
unfolding address_field
volume_from_address nibbles place volume track sector l h =
    let odd : nibble_at nibbles (place + 3) ≡ odd_bits volume = h 3 (omega arith) in
    let even : nibble_at nibbles (place + 4) ≡ even_bits volume = h 4 (omega arith) in
    ap (λ n. number_of n (nibble_at nibbles (place + 4))) odd ∙ ap (number_of (odd_bits volume)) even ∙ number_of-bits volume l

or_mask_bit : (n : ℕ) → bit_at (bit_or n 0xAA) 1 ≡ 1
or_mask_bit n = bit_at_or n 0xAA 1 ∙ omega (arith, bit_at-lt n 1)

-- bit 1 of each byte of an address field but the first is on; D5 and AD have it off
pub address-bit : (volume track sector k : ℕ) → 0 < k → k < 11 → bit_at (get_or (address_field volume track sector) k 0) 1 ≡ 1
unfolding address_field
address-bit v t s zero a b = absurd (omega arith)
address-bit v t s (suc zero) a b = refl
address-bit v t s (suc (suc zero)) a b = refl
address-bit v t s (suc (suc (suc zero))) a b = or_mask_bit (v / 2)
address-bit v t s (suc (suc (suc (suc zero)))) a b = or_mask_bit v
address-bit v t s (suc (suc (suc (suc (suc zero))))) a b = or_mask_bit (t / 2)
address-bit v t s (suc (suc (suc (suc (suc (suc zero)))))) a b = or_mask_bit t
address-bit v t s (suc (suc (suc (suc (suc (suc (suc zero))))))) a b = or_mask_bit (s / 2)
address-bit v t s (suc (suc (suc (suc (suc (suc (suc (suc zero)))))))) a b = or_mask_bit s
address-bit v t s (suc (suc (suc (suc (suc (suc (suc (suc (suc zero))))))))) a b = or_mask_bit (bit_xor (bit_xor v t) s / 2)
address-bit v t s (suc (suc (suc (suc (suc (suc (suc (suc (suc (suc zero)))))))))) a b = or_mask_bit (bit_xor (bit_xor v t) s)
address-bit v t s (suc (suc (suc (suc (suc (suc (suc (suc (suc (suc (suc k))))))))))) a b = absurd (omega arith)

pub length-address_field : (volume track sector : ℕ) → length (address_field volume track sector) ≡ 11
unfolding address_field
length-address_field v t s = refl

module _ (nibbles : List ℕ) (place volume track sector : ℕ) (h : StandsAt nibbles place (address_field volume track sector)) where
  pub address_byte : (k : ℕ) → k < 11 → nibble_at nibbles (place + k) ≡ get_or (address_field volume track sector) k 0
  address_byte k l = h k (omega (arith, length-address_field volume track sector))

  pub address_mark : nibble_at nibbles place ≡ 0xD5
  unfolding address_field
  address_mark = ap (nibble_at nibbles) (sym (add-zero place)) ∙ address_byte 0 (omega arith)

  pub no_second_mark : (k : ℕ) → 0 < k → k < 11 → nibble_at nibbles (place + k) ≢ 0xD5
  no_second_mark k a b e =
      let off : bit_at (nibble_at nibbles (place + k)) 1 ≡ 0 = ap (λ n. bit_at n 1) e in
      let on = ap (λ n. bit_at n 1) (address_byte k b) ∙ address-bit volume track sector k a b in
      omega (arith, off, on)

  pub no_data_mark : (k : ℕ) → k < 11 → nibble_at nibbles (place + k) ≢ 0xAD
  unfolding address_field
  no_data_mark zero b e = let first = address_byte 0 b in omega (arith, first, e)
  no_data_mark (suc k) b e =
      let off : bit_at (nibble_at nibbles (place + suc k)) 1 ≡ 0 = ap (λ n. bit_at n 1) e in
      let on = ap (λ n. bit_at n 1) (address_byte (suc k) b) ∙ address-bit volume track sector (suc k) (omega arith) b in
      omega (arith, off, on)

  pub track_from_address : track < 256 → number_of (nibble_at nibbles (place + 5)) (nibble_at nibbles (place + 6)) ≡ track
  unfolding address_field
  track_from_address l =
      let odd : nibble_at nibbles (place + 5) ≡ odd_bits track = address_byte 5 (omega arith) in
      let even : nibble_at nibbles (place + 6) ≡ even_bits track = address_byte 6 (omega arith) in
      ap (λ n. number_of n (nibble_at nibbles (place + 6))) odd ∙ ap (number_of (odd_bits track)) even ∙ number_of-bits track l

  pub sector_from_address : sector < 256 → number_of (nibble_at nibbles (place + 7)) (nibble_at nibbles (place + 8)) ≡ sector
  unfolding address_field
  sector_from_address l =
      let odd : nibble_at nibbles (place + 7) ≡ odd_bits sector = address_byte 7 (omega arith) in
      let even : nibble_at nibbles (place + 8) ≡ even_bits sector = address_byte 8 (omega arith) in
      ap (λ n. number_of n (nibble_at nibbles (place + 8))) odd ∙ ap (number_of (odd_bits sector)) even ∙ number_of-bits sector l

-- two bytes with the bits of AA on spell a number
abbrev spells : ℕ → ℕ → Bool
spells odd even =
    not (eqb (bit_and odd 0xAA) 0xAA && eqb (bit_and even 0xAA) 0xAA)
    || (eqb odd (odd_bits (number_of odd even)) && (eqb even (even_bits (number_of odd even)) && ltb (number_of odd even) 256))

all_spell : all_below (λ odd. all_below (spells odd) 256) 256 ≡ true
all_spell = refl

pub number_from_form : (odd even : ℕ) → odd < 256 → even < 256 → bit_and odd 0xAA ≡ 0xAA → bit_and even 0xAA ≡ 0xAA →
    (number : ℕ) × (number < 256) × (odd ≡ odd_bits number) × (even ≡ even_bits number)
number_from_form odd even lo le fo fe =
    let row = all_below_at (λ odd. all_below (spells odd) 256) 256 odd all_spell lo in
    let here = all_below_at (spells odd) 256 even row le in
    let form : not (eqb (bit_and odd 0xAA) 0xAA && eqb (bit_and even 0xAA) 0xAA) ≡ false =
    not_from_true _ (and_from _ _ (eq-eqb _ _ fo) (eq-eqb _ _ fe)) in
    ⊎_elim
    (λ no_form. absurd (both_ways _ form no_form))
    (λ yes.
    let both = and_parts _ _ yes in
    let rest = and_parts _ _ both.1 in
    (number_of odd even, ltb-true _ _ rest.1, eqb-true _ _ both.0, eqb-true _ _ rest.0))
    (or_cases _ _ here)

-- the form of 4-and-4
has_form : (number : ℕ) → number < 256 → bit_and (bit_or number 0xAA) 0xAA ≡ 0xAA
has_form number l = same_below_at (λ n. bit_and (bit_or n 0xAA) 0xAA) (λ _. 0xAA) 256 number refl l

-- two bytes of the form are the 4-and-4 of the number that they decode to
pair_from_number : (odd even number : ℕ) → odd < 256 → even < 256 → bit_and odd 0xAA ≡ 0xAA → bit_and even 0xAA ≡ 0xAA →
    number_of odd even ≡ number → (odd ≡ odd_bits number) × (even ≡ even_bits number)
pair_from_number odd even number lo le fo fe e =
    let some = number_from_form odd even lo le fo fe in
    let back : some.0 ≡ number =
    sym (number_of-bits some.0 some.1) ∙ ap (λ n. number_of n (even_bits some.0)) (sym some.2) ∙ ap (number_of odd) (sym some.3) ∙ e in
    (some.2 ∙ ap odd_bits back, some.3 ∙ ap even_bits back)

module _ (bytes : List ℕ) (volume track sector : ℕ) where
  decodes-address_field : volume < 256 → track < 256 → sector < 256 → bytes ≡ address_field volume track sector → DecodesTo bytes volume track sector
  unfolding address_field
  decodes-address_field lv lt ls e = subst (λ b. DecodesTo b volume track sector) (sym e) (record {
    long = refl;
    mark = refl;
    form = forms;
    volume_is = number_of-bits volume lv;
    track_is = number_of-bits track lt;
    sector_is = number_of-bits sector ls;
    checksum_is = number_of-bits (bit_xor (bit_xor volume track) sector) small;
  })
    where
      small : bit_xor (bit_xor volume track) sector < 256
      small = xor_lt 8 (bit_xor volume track) sector (xor_lt 8 volume track lv lt) ls

      half : (n : ℕ) → n < 256 → n / 2 < 256
      half n l = omega arith

      forms : All (λ byte. bit_and byte 0xAA ≡ 0xAA) (drop 3 (address_field volume track sector))
      forms zero d l = has_form (volume / 2) (half volume lv)
      forms (suc zero) d l = has_form volume lv
      forms (suc (suc zero)) d l = has_form (track / 2) (half track lt)
      forms (suc (suc (suc zero))) d l = has_form track lt
      forms (suc (suc (suc (suc zero)))) d l = has_form (sector / 2) (half sector ls)
      forms (suc (suc (suc (suc (suc zero))))) d l = has_form sector ls
      forms (suc (suc (suc (suc (suc (suc zero)))))) d l = has_form (bit_xor (bit_xor volume track) sector / 2) (half (bit_xor (bit_xor volume track) sector) small)
      forms (suc (suc (suc (suc (suc (suc (suc zero))))))) d l = has_form (bit_xor (bit_xor volume track) sector) small
      forms (suc (suc (suc (suc (suc (suc (suc (suc k)))))))) d l = absurd (omega arith)

  module _ (bounds : All (λ byte. byte < 256) bytes) (h : DecodesTo bytes volume track sector) where
    byte_form : (k : ℕ) → k < 8 → bit_and (get_or bytes (3 + k) 0) 0xAA ≡ 0xAA
    byte_form k l = subst (λ b. bit_and b 0xAA ≡ 0xAA) (get_or-drop 3 bytes k 0) (h.form k 0 (omega (arith, length-drop 3 bytes, h.long)))

    bound : (k : ℕ) → k < 11 → get_or bytes k 0 < 256
    bound k l = bounds k 0 (omega (arith, h.long))

    pair_at : (k number : ℕ) → k < 7 → number_of (get_or bytes (3 + k) 0) (get_or bytes (3 + (k + 1)) 0) ≡ number →
        (get_or bytes (3 + k) 0 ≡ odd_bits number) × (get_or bytes (3 + (k + 1)) 0 ≡ even_bits number)
    pair_at k number l e = pair_from_number _ _ number (bound (3 + k) (omega arith)) (bound (3 + (k + 1)) (omega arith))
        (byte_form k (omega arith)) (byte_form (k + 1) (omega arith)) e

    mark_at : (k : ℕ) → k < 3 → get_or bytes k 0 ≡ get_or (0xD5 ∷ 0xAA ∷ 0x96 ∷ []) k 0
    mark_at k l = sym (get_or-take 3 bytes k 0 l) ∙ ap (λ xs. get_or xs k 0) h.mark

    byte_is : (k : ℕ) → k < 11 → get_or bytes k 0 ≡ get_or (address_field volume track sector) k 0
    unfolding address_field
    byte_is zero l = mark_at 0 (omega arith)
    byte_is (suc zero) l = mark_at 1 (omega arith)
    byte_is (suc (suc zero)) l = mark_at 2 (omega arith)
    byte_is (suc (suc (suc zero))) l = (pair_at 0 volume (omega arith) h.volume_is).0
    byte_is (suc (suc (suc (suc zero)))) l = (pair_at 0 volume (omega arith) h.volume_is).1
    byte_is (suc (suc (suc (suc (suc zero))))) l = (pair_at 2 track (omega arith) h.track_is).0
    byte_is (suc (suc (suc (suc (suc (suc zero)))))) l = (pair_at 2 track (omega arith) h.track_is).1
    byte_is (suc (suc (suc (suc (suc (suc (suc zero))))))) l = (pair_at 4 sector (omega arith) h.sector_is).0
    byte_is (suc (suc (suc (suc (suc (suc (suc (suc zero)))))))) l = (pair_at 4 sector (omega arith) h.sector_is).1
    byte_is (suc (suc (suc (suc (suc (suc (suc (suc (suc zero))))))))) l = (pair_at 6 (bit_xor (bit_xor volume track) sector) (omega arith) h.checksum_is).0
    byte_is (suc (suc (suc (suc (suc (suc (suc (suc (suc (suc zero)))))))))) l = (pair_at 6 (bit_xor (bit_xor volume track) sector) (omega arith) h.checksum_is).1
    byte_is (suc (suc (suc (suc (suc (suc (suc (suc (suc (suc (suc k))))))))))) l = absurd (omega arith)

    address_field-decoded : bytes ≡ address_field volume track sector
    address_field-decoded = same_lists bytes (address_field volume track sector) (h.long ∙ sym (length-address_field volume track sector))
        (λ k d l. get_or_default bytes k d 0 l ∙ byte_is k (omega (arith, h.long))
        ∙ get_or_default (address_field volume track sector) k 0 d (omega (arith, h.long, length-address_field volume track sector)))

  pub both_decodings : All (λ byte. byte < 256) bytes → volume < 256 → track < 256 → sector < 256 →
      (bytes ≡ address_field volume track sector) ↔ DecodesTo bytes volume track sector
  both_decodings bounds lv lt ls = (decodes-address_field lv lt ls, address_field-decoded bounds)
