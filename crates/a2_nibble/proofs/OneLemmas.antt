-- There is one content, one field and one encoding.
use Rattle.std.proofs.Common.{◌≡◌, ◌⊎◌, ℕ, zero, suc, ◌+◌, ◌-◌, ◌*◌, ◌/◌, ◌%◌, ◌<◌, ◌≤◌, List, [], ◌∷◌, length, get_or, eqb, refl, sym, ap, ◌∙◌, subst, arith, ⊎_elim, add-one, inl, inr}
use Rattle.std.specs.Prelude.{bit_xor}
use Rattle.std.specs.Int.{bit_at}
use Rattle.std.specs.Int.Bits.{xor_assoc, xor_self, xor_zero_l}
use Rattle.std.proofs.lemmas.List.{same_lists, get_or_default}
use Rattle.std.proofs.lemmas.Bool.{cases_lt, cases_order, cases_Bool, cond-true, cond-false, eqb-true}
use Rattle.std.proofs.lemmas.Nat.Bits.{same_from_bits_below, bit_at_above}
use Rattle.a2_nibble.specs.DiskBytes.{disk_bytes, place_in, value_of}
use Rattle.a2_nibble.specs.Field.{IsByte, Gives, IsEncoded, value_at}
use Rattle.a2_nibble.specs.Track.{nibble_at, field_at}
use Rattle.a2_nibble.specs.Sector.{HasMark, IsFieldOf, SectorOf}
use Rattle.a2_nibble.specs.Address.{number_of}
use Rattle.a2_nibble.proofs.AddressLemmas.{volume_from_address}
use Rattle.a2_nibble.proofs.FieldLemmas.{before, before-more, before-step, value_at-small}
use Rattle.a2_nibble.proofs.SearchLemmas.{one_mark}

one_byte : (value : ℕ → ℕ) (i a b : ℕ) → IsByte value i a → IsByte value i b → a ≡ b
one_byte value i a b h k = same_from_bits_below 8 a b h.fits k.fits bits
  where
    bits : (n : ℕ) → n < 8 → bit_at a n ≡ bit_at b n
    bits zero l = h.lowest ∙ sym k.lowest
    bits (suc zero) l = h.second ∙ sym k.second
    bits (suc (suc n)) l =
        let two : suc (suc n) ≡ n + 2 = omega arith in
        ap (bit_at a) two ∙ h.high n (omega arith) ∙ sym (k.high n (omega arith)) ∙ ap (bit_at b) (sym two)

pub one_content_of : (bytes a b : List ℕ) → Gives bytes a → Gives bytes b → a ≡ b
one_content_of bytes a b h k = same_lists a b (h.long ∙ sym k.long) (λ i d l.
    let inside : i < 256 = omega (arith, h.long) in
    get_or_default a i d 0 l ∙ one_byte (value_at bytes) i _ _ (h.byte_at i inside) (k.byte_at i inside)
    ∙ get_or_default b i 0 d (omega (arith, k.long)))

-- the field of a sector is one
module _ (nibbles : List ℕ) (track sector v d v' d' : ℕ) (h : IsFieldOf nibbles track sector v d) (k : IsFieldOf nibbles track sector v' d') where
  one_place_of : h.place ≡ k.place
  one_place_of = ⊎_elim (λ same. same)
      (λ other. absurd (⊎_elim (λ less. k.least h.place less v d h.counts) (λ more. h.least k.place more v' d' k.counts) other))
      (cases_order h.place k.place)

  pub one_data : d ≡ d'
  one_data = one_mark nibbles (h.place + 11) d d' h.counts.mark
      (subst (λ p. HasMark nibbles (p + 11) d') (sym one_place_of) k.counts.mark)

  pub one_volume : v ≡ v'
  one_volume =
      sym (volume_from_address nibbles h.place v track sector h.counts.volume_fits h.counts.address)
      ∙ ap (λ p. number_of (nibble_at nibbles (p + 3)) (nibble_at nibbles (p + 4))) one_place_of
      ∙ volume_from_address nibbles k.place v' track sector k.counts.volume_fits k.counts.address

pub one_content : (nibbles : List ℕ) (track sector : ℕ) (a b : List ℕ) → SectorOf nibbles track sector a → SectorOf nibbles track sector b → a ≡ b
one_content nibbles t s a b h k =
    one_content_of (field_at nibbles h.data_at) a b h.gives
    (subst (λ d. Gives (field_at nibbles d) b) (sym (one_data nibbles t s h.volume h.data_at k.volume k.data_at h.field k.field)) k.gives)

-- a byte of the table has one value
at_place : (xs : List ℕ) (b : ℕ) → place_in xs b < length xs → get_or xs (place_in xs b) 0 ≡ b
at_place [] b l = absurd (omega arith)
at_place (x ∷ xs) b l = ⊎_elim
    (λ yes.
    let here : place_in (x ∷ xs) b ≡ 0 = cond-true (eqb x b) _ _ yes in
    ap (λ n. get_or (x ∷ xs) n 0) here ∙ eqb-true x b yes)
    (λ else_.
    let there : place_in (x ∷ xs) b ≡ suc (place_in xs b) = cond-false (eqb x b) _ _ else_ ∙ add-one (place_in xs b) in
    ap (λ n. get_or (x ∷ xs) n 0) there ∙ at_place xs b (omega (arith, there)))
    (cases_Bool (eqb x b))

one_disk_byte : (a b : ℕ) → value_of a < 64 → value_of a ≡ value_of b → a ≡ b
unfolding value_of
one_disk_byte a b l e =
    sym (at_place disk_bytes a l) ∙ ap (λ n. get_or disk_bytes n 0) e ∙ at_place disk_bytes b (omega (arith, l, e))

-- the values of an encoding are those of the content
module _ (content a b : List ℕ) (h : IsEncoded content a) (k : IsEncoded content b) where
  value_bits : (j g : ℕ) → j < 86 → j + 86 * g < 256 → (bit_at (value_at a j) (2 * g) ≡ bit_at (value_at b j) (2 * g)) × (bit_at (value_at a j) (2 * g + 1) ≡ bit_at (value_at b j) (2 * g + 1))
  value_bits j g l m =
      let i = j + 86 * g in
      let row : (j + 86 * g) % 86 ≡ j = omega arith in
      let col : (j + 86 * g) / 86 ≡ g = omega arith in
      let ha = h.gives.byte_at (j + 86 * g) m in
      let hb = k.gives.byte_at (j + 86 * g) m in
      let second = sym ha.second ∙ hb.second in
      let lowest = sym ha.lowest ∙ hb.lowest in (
        sym (ap (λ n. bit_at (value_at a n) (2 * ((j + 86 * g) / 86))) row ∙ ap (λ n. bit_at (value_at a j) (2 * n)) col) ∙ second
            ∙ ap (λ n. bit_at (value_at b n) (2 * ((j + 86 * g) / 86))) row ∙ ap (λ n. bit_at (value_at b j) (2 * n)) col,
        sym (ap (λ n. bit_at (value_at a n) (2 * ((j + 86 * g) / 86) + 1)) row ∙ ap (λ n. bit_at (value_at a j) (2 * n + 1)) col) ∙ lowest
            ∙ ap (λ n. bit_at (value_at b n) (2 * ((j + 86 * g) / 86) + 1)) row ∙ ap (λ n. bit_at (value_at b j) (2 * n + 1)) col,
      )

  spare_bits : (j n : ℕ) → 84 ≤ j → j < 86 → 4 ≤ n → bit_at (value_at a j) n ≡ bit_at (value_at b j) n
  spare_bits j n l m four = ⊎_elim
      (λ first. let at : 84 ≡ j = omega arith in
      subst (λ j. bit_at (value_at a j) n ≡ bit_at (value_at b j) n) at
      (bit_at_above (value_at a 84) 4 n h.spare.0 four ∙ sym (bit_at_above (value_at b 84) 4 n k.spare.0 four)))
      (λ second. let at : 85 ≡ j = omega arith in
      subst (λ j. bit_at (value_at a j) n ≡ bit_at (value_at b j) n) at
      (bit_at_above (value_at a 85) 4 n h.spare.1 four ∙ sym (bit_at_above (value_at b 85) 4 n k.spare.1 four)))
      (cases_lt j 85)

  group_bit : (j g n : ℕ) → j < 86 → g < 3 → (n ≡ 2 * g) ⊎ (n ≡ 2 * g + 1) → bit_at (value_at a j) n ≡ bit_at (value_at b j) n
  group_bit j g n l few is = ⊎_elim
      (λ inside. let both = value_bits j g l inside in
      ⊎_elim (λ e. subst (λ n. bit_at (value_at a j) n ≡ bit_at (value_at b j) n) (sym e) both.0)
      (λ o. subst (λ n. bit_at (value_at a j) n ≡ bit_at (value_at b j) n) (sym o) both.1) is)
      (λ past. spare_bits j n (omega arith) l (⊎_elim (λ e. omega arith) (λ o. omega arith) is))
      (cases_lt (j + 86 * g) 256)

  small_a : (j : ℕ) → j < 342 → value_at a j < 64
  small_a j l = value_at-small a h.counts.in_table j (omega (arith, h.long))

  small_b : (j : ℕ) → j < 342 → value_at b j < 64
  small_b j l = value_at-small b k.counts.in_table j (omega (arith, k.long))

  parity : (n : ℕ) → (n ≡ 2 * (n / 2)) ⊎ (n ≡ 2 * (n / 2) + 1)
  parity n = ⊎_elim (λ e. inl (omega arith)) (λ o. inr (omega arith)) (cases_lt (n % 2) 1)

  same_value : (j : ℕ) → j < 342 → value_at a j ≡ value_at b j
  same_value j l = same_from_bits_below 6 (value_at a j) (value_at b j) (small_a j l) (small_b j l) (λ n six. ⊎_elim
      (λ low. group_bit j (n / 2) n low (omega arith) (parity n))
      (λ high.
      let at : 86 + (j - 86) ≡ j = omega arith in
      let ha = h.gives.byte_at (j - 86) (omega arith) in
      let hb = k.gives.byte_at (j - 86) (omega arith) in
      subst (λ j. bit_at (value_at a j) n ≡ bit_at (value_at b j) n) at (sym (ha.high n six) ∙ hb.high n six))
      (cases_lt j 86))

  same_before : (j : ℕ) → j ≤ 342 → before a j ≡ before b j
  same_before zero l = refl
  same_before (suc j) l =
      ap (before a) (sym (add-one j)) ∙ before-more a j ∙ same_value j l ∙ sym (before-more b j) ∙ ap (before b) (add-one j)

  -- a disk value is the value with the value before it taken off
  taken_off : (x : List ℕ) (j : ℕ) → j < length x → value_of (get_or x j 0) ≡ bit_xor (before x j) (before x (j + 1))
  taken_off x j l =
      let d = value_of (get_or x j 0) in
      sym (xor_zero_l d) ∙ ap (λ n. bit_xor n d) (sym (xor_self (before x j))) ∙ xor_assoc (before x j) (before x j) d
      ∙ ap (bit_xor (before x j)) (sym (before-step x j l))

  same_disk_value : (j : ℕ) → j < 343 → value_of (get_or a j 0) ≡ value_of (get_or b j 0)
  same_disk_value j l = ⊎_elim
      (λ inside.
      taken_off a j (omega (arith, h.long)) ∙ ap (λ n. bit_xor n (before a (j + 1))) (same_before j (omega arith))
      ∙ ap (bit_xor (before b j)) (same_before (j + 1) (omega arith)) ∙ sym (taken_off b j (omega (arith, k.long))))
      (λ last. let at : 342 ≡ j = omega arith in
      subst (λ j. value_of (get_or a j 0) ≡ value_of (get_or b j 0)) at
      (h.counts.checksum ∙ same_value 341 (omega arith) ∙ sym k.counts.checksum))
      (cases_lt j 342)

  pub one_encoding : a ≡ b
  one_encoding = same_lists a b (h.long ∙ sym k.long) (λ j d l.
      let inside : j < 343 = omega (arith, h.long) in
      get_or_default a j d 0 l ∙ one_disk_byte _ _ (h.counts.in_table j 0 l) (same_disk_value j inside)
      ∙ get_or_default b j 0 d (omega (arith, k.long)))
