-- The values of disk bytes, one after the other.
use Rattle.std.proofs.Common.{◌≡◌, ◌≢◌, set, get_or-set_other, get_or-set_same, ℕ, zero, suc, ◌+◌, ◌-◌, ◌*◌, ◌/◌, ◌%◌, ◌^◌, ◌<◌, ◌≤◌, List, length, get_or, take, map, fold, All, ltb, sym, ap, subst, ◌∙◌, refl, arith, ⊎_elim, add-one}
use Rattle.std.specs.Prelude.{bit_xor}
use Rattle.std.specs.Int.Bits.{xor_assoc, xor_comm, xor_self, xor_zero_l, xor_lt}
use Rattle.std.specs.Int.{bit_at}
use Rattle.std.proofs.lemmas.List.{get_or-map, get_or_default, get_or_past}
use Rattle.std.proofs.lemmas.Bool.{cond_both, cond-true, cond-false, lt-ltb, le-ltb, cases_lt}
use Rattle.std.proofs.Math.ListN.{length-map}
use Rattle.std.proofs.lemmas.List.Sums.{fold_more}
use Rattle.std.proofs.lemmas.List.FromFn.{length-map-range_with_len, get_or-map-range_with_len}
use Rattle.std.proofs.lemmas.Nat.{shr-shr}
use Rattle.a2_nibble.specs.DiskBytes.{value_of}
use Rattle.a2_nibble.specs.Field.{value_at, IsByte, IsDataField, Gives, IsEncoded, byte_of, content_of}
use Rattle.a2_nibble.specs.Written.{swapped, low_pair, written_value}

-- the exclusive or of the values of the first k disk bytes
abbrev pub before : List ℕ → ℕ → ℕ
before bytes k = fold bit_xor 0 (take k (map value_of bytes))

pub value_at-step : (bytes : List ℕ) (k : ℕ) → k < length bytes →
    value_at bytes k ≡ bit_xor (before bytes k) (value_of (get_or bytes k 0))
unfolding value_at
value_at-step bytes k l =
    let long : k < length (map value_of bytes) = omega (arith, length-map {A = ℕ} {B = ℕ} bytes value_of) in
    fold_more bit_xor 0 (map value_of bytes) k 0 long ∙ ap (bit_xor (before bytes k)) (get_or-map value_of bytes k 0 0 l)

pub before-more : (bytes : List ℕ) (k : ℕ) → before bytes (k + 1) ≡ value_at bytes k
unfolding value_at
before-more bytes k = refl

-- a byte's bits from its value and its pair
pub IsByte-from : (value : ℕ → ℕ) (i byte group pair : ℕ) → byte < 256 → pair < 4 →
    byte ≡ value (86 + i) * 4 + swapped pair → group ≡ value (i % 86) → pair ≡ group / 2 ^ (2 * (i / 86)) % 4 → IsByte value i byte
IsByte-from value i byte group pair fits small e g p = record {
  fits = fits;
  high = λ b l.
      let four : byte / 2 ^ 2 ≡ value (86 + i) = omega arith in
      sym (ap (λ n. n % 2) (ap (λ n. n / 2 ^ b) (sym four) ∙ shr-shr byte 2 b ∙ ap (λ n. byte / 2 ^ n) (omega arith)));
  second =
      let low : byte % 4 ≡ swapped pair = omega arith in
      let one : byte / 2 % 2 ≡ pair % 2 = omega arith in
      let same : pair % 2 ≡ group / 2 ^ (2 * (i / 86)) % 2 = omega (arith, p) in
      one ∙ same ∙ ap (λ n. n / 2 ^ (2 * (i / 86)) % 2) g;
  lowest =
      let one : byte % 2 ≡ pair / 2 = omega arith in
      let same : pair / 2 ≡ group / 2 ^ (2 * (i / 86)) / 2 % 2 = omega (arith, p) in
      let shift : group / 2 ^ (2 * (i / 86)) / 2 ≡ group / 2 ^ (2 * (i / 86) + 1) = shr-shr group (2 * (i / 86)) 1 in
      let bit0 : byte / 1 % 2 ≡ byte % 2 = omega arith in
      bit0 ∙ one ∙ same ∙ ap (λ n. n % 2) shift ∙ ap (λ n. n / 2 ^ (2 * (i / 86) + 1) % 2) g;
}

-- the same from the third of the sector in which the byte is
pub IsByte-from_third : (values : List ℕ) (third i byte pair : ℕ) → 86 * third ≤ i → i < 86 * third + 86 → i < 256 →
    get_or values (86 + i) 0 < 64 → pair ≡ get_or values (i - 86 * third) 0 / 2 ^ (2 * third) % 4 →
    byte ≡ get_or values (86 + i) 0 * 4 + swapped pair → IsByte (λ k. get_or values k 0) i byte
IsByte-from_third values third i byte pair from till inside small p e =
    let row : i - 86 * third ≡ i % 86 = omega arith in
    let col : third ≡ i / 86 = omega arith in
    IsByte-from (λ k. get_or values k 0) i byte (get_or values (i - 86 * third) 0) pair (omega arith) (omega arith) e
    (ap (λ n. get_or values n 0) row) (p ∙ ap (λ n. get_or values (i - 86 * third) 0 / 2 ^ (2 * n) % 4) col)

-- one more byte put behind those from a place on
pub IsByte-set : (value : ℕ → ℕ) (content : List ℕ) (start i byte : ℕ) → i < length content →
    ((k : ℕ) → start ≤ k → k < i → IsByte value k (get_or content k 0)) → IsByte value i byte →
    (k : ℕ) → start ≤ k → k < i + 1 → IsByte value k (get_or (set content i byte) k 0)
IsByte-set value content start i byte room before here k from l = ⊎_elim under over (cases_lt k i)
  where
    under : k < i → IsByte value k (get_or (set content i byte) k 0)
    under less = let ne : k ≢ i = omega arith in rw get_or-set_other (before k from less)

    over : i ≤ k → IsByte value k (get_or (set content i byte) k 0)
    over more =
        let at : i ≡ k = omega arith in
        let put : IsByte value i (get_or (set content i byte) i 0) = rw get_or-set_same here in
        subst (λ n. IsByte value n (get_or (set content i byte) n 0)) at put

pub before-step : (bytes : List ℕ) (k : ℕ) → k < length bytes →
    before bytes (k + 1) ≡ bit_xor (before bytes k) (value_of (get_or bytes k 0))
before-step bytes k l = before-more bytes k ∙ value_at-step bytes k l

-- the value written before the k-th
abbrev pub before_value : List ℕ → ℕ → ℕ
before_value content zero = 0
before_value content (suc k) = written_value content k

-- the values of disk bytes in the table are below 64
pub before-small : (bytes : List ℕ) → All (λ byte. value_of byte < 64) bytes → (k : ℕ) → k ≤ length bytes → before bytes k < 64
before-small bytes each zero l = omega arith
before-small bytes each (suc k) l =
    let inside : k < length bytes = omega arith in
    let step = before-step bytes k inside in
    let here = xor_lt 6 (before bytes k) (value_of (get_or bytes k 0)) (before-small bytes each k (omega arith)) (each k 0 inside) in
    let one : suc k ≡ k + 1 = omega arith in
    let more : before bytes (suc k) ≡ before bytes (k + 1) = ap (before bytes) one in
    omega (arith, step, here, more)

pub value_at-small : (bytes : List ℕ) → All (λ byte. value_of byte < 64) bytes → (k : ℕ) → k < length bytes → value_at bytes k < 64
value_at-small bytes each k l = omega (arith, before-more bytes k, before-small bytes each (k + 1) (omega arith))

-- disk bytes that count give the content that is computed from them
pub Gives-content_of : (bytes : List ℕ) → length bytes ≡ 343 → IsDataField bytes → Gives bytes (content_of bytes)
unfolding content_of
Gives-content_of bytes long h = record {
  long = length-map-range_with_len (byte_of bytes) 0 256;
  byte_at = λ i l.
      let at : get_or (content_of bytes) i 0 ≡ byte_of bytes i = get_or-map-range_with_len (byte_of bytes) 0 256 i i 0 l (omega arith) in
      let high : value_at bytes (86 + i) < 64 = value_at-small bytes h.in_table (86 + i) (omega arith) in
      subst (IsByte (value_at bytes) i) (sym at)
      (IsByte-from (value_at bytes) i (byte_of bytes i) (value_at bytes (i % 86)) (value_at bytes (i % 86) / 2 ^ (2 * (i / 86)) % 4)
      (omega arith) (omega arith) refl refl refl);
}

-- disk bytes that count give a content
pub some_content : (bytes : List ℕ) → length bytes ≡ 343 → IsDataField bytes → (content : List ℕ) × Gives bytes content
some_content bytes long h = (content_of bytes, Gives-content_of bytes long h)

-- one byte of the sector, by equal values
pub IsByte-along : (f g : ℕ → ℕ) (i byte : ℕ) → i < 256 → ((k : ℕ) → k < 342 → f k ≡ g k) → IsByte f i byte → IsByte g i byte
IsByte-along f g i byte l same h = record {
  fits = h.fits;
  high = λ b p. h.high b p ∙ ap (λ n. bit_at n b) (same (86 + i) (omega arith));
  second = h.second ∙ ap (λ n. bit_at n (2 * (i / 86))) (same (i % 86) (omega arith));
  lowest = h.lowest ∙ ap (λ n. bit_at n (2 * (i / 86) + 1)) (same (i % 86) (omega arith));
}

-- a group of low bits, from the bytes of the content with zeros behind them
pub group-padded : (content bytes : List ℕ) (j a b c : ℕ) → ((k : ℕ) → k < 258 → get_or bytes k 0 ≡ get_or content k 0) → j < 86 →
    a ≡ swapped (get_or bytes j 0 % 4) → b ≡ swapped (get_or bytes (j + 86) 0 % 4) → c ≡ swapped (get_or bytes (j + 172) 0 % 4) →
    a + 4 * b + 16 * c ≡ low_pair content j + 4 * low_pair content (j + 86) + 16 * low_pair content (j + 172)
group-padded content bytes j a b c same l e f g =
    let first = e ∙ ap (λ n. swapped (n % 4)) (same j (omega arith)) in
    let second = f ∙ ap (λ n. swapped (n % 4)) (same (j + 86) (omega arith)) in
    let third = g ∙ ap (λ n. swapped (n % 4)) (same (j + 172) (omega arith)) in
    cc

-- a value is its disk value with the value before it taken off twice
xor_back : (a b : ℕ) → bit_xor a (bit_xor b a) ≡ b
xor_back a b = ap (bit_xor a) (xor_comm b a) ∙ sym (xor_assoc a a b) ∙ ap (λ n. bit_xor n b) (xor_self a) ∙ xor_zero_l b

module _ (content : List ℕ) (long : length content ≡ 256) (fits : (i : ℕ) → get_or content i 0 < 256) where
  pub low_pair-small : (i : ℕ) → low_pair content i < 4
  low_pair-small i = omega arith

  pub written_value-small : (k : ℕ) → written_value content k < 64
  unfolding written_value
  written_value-small k = cond_both (ltb k 86) _ _ (λ v. v < 64) (λ _. omega arith) (λ _. omega (arith, fits (k - 86)))

  before_value-small : (k : ℕ) → before_value content k < 64
  before_value-small zero = omega arith
  before_value-small (suc k) = written_value-small k

  written_low : (j : ℕ) → j < 86 → written_value content j ≡ low_pair content j + 4 * low_pair content (j + 86) + 16 * low_pair content (j + 172)
  unfolding written_value
  written_low j l = cond-true (ltb j 86) _ _ (lt-ltb j 86 l)

  written_high : (i : ℕ) → written_value content (86 + i) ≡ get_or content i 0 / 4
  unfolding written_value
  written_high i = cond-false (ltb (86 + i) 86) _ _ (le-ltb (86 + i) 86 (omega arith)) ∙ ap (λ n. get_or content n 0 / 4) (omega arith)

  -- values whose groups and high bits are the content's
  pub value-written : (values : List ℕ) →
      ((j : ℕ) → j < 86 → get_or values j 0 ≡ low_pair content j + 4 * low_pair content (j + 86) + 16 * low_pair content (j + 172)) →
      ((i : ℕ) → i < 256 → get_or values (86 + i) 0 ≡ get_or content i 0 / 4) →
      (k : ℕ) → k < 342 → get_or values k 0 ≡ written_value content k
  value-written values groups highs k l = ⊎_elim
      (λ low. groups k low ∙ sym (written_low k low))
      (λ high.
      let at : 86 + (k - 86) ≡ k = omega arith in
      ap (λ n. get_or values n 0) (sym at) ∙ highs (k - 86) (omega arith) ∙ sym (written_high (k - 86)) ∙ ap (written_value content) at)
      (cases_lt k 86)

  written_pair : (j g : ℕ) → j < 86 → g < 3 → low_pair content (j + 86 * g) ≡ written_value content j / 2 ^ (2 * g) % 4
  written_pair j zero l s = let e = written_low j l in let at : low_pair content (j + 86 * 0) ≡ low_pair content j = ap (low_pair content) (omega arith) in omega (arith, e, at)
  written_pair j (suc zero) l s = let e = written_low j l in let at : low_pair content (j + 86 * 1) ≡ low_pair content (j + 86) = ap (low_pair content) (omega arith) in omega (arith, e, at)
  written_pair j (suc (suc zero)) l s = let e = written_low j l in let at : low_pair content (j + 86 * 2) ≡ low_pair content (j + 172) = ap (low_pair content) (omega arith) in omega (arith, e, at)
  written_pair j (suc (suc (suc g))) l s = absurd (omega arith)

  written_spare : (k : ℕ) → 84 ≤ k → k < 86 → written_value content k < 16
  written_spare k a b = omega (arith, written_low k b, get_or_past content (k + 172) 0 (omega arith), low_pair-small k, low_pair-small (k + 86))

  pub written_byte : (i : ℕ) → i < 256 → IsByte (written_value content) i (get_or content i 0)
  written_byte i l =
      let at : low_pair content (i % 86 + 86 * (i / 86)) ≡ low_pair content i = ap (low_pair content) (omega arith) in
      IsByte-from (written_value content) i (get_or content i 0) (written_value content (i % 86)) (low_pair content i) (fits i)
      (low_pair-small i) (omega (arith, written_high i)) refl (sym at ∙ written_pair (i % 86) (i / 86) (omega arith) (omega arith))

  module _ (bytes : List ℕ) (whole : length bytes ≡ 343)
      (done : (j : ℕ) → j < 342 → value_of (get_or bytes j 0) ≡ bit_xor (written_value content j) (before_value content j))
      (check : value_of (get_or bytes 342 0) ≡ written_value content 341) where
    before_is : (k : ℕ) → k ≤ 342 → before bytes k ≡ before_value content k
    before_is zero l = refl
    before_is (suc k) l =
        ap (before bytes) (sym (add-one k)) ∙ before-step bytes k (omega arith)
        ∙ ap (λ n. bit_xor n (value_of (get_or bytes k 0))) (before_is k (omega arith))
        ∙ ap (bit_xor (before_value content k)) (done k (omega arith)) ∙ xor_back (before_value content k) (written_value content k)

    value_is : (k : ℕ) → k < 342 → written_value content k ≡ value_at bytes k
    value_is k l = sym (before_is (suc k) (omega arith)) ∙ ap (before bytes) (sym (add-one k)) ∙ before-more bytes k

    small_at : (k : ℕ) → k < 343 → value_of (get_or bytes k 0) < 64
    small_at k l = ⊎_elim
        (λ under. let e = done k under in let x = xor_lt 6 (written_value content k) (before_value content k) (written_value-small k) (before_value-small k) in omega (arith, e, x))
        (λ over. let at : k ≡ 342 = omega arith in let e = ap (λ n. value_of (get_or bytes n 0)) at in omega (arith, e, check, written_value-small 341))
        (cases_lt k 342)

    spare_at : (k : ℕ) → 84 ≤ k → k < 86 → value_at bytes k < 16
    spare_at k a b = omega (arith, value_is k (omega arith), written_spare k a b)

    pub IsEncoded-from : IsEncoded content bytes
    IsEncoded-from = record {
      long = whole;
      counts = record {
        in_table = λ k d l. subst (λ byte. value_of byte < 64) (get_or_default bytes k 0 d l) (small_at k (omega arith));
        checksum = check ∙ value_is 341 (omega arith);
      };
      gives = record { long = long; byte_at = λ i l. IsByte-along _ _ i _ l value_is (written_byte i l) };
      spare = (spare_at 84 (omega arith) (omega arith), spare_at 85 (omega arith) (omega arith));
    }
