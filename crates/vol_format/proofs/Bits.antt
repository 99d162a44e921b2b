-- Bytes of a unit changed, and bits of a byte put to 0 or to 1: what is put to 0 afterwards is as if it had not been changed.
use Rattle.std.specs.Prelude.{◌≡◌, ◌≢◌, ◌<◌, ℕ, ◌-◌, true, false, Bool, List, length, slice_index, slice_set, bit_and, bit_or}
use Rattle.std.specs.Int.{bit_at}
use Rattle.std.proofs.Common.{sym, ◌∙◌, ap, arith, subst, inl, inr, min, max, ◌^◌, w8}
use Rattle.std.proofs.lemmas.Bool.{cases_eq}
use Rattle.std.proofs.lemmas.List.{ext_get_or, length-set, get_or-set_same, get_or-set_other}
use Rattle.std.proofs.lemmas.Nat.{pow_below}
use Rattle.std.proofs.lemmas.Nat.Bits.{bit_at_and, bit_at_or, bit_at_not, bit_at-pow_same, bit_at-pow_other, bit_at-lt, same_from_bits}

-- one byte of a list, changed
abbrev pub with_byte : (ℕ → ℕ) → ℕ → List ℕ → List ℕ
with_byte change at unit = slice_set unit at (change (slice_index unit at))

pub byte-here : (change : ℕ → ℕ) (at : ℕ) (unit : List ℕ) → at < length unit → slice_index (with_byte change at unit) at ≡ change (slice_index unit at)
byte-here change at unit inside = get_or-set_same unit at (change (slice_index unit at)) 0 inside

pub byte-other : (change : ℕ → ℕ) (at other : ℕ) (unit : List ℕ) → other ≢ at → slice_index (with_byte change at unit) other ≡ slice_index unit other
byte-other change at other unit apart = get_or-set_other unit at other (change (slice_index unit at)) 0 apart

pub length-with_byte : (change : ℕ → ℕ) (at : ℕ) (unit : List ℕ) → length (with_byte change at unit) ≡ length unit
length-with_byte change at unit = length-set unit at (change (slice_index unit at))

-- two changes of one byte
pub twice : (first second both : ℕ → ℕ) (at : ℕ) (unit : List ℕ) → at < length unit → ((byte : ℕ) → second (first byte) ≡ both byte)
    → with_byte second at (with_byte first at unit) ≡ with_byte both at unit
twice first second both at unit inside same = ext_get_or 0 (with_byte second at (with_byte first at unit)) (with_byte both at unit)
    (length-with_byte second at (with_byte first at unit) ∙ length-with_byte first at unit ∙ sym (length-with_byte both at unit))
    (λ k within. elim (cases_eq k at) [
      | inl here ↦ subst (λ n. slice_index (with_byte second at (with_byte first at unit)) n ≡ slice_index (with_byte both at unit) n) (sym here)
          (byte-here second at (with_byte first at unit) (omega (arith, inside, length-with_byte first at unit))
          ∙ ap second (byte-here first at unit inside) ∙ same (slice_index unit at) ∙ sym (byte-here both at unit inside))
      | inr apart ↦ byte-other second at k (with_byte first at unit) apart ∙ byte-other first at k unit apart ∙ sym (byte-other both at k unit apart)
    ])

-- changes of two bytes
pub either_first : (change other : ℕ → ℕ) (at next : ℕ) (unit : List ℕ) → at ≢ next → at < length unit → next < length unit
    → with_byte other next (with_byte change at unit) ≡ with_byte change at (with_byte other next unit)
either_first change other at next unit apart inside within = ext_get_or 0 (with_byte other next (with_byte change at unit)) (with_byte change at (with_byte other next unit))
    (length-with_byte other next (with_byte change at unit) ∙ length-with_byte change at unit
    ∙ sym (length-with_byte change at (with_byte other next unit) ∙ length-with_byte other next unit))
    (λ k below. elim (cases_eq k at) [
      | inl here ↦ subst (λ n. slice_index (with_byte other next (with_byte change at unit)) n ≡ slice_index (with_byte change at (with_byte other next unit)) n) (sym here)
          (byte-other other next at (with_byte change at unit) apart ∙ byte-here change at unit inside
          ∙ sym (byte-here change at (with_byte other next unit) (omega (arith, inside, length-with_byte other next unit)) ∙ ap change (byte-other other next at unit apart)))
      | inr off ↦ elim (cases_eq k next) [
        | inl here ↦ subst (λ n. slice_index (with_byte other next (with_byte change at unit)) n ≡ slice_index (with_byte change at (with_byte other next unit)) n) (sym here)
            (byte-here other next (with_byte change at unit) (omega (arith, within, length-with_byte change at unit)) ∙ ap other (byte-other change at next unit (λ e. apart (sym e)))
            ∙ sym (byte-other change at next (with_byte other next unit) (λ e. apart (sym e)) ∙ byte-here other next unit within))
        | inr away ↦
            byte-other other next k (with_byte change at unit) away ∙ byte-other change at k unit off
            ∙ sym (byte-other change at k (with_byte other next unit) off ∙ byte-other other next k unit away)
      ]
    ])

-- a bit put to 0, and put to 0 or 1
abbrev pub cleared : ℕ → ℕ → ℕ
cleared k byte = bit_and byte (255 - 2 ^ k)

abbrev pub put : Bool → ℕ → ℕ → ℕ
put true k byte = bit_or byte (2 ^ k)
put false k byte = cleared k byte

pub mask-here : (k : ℕ) → k < 8 → bit_at (255 - 2 ^ k) k ≡ 0
mask-here k low = omega (arith, bit_at_not w8 (2 ^ k) k (pow_below k 8 low) low, bit_at-pow_same k)

pub mask-other : (k i : ℕ) → k < 8 → i < 8 → i ≢ k → bit_at (255 - 2 ^ k) i ≡ 1
mask-other k i low at apart = omega (arith, bit_at_not w8 (2 ^ k) i (pow_below k 8 low) at, bit_at-pow_other k i apart)

pub cleared-bit : (k byte i : ℕ) → bit_at (cleared k byte) i ≡ min (bit_at byte i) (bit_at (255 - 2 ^ k) i)
cleared-bit k byte i = bit_at_and byte (255 - 2 ^ k) i

pub put-bit : (k byte i : ℕ) → bit_at (put true k byte) i ≡ max (bit_at byte i) (bit_at (2 ^ k) i)
put-bit k byte i = bit_at_or byte (2 ^ k) i

-- what a bit was makes no difference where it is put to 0
pub cleared-put : (free : Bool) (k byte : ℕ) → k < 8 → cleared k (put free k byte) ≡ cleared k byte
cleared-put true k byte low = same_from_bits (cleared k (put true k byte)) (cleared k byte) (λ i. elim (cases_eq i k) [
  | inl here ↦ subst (λ n. bit_at (cleared k (put true k byte)) n ≡ bit_at (cleared k byte) n) (sym here)
      (omega (arith, cleared-bit k (put true k byte) k, cleared-bit k byte k, mask-here k low))
  | inr apart ↦ omega (arith, cleared-bit k (put true k byte) i, cleared-bit k byte i, put-bit k byte i, bit_at-pow_other k i apart)
])
cleared-put false k byte low = same_from_bits (cleared k (cleared k byte)) (cleared k byte)
    (λ i. omega (arith, cleared-bit k (cleared k byte) i, cleared-bit k byte i))

-- two bits of a byte
pub cleared-either_first : (free : Bool) (j k byte : ℕ) → k < 8 → j < 8 → j ≢ k → cleared j (put free k byte) ≡ put free k (cleared j byte)
cleared-either_first true j k byte low low' apart = same_from_bits (cleared j (put true k byte)) (put true k (cleared j byte)) (λ i. elim (cases_eq i k) [
  | inl here ↦ subst (λ n. bit_at (cleared j (put true k byte)) n ≡ bit_at (put true k (cleared j byte)) n) (sym here)
      (omega (
        arith,
        cleared-bit j (put true k byte) k,
        put-bit k byte k,
        put-bit k (cleared j byte) k,
        cleared-bit j byte k,
        bit_at-pow_same k,
        mask-other j k low' low (λ e. apart (sym e)),
        bit_at-lt byte k,
      ))
  | inr off ↦ omega (arith, cleared-bit j (put true k byte) i, put-bit k byte i, put-bit k (cleared j byte) i, cleared-bit j byte i, bit_at-pow_other k i off)
])
cleared-either_first false j k byte low low' apart = same_from_bits (cleared j (cleared k byte)) (cleared k (cleared j byte))
    (λ i. omega (arith, cleared-bit j (cleared k byte) i, cleared-bit k byte i, cleared-bit k (cleared j byte) i, cleared-bit j byte i))
