-- What is shown is UTF-8.
use Rattle.std.proofs.Common.{◌≡◌, ℕ, zero, suc, ◌<◌, ◌&&◌, Bool, true, false, List, [], ◌∷◌, arith, refl, sym, subst, inl, inr}
use lib.Utf8.{encode}
use Rattle.std.specs.Str.{IsUtf8, chars, is_utf8}
use Rattle.std.proofs.lemmas.Bool.{cases_eq}
use Rattle.std.proofs.lemmas.Str.{IsUtf8-append, IsUtf8-from_is_utf8, IsUtf8-nil}
use Rattle.apple_text.specs.Shown.{low, shown_code, shown_text}
use Rattle.apple_text.proofs.Taking.{low_small}

-- a test of all numbers below another
unfoldable pub all_below : (ℕ → Bool) → ℕ → Bool
all_below p zero = true
all_below p (suc n) = p n && all_below p n

pub both : (a b : Bool) → (a && b) ≡ true → (a ≡ true) × (b ≡ true)
both true b e = (refl, e)
both false b e = absurd (let no' : false ≡ true = e in cc)

pub below : (p : ℕ → Bool) (n c : ℕ) → all_below p n ≡ true → c < n → p c ≡ true
unfolding all_below
below p zero c e less = absurd (omega (arith, less))
below p (suc n) c e less = elim (cases_eq c n) [
  | inl is ↦ subst (λ m. p m ≡ true) (sym is) (both (p n) (all_below p n) e).0
  | inr other ↦ below p n c (both (p n) (all_below p n) e).1 (omega (arith, less, other))
]

all_codes : all_below (λ c. is_utf8 (shown_code c)) 128 ≡ true
unfolding all_below is_utf8 chars encode
all_codes = refl

code_utf8 : (c : ℕ) → c < 128 → IsUtf8 (shown_code c)
code_utf8 c small = IsUtf8-from_is_utf8 (shown_code c) (below (λ d. is_utf8 (shown_code d)) 128 c all_codes small)

pub shown_utf8 : (bytes : List ℕ) → IsUtf8 (shown_text bytes)
shown_utf8 [] = IsUtf8-nil
shown_utf8 (b ∷ bytes) = IsUtf8-append (shown_code (low b)) (shown_text bytes) (code_utf8 (low b) (low_small b)) (shown_utf8 bytes)
