-- Texts that stand in a string of JSON as they are.
use Rattle.std.proofs.Common.{◌≡◌, ◌≢◌, ◌∙◌, ℕ, ◌+◌, ◌/◌, ◌%◌, ◌^◌, ◌<◌, ◌≤◌, List, [], ◌∷◌, ◌++◌, refl, ap, arith, decimal, get_or, suc, Fits, w8}
use Rattle.std.specs.Prelude.{⊤}
use Rattle.std.proofs.lemmas.Bool.Decides.{nat_tests}
use Rattle.std.proofs.lemmas.Fmt.{decimal_by_steps}
use Rattle.json.specs.Print.{escape, escape_byte}
use Rattle.json.proofs.Printed.Strings.{escape_byte_plain}
use Rattle.row_text.specs.Shown.{hex_digit, upper_digit, lower_hex, upper_hex}

-- a character that needs no escape
abbrev pub IsPlain : ℕ → Type 0
IsPlain x = (32 ≤ x) × (x ≢ 34) × (x ≢ 92)

abbrev pub ArePlain : List ℕ → Type 0
ArePlain [] = ⊤
ArePlain (x ∷ xs) = IsPlain x × ArePlain xs

pub escape_plain : (xs : List ℕ) → ArePlain xs → escape xs ≡ xs
escape_plain [] h = refl
escape_plain (x ∷ xs) h =
    ap (λ (e : List ℕ). e ++ escape xs) (escape_byte_plain x h.0.1 h.0.2 h.0.0)
    ∙ ap (λ (e : List ℕ). x ∷ e) (escape_plain xs h.1)

-- what prints and is neither a quotation mark nor a backslash
pub stands : (x : ℕ) → 32 ≤ x → x ≢ 34 → x ≢ 92 → escape_byte x ≡ x ∷ []
stands x low quote backslash = escape_byte_plain x quote backslash low

-- ---- decimal

plain_digit : (n : ℕ) → n < 10 → IsPlain (48 + n)
plain_digit n h = (omega arith, omega arith, omega arith)

plain_append : (xs ys : List ℕ) → ArePlain xs → ArePlain ys → ArePlain (xs ++ ys)
plain_append [] ys h k = k
plain_append (x ∷ xs) ys h k = (h.0, plain_append xs ys h.1 k)

pub plain_decimal : (n : ℕ) → n < 2 ^ 64 → ArePlain (decimal n)
plain_decimal =
    decimal_by_steps (λ n ds. ArePlain ds) (λ n h. (plain_digit n h, tt))
    (λ n ds many front. plain_append ds _ front (plain_digit (n % 10) (omega arith), tt))

pub escape_decimal : (n : ℕ) → n < 2 ^ 64 → escape (decimal n) ≡ decimal n
escape_decimal n h = escape_plain (decimal n) (plain_decimal n h)

-- ---- hexadecimal

plain_lower : (n : ℕ) → n < 16 → IsPlain (hex_digit n)
plain_lower n h = (grind (arith, nat_tests), grind (arith, nat_tests), grind (arith, nat_tests))

plain_upper : (n : ℕ) → n < 16 → IsPlain (upper_digit n)
plain_upper n h = (grind (arith, nat_tests), grind (arith, nat_tests), grind (arith, nat_tests))

-- each is a byte
abbrev pub AreBytes : List ℕ → Type 0
AreBytes bytes = (i : ℕ) → Fits w8 (get_or bytes i 0)

plain_lower_hex : (bytes : List ℕ) → AreBytes bytes → ArePlain (lower_hex bytes)
plain_lower_hex [] h = tt
plain_lower_hex (b ∷ bs) h =
    let fits : b < 256 = omega (arith, h 0) in
    (plain_lower (b / 16) (omega arith), (plain_lower (b % 16) (omega arith), plain_lower_hex bs (λ i. h (suc i))))

plain_upper_hex : (bytes : List ℕ) → AreBytes bytes → ArePlain (upper_hex bytes)
plain_upper_hex [] h = tt
plain_upper_hex (b ∷ bs) h =
    let fits : b < 256 = omega (arith, h 0) in
    (plain_upper (b / 16) (omega arith), (plain_upper (b % 16) (omega arith), plain_upper_hex bs (λ i. h (suc i))))

pub escape_lower_hex : (bytes : List ℕ) → AreBytes bytes → escape (lower_hex bytes) ≡ lower_hex bytes
escape_lower_hex bytes h = escape_plain (lower_hex bytes) (plain_lower_hex bytes h)

pub escape_upper_hex : (bytes : List ℕ) → AreBytes bytes → escape (upper_hex bytes) ≡ upper_hex bytes
escape_upper_hex bytes h = escape_plain (upper_hex bytes) (plain_upper_hex bytes h)
