-- What is read of a word of hexadecimal digits, two after two.
use Rattle.std.specs.Prelude.{◌≡◌, ◌<◌, ◌+◌, ℕ, List, [], ◌∷◌, ◌++◌, length, drop, Option, Some, None, option_map}
use Rattle.std.proofs.Common.{refl, sym, ◌∙◌, ap, arith, get_or, append_assoc}
use Rattle.std.proofs.lemmas.List.{drop_more, length-drop}
use Rattle.shop_words.specs.Hexadecimal.{bytes_named, byte_before, hex_byte}

-- these bytes, and then those of the digits from a number on
abbrev pub ReadTo : List ℕ → List ℕ → ℕ → Type 0
ReadTo digits bytes from = option_map (λ later. bytes ++ later) (bytes_named (drop from digits)) ≡ bytes_named digits

two_more : (digits : List ℕ) (from : ℕ) → from + 1 < length digits
    → drop from digits ≡ get_or digits from 0 ∷ get_or digits (from + 1) 0 ∷ drop (from + 2) digits
two_more digits from within =
    let next : from + 1 + 1 ≡ from + 2 = omega arith in
    drop_more digits from 0 (omega (arith, within))
    ∙ ap (λ (rest : List ℕ). get_or digits from 0 ∷ rest) (drop_more digits (from + 1) 0 within)
    ∙ ap (λ n. get_or digits from 0 ∷ get_or digits (from + 1) 0 ∷ drop n digits) next

module _ (digits bytes : List ℕ) (from : ℕ) (within : from + 1 < length digits) (read : ReadTo digits bytes from) where
  abbrev rest : List ℕ
  rest = drop (from + 2) digits

  two_read : option_map (λ later. bytes ++ later) (byte_before (hex_byte (get_or digits from 0) (get_or digits (from + 1) 0)) (bytes_named rest)) ≡ bytes_named digits
  two_read = sym (ap (λ (word : List ℕ). option_map (λ later. bytes ++ later) (bytes_named word)) (two_more digits from within)) ∙ read

  pub byte_read : (byte : ℕ) (more : List ℕ) → hex_byte (get_or digits from 0) (get_or digits (from + 1) 0) ≡ Some byte → more ≡ bytes ++ byte ∷ [] → ReadTo digits more (from + 2)
  byte_read byte more is pushed =
      ap (λ (front : List ℕ). option_map (λ later. front ++ later) (bytes_named rest)) pushed
      ∙ behind (bytes_named rest)
      ∙ ap (λ (found : Option ℕ). option_map (λ later. bytes ++ later) (byte_before found (bytes_named rest))) (sym is)
      ∙ two_read
    where
      behind : (later : Option (List ℕ)) → option_map (λ (more : List ℕ). (bytes ++ byte ∷ []) ++ more) later ≡ option_map (λ (more : List ℕ). bytes ++ more) (byte_before (Some byte) later)
      behind None = refl
      behind (Some later) = ap (λ (all : List ℕ). Some all) (append_assoc bytes (byte ∷ []) later)

one_left : (word : List ℕ) → length word ≡ 1 → bytes_named word ≡ None
one_left [] is = absurd (omega (arith, is))
one_left (digit ∷ []) is = refl
one_left (digit ∷ other ∷ more) is = absurd (omega (arith, is))

pub odd_read : (digits bytes : List ℕ) (from : ℕ) → length digits ≡ from + 1 → ReadTo digits bytes from → None ≡ bytes_named digits
odd_read digits bytes from one read =
    let left : length (drop from digits) ≡ 1 = omega (arith, one, length-drop from digits) in
    ap (λ (found : Option (List ℕ)). option_map (λ later. bytes ++ later) found) (sym (one_left (drop from digits) left)) ∙ read
