-- A number right in five places, as a format writes it.
use Rattle.std.proofs.Common.{◌≡◌, ℕ, zero, suc, ◌-◌, ◌^◌, false, [], ◌∷◌, ◌++◌, length, arith, refl, ap, ap₂, ◌∙◌, append-nil}
use Rattle.std.specs.Prelude.{encode_utf8, replicate}
use Rattle.std.specs.List.{repeat}
use Rattle.std.specs.Fmt.{char_count, format_spec, padded_integral}
use lib.Utf8.{encode}
use Rattle.apple_text.specs.Shown.{Text}
use Rattle.integer_basic.specs.Program.{right_in}

spaces : (n : ℕ) → repeat n (encode_utf8 32) ≡ replicate n 32
unfolding encode
spaces zero = refl
spaces (suc n) = ap (λ t. 32 ∷ t) (spaces n)

shape : (p q n : ℕ) (numeral : Text) → p ≡ n → q ≡ 0
    → (((repeat p (encode_utf8 32) ++ []) ++ []) ++ []) ++ (numeral ++ repeat q (encode_utf8 32)) ≡ replicate n 32 ++ numeral
shape p q n numeral is none =
    let padding = repeat p (encode_utf8 32) in
    let front : ((padding ++ []) ++ []) ++ [] ≡ replicate n 32
    = append-nil ((padding ++ []) ++ []) ∙ append-nil (padding ++ []) ∙ append-nil padding ∙ ap (λ k. repeat k (encode_utf8 32)) is ∙ spaces n in
    ap₂ (λ a b. a ++ (numeral ++ b)) front (ap (λ k. repeat k (encode_utf8 32)) none) ∙ ap (λ t. replicate n 32 ++ t) (append-nil numeral)

pub right_is : (numeral : Text) → padded_integral (format_spec 32 0 0 5 (2 ^ 64 - 1)) false [] numeral ≡ right_in 5 numeral
unfolding padded_integral char_count
right_is numeral =
    let padding = 5 - length numeral - 0 - 0 in
    shape padding (padding - padding) (5 - length numeral) numeral (omega arith) (omega arith)
