-- The file info that eight bytes are.
use Rattle.std.proofs.Common.{◌≡◌, ℕ, ◌+◌, ◌*◌, ◌/◌, ◌%◌, ◌<◌, ◌≤◌, List, ◌∷◌, All, length, get_or, drop, arith, ap}
use Rattle.std.proofs.Common.{◌∙◌}
use Rattle.std.proofs.lemmas.List.{drop_more}
use Rattle.std.proofs.lemmas.List.Elements.{All-from_get_or}
use Rattle.apple_single.specs.Single.{IsInfo}
use Rattle.apple_single.proofs.Tables.{IsByte}

pub are_bytes : (xs : List ℕ) → ((k : ℕ) → get_or xs k 0 < 256) → All IsByte xs
are_bytes xs below = All-from_get_or IsByte xs 0 (λ k within. below k)

abbrev at : List ℕ → ℕ → ℕ
at bytes k = get_or bytes k 0

eight : (bytes : List ℕ) → 8 ≤ length bytes
    → bytes ≡ at bytes 0 ∷ at bytes 1 ∷ at bytes 2 ∷ at bytes 3 ∷ at bytes 4 ∷ at bytes 5 ∷ at bytes 6
    ∷ at bytes 7 ∷ drop 8 bytes
eight bytes enough =
    drop_more bytes 0 0 (omega arith) ∙ ap (λ t. at bytes 0 ∷ t)
    (drop_more bytes 1 0 (omega arith) ∙ ap (λ t. at bytes 1 ∷ t)
    (drop_more bytes 2 0 (omega arith) ∙ ap (λ t. at bytes 2 ∷ t)
    (drop_more bytes 3 0 (omega arith) ∙ ap (λ t. at bytes 3 ∷ t)
    (drop_more bytes 4 0 (omega arith) ∙ ap (λ t. at bytes 4 ∷ t)
    (drop_more bytes 5 0 (omega arith) ∙ ap (λ t. at bytes 5 ∷ t)
    (drop_more bytes 6 0 (omega arith) ∙ ap (λ t. at bytes 6 ∷ t) (drop_more bytes 7 0 (omega arith))))))))

numbers : (a b c d e f g h access file_type aux_type : ℕ) (rest : List ℕ)
    → a < 256 → b < 256 → d < 256 → g < 256 → h < 256 → c ≡ 0 → e ≡ 0 → f ≡ 0
    → access ≡ a * 256 + b → file_type ≡ d → aux_type ≡ g * 256 + h
    → a ∷ b ∷ c ∷ d ∷ e ∷ f ∷ g ∷ h ∷ rest
    ≡ access / 256 ∷ access % 256 ∷ file_type / 256 ∷ file_type % 256 ∷ aux_type / 65536 / 256 ∷ aux_type / 65536 % 256
    ∷ aux_type % 65536 / 256 ∷ aux_type % 65536 % 256 ∷ rest
numbers a b c d e f g h access file_type aux_type rest a' b' d' g' h' c' e' f' access_is type_is aux_is =
    let high : aux_type / 65536 ≡ 0 = omega arith in
    let low : aux_type % 65536 ≡ g * 256 + h = omega arith in
    let one : a ≡ access / 256 = omega arith in
    let two : b ≡ access % 256 = omega arith in
    let three : c ≡ file_type / 256 = omega arith in
    let four : d ≡ file_type % 256 = omega arith in
    let five : e ≡ aux_type / 65536 / 256 = omega arith in
    let six : f ≡ aux_type / 65536 % 256 = omega arith in
    let seven : g ≡ aux_type % 65536 / 256 = omega arith in
    let eight' : h ≡ aux_type % 65536 % 256 = omega arith in
    cc

pub is_info : (bytes : List ℕ) (access file_type aux_type : ℕ) → 8 ≤ length bytes → ((k : ℕ) → at bytes k < 256)
    → at bytes 2 ≡ 0 → at bytes 4 ≡ 0 → at bytes 5 ≡ 0
    → access ≡ at bytes 0 * 256 + at bytes 1 → file_type ≡ at bytes 3 → aux_type ≡ at bytes 6 * 256 + at bytes 7
    → IsInfo bytes (record { access = access; file_type = file_type; aux_type = aux_type })
is_info bytes access file_type aux_type enough below third fifth sixth access_is type_is aux_is = record {
  behind = drop 8 bytes;
  is_info = record {
    access = omega (arith, access_is, below 0, below 1);
    file_type = omega (arith, type_is, below 3);
    aux_type = omega (arith, aux_is, below 6, below 7);
  };
  split = eight bytes enough
      ∙ numbers _ _ _ _ _ _ _ _ access file_type aux_type (drop 8 bytes)
      (below 0) (below 1) (below 3) (below 6) (below 7) third fifth sixth access_is type_is aux_is;
}
