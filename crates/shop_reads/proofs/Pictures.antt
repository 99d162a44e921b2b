-- Lines of a picture, one more at a time.
use Rattle.std.proofs.Common.{◌≡◌, ◌∙◌, ◌<◌, ◌≤◌, ◌+◌, ◌-◌, ◌^◌, ℕ, Bool, true, false, List, [], ◌∷◌, ◌++◌, get_or, length, length-drop, map, min, take, take_all, refl, sym, ap, arith, append-nil}
use Rattle.std.specs.Prelude.{flat_map, decimal, drop, nat_le}
use Rattle.std.proofs.lemmas.Bool.Decides.{nat_tests}
use Rattle.std.specs.List.{range_with_len}
use Rattle.std.specs.Fmt.{format_spec, styled_decimal}
use Rattle.std.proofs.lemmas.Grind.{flat_map-append}
use Rattle.std.proofs.lemmas.List.{append_assoc, flat_map_more, map-id, take_more}
use Rattle.std.proofs.lemmas.List.FromFn.{map-range_with_len_more}
use Rattle.std.proofs.Padding.{padded_integral_right, styled_decimal_is}
use Rattle.file_listings.specs.DosText.{Text, line}
use Rattle.shop_reads.specs.MapText.{counts_text, how_many, last_line, right_in}
use Rattle.shop_reads.specs.declared.place_state.PlaceState.{PlaceState}

-- how a number is laid out that is to stand right in so many columns
pub right_aligned : (width n : ℕ) → styled_decimal (format_spec 32 0 0 width (2 ^ 64 - 1)) n ≡ right_in width n
right_aligned width n =
    styled_decimal_is (format_spec 32 0 0 width (2 ^ 64 - 1)) n
    ∙ padded_integral_right (format_spec 32 0 0 width (2 ^ 64 - 1)) (decimal n) refl refl (λ is. absurd (omega (arith, is))) (λ is. absurd (omega (arith, is))) (omega arith)

-- up to n elements from one on, by the number of the last
pub cut_short : {X : Type 0} (xs : List X) (first behind n : ℕ) → first ≤ length xs → behind ≡ min (length xs) (first + n)
    → take (behind - first) (drop first xs) ≡ take n (drop first xs)
cut_short xs first behind n inside is = by_test (nat_le (first + n) (length xs)) refl
  where
    by_test : (b : Bool) → nat_le (first + n) (length xs) ≡ b → take (behind - first) (drop first xs) ≡ take n (drop first xs)
    by_test true test = let same : behind - first ≡ n = grind (arith, nat_tests) in ap (λ k. take k (drop first xs)) same
    by_test false test =
        let short : length xs ≤ first + n = grind (arith, nat_tests) in
        let all : length (drop first xs) ≡ length xs - first = length-drop first xs in
        take_all (behind - first) (drop first xs) (omega (arith, all, is, short)) ∙ sym (take_all n (drop first xs) (omega (arith, all, short)))

range_more : (n : ℕ) → range_with_len 0 (n + 1) ≡ range_with_len 0 n ++ n ∷ []
range_more n = sym (map-id (range_with_len 0 (n + 1))) ∙ map-range_with_len_more (λ k. k) 0 n n (omega arith) ∙ ap (λ xs. xs ++ n ∷ []) (map-id (range_with_len 0 n))

pub pushed : {X : Type 0} (f : ℕ → X) (now new : List X) (n : ℕ) (x : X) → now ≡ map f (range_with_len 0 n) → new ≡ now ++ x ∷ [] → x ≡ f n
    → new ≡ map f (range_with_len 0 (n + 1))
pushed f now new n x is more at =
    more ∙ ap (λ t. t ++ x ∷ []) is ∙ ap (λ y. map f (range_with_len 0 n) ++ y ∷ []) at ∙ sym (map-range_with_len_more f 0 n n (omega arith))

-- one character more behind some text
pub pushed_behind : (f : ℕ → ℕ) (start now new : Text) (n x : ℕ) → now ≡ start ++ map f (range_with_len 0 n) → new ≡ now ++ x ∷ [] → x ≡ f n
    → new ≡ start ++ map f (range_with_len 0 (n + 1))
pushed_behind f start now new n x is more at =
    more ∙ ap (λ t. t ++ x ∷ []) is ∙ append_assoc start (map f (range_with_len 0 n)) (x ∷ [])
    ∙ ap (λ t. start ++ t) (pushed f (map f (range_with_len 0 n)) (map f (range_with_len 0 n) ++ x ∷ []) n x refl refl at)

-- a number, a space and characters, with the end of a line
pub line_done : (old written told new number characters : Text) → written ≡ old ++ (number ++ 32 ∷ []) → told ≡ written ++ characters
    → new ≡ told ++ 10 ∷ [] → new ≡ old ++ line (number ++ 32 ∷ characters)
line_done old written told new number characters front middle last =
    last ∙ ap (λ t. t ++ 10 ∷ []) middle ∙ ap (λ t. (t ++ characters) ++ 10 ∷ []) front
    ∙ ap (λ t. t ++ 10 ∷ []) (append_assoc old (number ++ 32 ∷ []) characters ∙ ap (λ t. old ++ t) (append_assoc number (32 ∷ []) characters))
    ∙ append_assoc old (number ++ 32 ∷ characters) (10 ∷ [])

-- one line more, of the elements of a list
pub lines_more : {X : Type 0} (f : X → Text) (xs : List X) (d : X) (now new : Text) (i : ℕ) → i < length xs → now ≡ flat_map f (take i xs)
    → new ≡ now ++ f (get_or xs i d) → new ≡ flat_map f (take (i + 1) xs)
lines_more f xs d now new i below is more =
    more ∙ ap (λ t. t ++ f (get_or xs i d)) is ∙ flat_map_more f [] (take i xs) (get_or xs i d) ∙ ap (flat_map f) (sym (take_more xs i d below))

-- one line more
pub line_pushed : (f : ℕ → Text) (now new : Text) (n : ℕ) → now ≡ flat_map f (range_with_len 0 n) → new ≡ now ++ f n
    → new ≡ flat_map f (range_with_len 0 (n + 1))
line_pushed f now new n is more =
    more ∙ ap (λ t. t ++ f n) is
    ∙ sym (ap (λ xs. flat_map f xs) (range_more n) ∙ flat_map-append f (range_with_len 0 n) (n ∷ []) ∙ ap (λ t. flat_map f (range_with_len 0 n) ++ t) (append-nil (f n)))

-- the last line, by counts
pub counted : (parts a b c d : ℕ) (places : List PlaceState) → a ≡ how_many 111 places → b ≡ how_many 120 places → c ≡ how_many 63 places
    → d ≡ how_many 46 places → line (counts_text parts a b c d) ≡ last_line parts places
counted parts a b c d places in_order elsewhere lost free = rw (in_order, elsewhere, lost, free) refl
