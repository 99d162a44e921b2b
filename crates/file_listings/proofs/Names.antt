-- The spaces at the end of a text.
use Rattle.std.proofs.Common.{◌≡◌, ◌∙◌, ℕ, ◌+◌, ◌-◌, ◌<◌, ◌≤◌, sym, ap, refl, true, false, [], ◌∷◌, ◌++◌, ◌==◌, ◌≢◌, map, take, length, length-take, get_or, arith, eq-eqb}
use Rattle.std.proofs.lemmas.List.{length-map, map_more, take-map}
use Rattle.std.proofs.lemmas.Bool.Decides.{nat_tests}
use Rattle.file_listings.specs.DosText.{Text, name_text, unless_space, without_last_spaces}
use Rattle.row_text.specs.Shown.{shown}

pub without_last_spaces-space : (xs : Text) (y : ℕ) → (y == 32) ≡ true → without_last_spaces (xs ++ y ∷ []) ≡ without_last_spaces xs
without_last_spaces-space [] y e = rw e refl
without_last_spaces-space (x ∷ xs) y e = ap (unless_space x) (without_last_spaces-space xs y e)

unless_space-append : (x : ℕ) (xs : Text) (y : ℕ) → unless_space x (xs ++ y ∷ []) ≡ x ∷ (xs ++ y ∷ [])
unless_space-append x [] y = refl
unless_space-append x (z ∷ zs) y = refl

pub without_last_spaces-other : (xs : Text) (y : ℕ) → (y == 32) ≡ false → without_last_spaces (xs ++ y ∷ []) ≡ xs ++ y ∷ []
without_last_spaces-other [] y e = rw e refl
without_last_spaces-other (x ∷ xs) y e = ap (unless_space x) (without_last_spaces-other xs y e) ∙ unless_space-append x xs y

-- the front of a name, and its last byte
shown_front : (name : Text) (i : ℕ) → i < length name
    → map shown (take (i + 1) name) ≡ map shown (take i name) ++ shown (get_or name i 0) ∷ []
shown_front name i lt = map_more shown name i 0 lt

not_equal : (m n : ℕ) → m ≢ n → (m == n) ≡ false
not_equal m n e = grind (arith, nat_tests)

pub one_space_less : (name : Text) (n : ℕ) → 0 < n → n ≤ length name → shown (get_or name (n - 1) 0) ≡ 32
    → without_last_spaces (map shown (take (n - 1) name)) ≡ without_last_spaces (map shown (take n name))
one_space_less name n pos le e =
    let next : n - 1 + 1 ≡ n = omega arith in
    let front = shown_front name (n - 1) (omega arith) in
    let test : (shown (get_or name (n - 1) 0) == 32) ≡ true = eq-eqb _ _ e in
    sym (without_last_spaces-space (map shown (take (n - 1) name)) _ test) ∙ ap without_last_spaces (sym front)
    ∙ ap (λ (k : ℕ). without_last_spaces (map shown (take k name))) next

pub no_space_left : (name : Text) (n : ℕ) → 0 < n → n ≤ length name → shown (get_or name (n - 1) 0) ≢ 32
    → take n (map shown name) ≡ without_last_spaces (map shown (take n name))
no_space_left name n pos le e =
    let next : n - 1 + 1 ≡ n = omega arith in
    let front = ap (λ (k : ℕ). map shown (take k name)) (sym next) ∙ shown_front name (n - 1) (omega arith) in
    let test : (shown (get_or name (n - 1) 0) == 32) ≡ false = not_equal _ _ e in
    take-map shown n name ∙ front ∙ sym (without_last_spaces-other (map shown (take (n - 1) name)) _ test) ∙ ap without_last_spaces (sym front)

-- as many bytes are shown as the text has
pub as_many_shown : (name : Text) (n : ℕ) → n ≤ length name → take n (map shown name) ≡ name_text name → n ≡ length (name_text name)
as_many_shown name n within is =
    omega (arith, within, length-take n (map shown name), length-map name shown, ap (λ (text : Text). length text) is)
