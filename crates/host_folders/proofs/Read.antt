-- A text that spells a name reads as it, and does so without regard to case.
use Rattle.std.proofs.Common.{◌≡◌, ◌≢◌, ℕ, ◌+◌, ◌*◌, ◌/◌, ◌%◌, ◌<◌, ◌≤◌, true, false, List, [], ◌∷◌, ◌++◌, arith, refl, sym, ap, ap₂, ◌∙◌, inl, inr}
use Rattle.std.specs.Prelude.{◌==◌, flat_map}
use Rattle.std.specs.Char.{digit_char, digit_value, to_ascii_lowercase}
use Rattle.std.proofs.lemmas.Grind.{common_steps}
use Rattle.std.proofs.lemmas.Bool.{cases_Bool}
use Rattle.std.proofs.lemmas.List.{map-append}
use Rattle.std.proofs.lemmas.Str.{digit_value-digit_char}
use Rattle.vol_layout.specs.declared.form.PlaceForm.{PlaceForm}
use Rattle.vol_layout.specs.declared.form.PlaceForm.TheVariants.{Sector, Block}
use Rattle.host_folders.specs.HostNames.{character_byte, escape, escape_byte, folded, is_plain, is_printed, name_read, piece, text_bytes, unmarked}
use Rattle.host_folders.proofs.Spelled.{Spells, none, stands, escaped, marked, IsAlone, plain_no_percent, escape_byte_printed, escape_byte_unprinted}

-- ---- reading

number_read : (n : ℕ) → n < 256 → 16 * digit_value (digit_char (n / 16)) + digit_value (digit_char (n % 16)) ≡ n
number_read n h =
    let high = digit_value-digit_char (n / 16) (omega arith) in
    let low = digit_value-digit_char (n % 16) (omega arith) in
    rw (high) (rw (low) (omega arith))

no_percent : (c : ℕ) → c ≢ 37 → (c == 37) ≡ false
no_percent c h = grind arith

no_mark : (b : ℕ) → b ≢ 127 → (b == 127) ≡ false
no_mark b h = grind arith

character_read : (form : PlaceForm) (c : ℕ) (text : List ℕ) → c ≢ 37
    → text_bytes form (c ∷ text) ≡ character_byte form c ∷ text_bytes form text
character_read form c [] h = rw (no_percent c h) refl
character_read form c (d ∷ []) h = rw (no_percent c h) refl
character_read form c (d ∷ e ∷ text) h = rw (no_percent c h) refl

escape_read : (form : PlaceForm) (n : ℕ) (text : List ℕ) → n < 256
    → text_bytes form (escape n ++ text) ≡ escape_byte form n ∷ text_bytes form text
escape_read form n text h = ap (λ (k : ℕ). escape_byte form k ∷ text_bytes form text) (number_read n h)

unmarked_other : (b : ℕ) (bytes : List ℕ) → b ≢ 127 → unmarked (b ∷ bytes) ≡ b ∷ unmarked bytes
unmarked_other b [] h = refl
unmarked_other b (d ∷ bytes) h = rw (no_mark b h) refl

pub read_character : (form : PlaceForm) (c : ℕ) (text : List ℕ) → c ≢ 37
    → name_read form (c ∷ text) ≡ character_byte form c ∷ name_read form text
read_character Sector c text h =
    ap unmarked (character_read Sector c text h) ∙ unmarked_other (128 + c) _ (λ e. omega arith)
read_character Block c text h = character_read Block c text h

alone_unmarked : (n : ℕ) → n ≢ 127 → escape_byte Sector n ≢ 127
alone_unmarked n h = elim (cases_Bool (is_printed n)) [
  | inl seen ↦ λ e. let f : 128 + n ≡ 127 = sym (escape_byte_printed n seen) ∙ e in omega arith
  | inr not_seen ↦ λ e. h (sym (escape_byte_unprinted n not_seen) ∙ e)
]

pub read_escape : (form : PlaceForm) (n : ℕ) (text : List ℕ) → n < 256 → IsAlone form n
    → name_read form (escape n ++ text) ≡ escape_byte form n ∷ name_read form text
read_escape Sector n text h k =
    ap unmarked (escape_read Sector n text h) ∙ unmarked_other (escape_byte Sector n) _ (alone_unmarked n k)
read_escape Block n text h k = escape_read Block n text h

inverse_byte : (b : ℕ) → 32 ≤ b → b < 128 → escape_byte Sector b % 128 ≡ b
inverse_byte b h k = elim (cases_Bool (is_printed b)) [
  | inl seen ↦ rw (escape_byte_printed b seen) (omega arith)
  | inr not_seen ↦ rw (escape_byte_unprinted b not_seen) (omega arith)
]

marked_read : (b : ℕ) (text : List ℕ) → 32 ≤ b → b < 128
    → name_read Sector (escape 127 ++ (escape b ++ text)) ≡ b ∷ name_read Sector text
marked_read b text h k =
    ap (λ (bytes : List ℕ). unmarked (127 ∷ bytes)) (escape_read Sector b text (omega arith))
    ∙ ap (λ (d : ℕ). d ∷ name_read Sector text) (inverse_byte b h k)

pub read_marked : (form : PlaceForm) (b : ℕ) (text : List ℕ) → form ≡ Sector → 32 ≤ b → b < 128
    → name_read form (escape 127 ++ (escape b ++ text)) ≡ b ∷ name_read form text
read_marked Sector b text e h k = marked_read b text h k
read_marked Block b text e h k = absurd cc

pub read_none : (form : PlaceForm) → name_read form [] ≡ []
read_none Sector = refl
read_none Block = refl

pub read_spelled : (form : PlaceForm) (bytes text : List ℕ) → Spells form bytes text → name_read form text ≡ bytes
read_spelled form _ _ none = read_none form
read_spelled form _ _ (stands c bytes text h s) =
    read_character form c text (plain_no_percent c h)
    ∙ ap (λ (bs : List ℕ). character_byte form c ∷ bs) (read_spelled form bytes text s)
read_spelled form _ _ (escaped n bytes text h k s) =
    read_escape form n text h k ∙ ap (λ (bs : List ℕ). escape_byte form n ∷ bs) (read_spelled form bytes text s)
read_spelled form _ _ (marked b bytes text e h k s) =
    read_marked form b text e h k ∙ ap (λ (bs : List ℕ). b ∷ bs) (read_spelled form bytes text s)

-- ---- without regard to case

pub low_digit : (d : ℕ) → d < 16 → to_ascii_lowercase (digit_char d) ≡ digit_char d
low_digit d h = grind arith

pub folded_escape : (n : ℕ) (text : List ℕ) → n < 256 → folded (escape n ++ text) ≡ escape n ++ folded text
folded_escape n text h =
    let high = low_digit (n / 16) (omega arith) in
    let low = low_digit (n % 16) (omega arith) in
    ap₂ (λ (a b : ℕ). 37 ∷ a ∷ b ∷ folded text) high low

pub low_plain : (c : ℕ) → is_plain c ≡ true → is_plain (to_ascii_lowercase c) ≡ true
low_plain c h = grind (arith, common_steps)

low_twice : (c : ℕ) → to_ascii_lowercase (to_ascii_lowercase c) ≡ to_ascii_lowercase c
low_twice c = grind arith

pub piece_character : (form : PlaceForm) (c : ℕ) → is_plain c ≡ true → piece form (character_byte form c) ≡ c ∷ []
piece_character Sector c h = grind (arith, common_steps)
piece_character Block c h = rw (h) refl

-- the stem of some bytes, without regard to case
abbrev pub folded_stem : PlaceForm → List ℕ → List ℕ
folded_stem form bytes = folded (flat_map (piece form) bytes)

pub folded_more : (form : PlaceForm) (b : ℕ) (bytes : List ℕ)
    → folded_stem form (b ∷ bytes) ≡ folded (piece form b) ++ folded_stem form bytes
folded_more form b bytes = map-append to_ascii_lowercase (piece form b) (flat_map (piece form) bytes)

-- what is read where no regard is paid to case has the stem of the name, without regard to case
pub folded_read : (form : PlaceForm) (bytes text : List ℕ) → Spells form bytes text
    → folded_stem form (name_read form (folded text)) ≡ folded_stem form bytes
folded_read form _ _ none = ap (folded_stem form) (read_none form)
folded_read form _ _ (stands c bytes text h s) =
    let low = to_ascii_lowercase c in
    let plain = low_plain c h in
    ap (folded_stem form) (read_character form low (folded text) (plain_no_percent low plain))
    ∙ folded_more form (character_byte form low) (name_read form (folded text))
    ∙ ap₂ (λ (front rest : List ℕ). folded front ++ rest)
    (piece_character form low plain) (folded_read form bytes text s)
    ∙ ap (λ (d : ℕ). d ∷ folded_stem form bytes) (low_twice c)
    ∙ sym (ap (λ (front : List ℕ). folded front ++ folded_stem form bytes) (piece_character form c h))
    ∙ sym (folded_more form (character_byte form c) bytes)
folded_read form _ _ (escaped n bytes text h k s) =
    ap (λ (t : List ℕ). folded_stem form (name_read form t)) (folded_escape n text h)
    ∙ ap (folded_stem form) (read_escape form n (folded text) h k)
    ∙ folded_more form (escape_byte form n) (name_read form (folded text))
    ∙ ap (λ (t : List ℕ). folded (piece form (escape_byte form n)) ++ t) (folded_read form bytes text s)
    ∙ sym (folded_more form (escape_byte form n) bytes)
folded_read form _ _ (marked b bytes text e h k s) =
    ap (λ (t : List ℕ). folded_stem form (name_read form t)) (folded_escape 127 (escape b ++ text) (omega arith))
    ∙ ap (λ (t : List ℕ). folded_stem form (name_read form (escape 127 ++ t))) (folded_escape b text (omega arith))
    ∙ ap (folded_stem form) (read_marked form b (folded text) e h k)
    ∙ folded_more form b (name_read form (folded text))
    ∙ ap (λ (t : List ℕ). folded (piece form b) ++ t) (folded_read form bytes text s)
    ∙ sym (folded_more form b bytes)
