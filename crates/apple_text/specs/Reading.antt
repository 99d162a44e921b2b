-- What a text begins with, as the readers of texts answer it.
use Rattle.std.specs.Prelude.{◌≡◌, ◌<◌, ◌⊎◌, ℕ, ◌∷◌, ◌++◌, Bool, ◌&&◌, nat_le, nat_lt, List, drop, map, take_while}
use Rattle.std.specs.List.{prefix_len}
use Rattle.apple_text.specs.declared.form.HighBit.{HighBit}
use Rattle.apple_text.specs.declared.form.TextForm.{TextForm}
use Rattle.apple_text.specs.Shown.{Text, character, low, shown_code, with_high}
use Rattle.apple_text.specs.Taken.{IsAllowed}

-- the rest stands behind the character of a code
pub record IsBehind (text : Text) (code : ℕ) (rest : Text) : Type 0 where
  pub small : code < 128
  pub split : text ≡ character code ++ rest

-- no code's character begins the text
abbrev pub BeginsWithNone : Text → Type 0
BeginsWithNone text = (code : ℕ) (rest : Text) → ¬ IsBehind text code rest

-- the rest stands behind what shows a code, or behind "\r\n"
pub record BeginsWith (text : Text) (code : ℕ) (rest : Text) : Type 0 where
  pub small : code < 128
  pub split : (text ≡ shown_code code ++ rest) ⊎ ((code ≡ 13) × (text ≡ 13 ∷ 10 ∷ rest))

-- nothing that shows a code begins the text
abbrev pub BeginsWithNoCode : Text → Type 0
BeginsWithNoCode text = (code : ℕ) (rest : Text) → ¬ BeginsWith text code rest

-- the rest stands behind what shows a byte that may be there
pub record IsFirstByte (form : TextForm) (text : Text) (byte : ℕ) (rest : Text) : Type 0 where
  pub allowed : IsAllowed form byte
  pub begins : BeginsWith text (low byte) rest

-- the text begins with no byte that may be there
abbrev pub IsStuck : TextForm → Text → Type 0
IsStuck form text = (byte : ℕ) (rest : Text) → ¬ IsFirstByte form text byte rest

-- a code that is its own character
abbrev pub is_plain : ℕ → Bool
is_plain code = nat_le 0x20 code && nat_lt code 0x7f

-- the bytes of the plain characters that the text begins with, and the text behind those characters
abbrev pub plain_bytes : HighBit → Text → List ℕ
plain_bytes high text = map (λ c. with_high high (low c)) (take_while is_plain text)

abbrev pub behind_plain : Text → Text
behind_plain text = drop (prefix_len is_plain text) text

-- a byte that is shown as a plain character
abbrev pub shows_plain : ℕ → Bool
shows_plain byte = is_plain (low byte)

-- what the first bytes are shown as, as long as that is plain, and the bytes behind those
abbrev pub plainly_shown : List ℕ → Text
plainly_shown bytes = map low (take_while shows_plain bytes)

abbrev pub behind_shown : List ℕ → List ℕ
behind_shown bytes = drop (prefix_len shows_plain bytes) bytes
