-- How the machine reads the characters of a line behind its number, from the left, one item after another. The
-- differences from the machine are that ? is PRINT only where a statement may begin, that small letters are taken as
-- capitals, and that a space is dropped behind REM and DATA.
use Rattle.std.specs.Prelude.{◌≡◌, ℕ, suc, ◌+◌, ◌==◌, ◌&&◌, ◌||◌, not, Bool, false, if◌then◌else◌, Option, None, Some, List, [], ◌∷◌, ◌++◌, take, drop}
use Rattle.std.specs.Option.{option_and_then, option_or}
use Rattle.std.specs.Char.{is_ascii_digit, to_ascii_uppercase}
use Rattle.apple_text.specs.Shown.{Text}
use Rattle.applesoft.specs.Words.{words}

-- ---- words

-- what stands behind a letter, either case of it, with the spaces before it passed over
abbrev pub behind_letter : ℕ → List ℕ → Option (List ℕ)
behind_letter letter [] = None
behind_letter letter (c ∷ cs) =
    if c == 32 then behind_letter letter cs
    else if to_ascii_uppercase c == letter then Some cs
    else None

-- what stands behind a word
abbrev pub behind_word : Text → List ℕ → Option (List ℕ)
behind_word [] codes = Some codes
behind_word (letter ∷ more) codes = option_and_then (behind_word more) (behind_letter letter codes)

-- the very next character is N or O
abbrev pub begins_with_n_or_o : List ℕ → Bool
begins_with_n_or_o [] = false
begins_with_n_or_o (c ∷ cs) = to_ascii_uppercase c == 78 || to_ascii_uppercase c == 79

-- a token, counted from $80, whose word stands there, and what stands behind it
pub record Found : Type 0 where
  pub token : ℕ
  pub rest : List ℕ

-- AT does not stand where N or O comes right behind it
abbrev pub standing : ℕ → Option (List ℕ) → Option Found
standing token None = None
standing token (Some rest) =
    if token == 0x45 && begins_with_n_or_o rest then None else Some (record { token = token; rest = rest })

-- the first of some words that stands there, where the first of them has this token
abbrev pub first_standing : ℕ → List Text → List ℕ → Option Found
first_standing token [] codes = None
first_standing token (word ∷ more) codes =
    option_or (standing token (behind_word word codes)) (first_standing (suc token) more codes)

-- the first in the order of the table whose word stands there
unfoldable pub first_word : List ℕ → Option Found
first_word codes = first_standing 0 words codes

-- ---- lengths

-- how much belongs to a string behind its first quotation mark: all up to and with the next one, or to the end
abbrev pub string_length : List ℕ → ℕ
string_length [] = 0
string_length (c ∷ cs) = if c == 34 then 1 else suc (string_length cs)

-- how much belongs to a DATA: all up to the first `:` outside of quotation marks, or to the end
abbrev pub data_length : Bool → List ℕ → ℕ
data_length quoted [] = 0
data_length quoted (c ∷ cs) =
    if c == 58 && not quoted then 0
    else suc (data_length (if c == 34 then not quoted else quoted) cs)

-- without one space, if there is one
abbrev pub without_space : List ℕ → List ℕ
without_space [] = []
without_space (c ∷ cs) = if c == 32 then cs else c ∷ cs

-- ---- items

-- what is read: its bytes, what is left, and whether a statement may begin there
pub record Item : Type 0 where
  pub bytes : List ℕ
  pub rest : List ℕ
  pub begins : Bool

-- what a token takes: behind REM all that is left, and behind DATA what belongs to it
abbrev pub token_item : ℕ → List ℕ → Item
token_item token rest =
    if token == 0x32 then record { bytes = 0xb2 ∷ without_space rest; rest = []; begins = false }
    else if token == 0x03 then (
    let data_codes = without_space rest in
    let length = data_length false data_codes in
    record { bytes = 0x83 ∷ take length data_codes; rest = drop length data_codes; begins = false })
    else record { bytes = (0x80 + token) ∷ []; rest = rest; begins = token == 0x44 }

-- the word that stands there, or else the first character, a small letter as its capital
abbrev pub word_item : Option Found → ℕ → List ℕ → Item
word_item None c cs = record { bytes = to_ascii_uppercase c ∷ []; rest = cs; begins = false }
word_item (Some found) c cs = token_item found.token found.rest

-- a digit, `:` and `;` are taken as they are
abbrev pub is_taken_alone : ℕ → Bool
is_taken_alone c = is_ascii_digit c || c == 58 || c == 59

-- the first item of some characters: a space, a string, a `?`, a character that is taken as it is, or a word
abbrev pub first_item : Bool → List ℕ → Option Item
first_item begins [] = None
first_item begins (c ∷ cs) =
    if c == 32 then Some (record { bytes = []; rest = cs; begins = begins })
    else if c == 34 then
    Some (record { bytes = 34 ∷ take (string_length cs) cs; rest = drop (string_length cs) cs; begins = false })
    else if c == 63 then
    (if begins then Some (record { bytes = 0xba ∷ []; rest = cs; begins = false }) else None)
    else if is_taken_alone c then Some (record { bytes = c ∷ []; rest = cs; begins = c == 58 })
    else Some (word_item (first_word (c ∷ cs)) c cs)

-- the bytes that the characters are read as; a statement may begin there or not
pub data IsScanned : Bool → List ℕ → List ℕ → Type 0 where
  nothing : (begins : Bool) → IsScanned begins [] []
  item : (begins : Bool) (codes : List ℕ) (read : Item) (more : List ℕ) → first_item begins codes ≡ Some read
      → IsScanned read.begins read.rest more → IsScanned begins codes (read.bytes ++ more)

abbrev pub CanBeScanned : Bool → List ℕ → Type 0
CanBeScanned begins codes = (bytes : List ℕ) × IsScanned begins codes bytes
