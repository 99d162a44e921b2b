-- How the body of a line is shown, from the left, one item after another. (The listing routine of the ROM of Integer
-- BASIC.)
use Rattle.std.specs.Prelude.{◌≡◌, ℕ, suc, ◌+◌, ◌*◌, ◌==◌, ◌||◌, Bool, if◌then◌else◌, Option, None, Some, List, [], ◌∷◌, ◌++◌, codes, decimal, drop, flat_map, position, take}
use Rattle.std.specs.Int.{is_in_range}
use Rattle.std.specs.List.{prefix_len}
use Rattle.apple_text.specs.Shown.{Text, character, low}
use Rattle.integer_basic.specs.Words.{word_text}

-- what is read: the text that shows it, and what is left of the body
pub record Item : Type 0 where
  pub text : Text
  pub rest : List ℕ

-- ---- bytes

-- bytes as characters: the low seven bits of each
abbrev pub characters : List ℕ → Text
characters bytes = flat_map (λ byte. character (low byte)) bytes

-- a digit, with its high bit
abbrev pub is_digit : ℕ → Bool
is_digit byte = is_in_range 0xb0 0xb9 byte

-- a capital letter, with its high bit
abbrev pub is_letter : ℕ → Bool
is_letter byte = is_in_range 0xc1 0xda byte

abbrev pub is_letter_or_digit : ℕ → Bool
is_letter_or_digit byte = is_letter byte || is_digit byte

-- where the first $29 stands, which ends a string
abbrev pub end_of_string : List ℕ → Option ℕ
end_of_string bytes = position (λ byte. byte == 0x29) bytes

-- how many letters and digits bytes begin with
abbrev pub length_of_name : List ℕ → ℕ
length_of_name bytes = prefix_len is_letter_or_digit bytes

-- ---- items

abbrev pub string_text : List ℕ → Text
string_text inside = 34 ∷ characters inside ++ 34 ∷ []

abbrev pub remark_text : List ℕ → Text
remark_text inside = codes "REM " ++ characters inside

-- what stands before the end of a string, where it has one
abbrev pub string_item : Option ℕ → List ℕ → Option Item
string_item None bytes = None
string_item (Some end) bytes = Some (record { text = string_text (take end bytes); rest = drop (suc end) bytes })

-- a number of two bytes, the low one first
abbrev pub number_item : List ℕ → Option Item
number_item [] = None
number_item (least ∷ []) = None
number_item (least ∷ most ∷ rest) = Some (record { text = decimal (least + 256 * most); rest = rest })

-- a name: all letters and digits up to the first other byte
abbrev pub name_item : List ℕ → Item
name_item bytes = record {
  text = characters (take (length_of_name bytes) bytes);
  rest = drop (length_of_name bytes) bytes;
}

-- the word of a byte, where it has one
abbrev pub word_item : Text → List ℕ → Option Item
word_item [] bytes = None
word_item (c ∷ cs) bytes = Some (record { text = c ∷ cs; rest = bytes })

-- the first item of a body: a string, a remark, a number, a name, or a word
abbrev pub first_item : List ℕ → Option Item
first_item [] = None
first_item (byte ∷ bytes) =
    if byte == 0x28 then string_item (end_of_string bytes) bytes
    else if byte == 0x5d then Some (record { text = remark_text bytes; rest = [] })
    else if is_digit byte then number_item bytes
    else if is_letter byte then Some (name_item (byte ∷ bytes))
    else word_item (word_text byte) bytes

-- the body is shown as this text
pub data IsShown : List ℕ → Text → Type 0 where
  nothing : IsShown [] []
  item : (body : List ℕ) (read : Item) (more : Text) → first_item body ≡ Some read → IsShown read.rest more
      → IsShown body (read.text ++ more)

abbrev pub CanBeShown : List ℕ → Type 0
CanBeShown body = (text : Text) × IsShown body text
