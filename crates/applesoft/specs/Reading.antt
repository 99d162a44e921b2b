-- What the readers of texts and programs answer.
use Rattle.std.specs.Prelude.{◌≡◌, ◌≢◌, ◌<◌, ◌==◌, ℕ, Bool, true, List, [], ◌∷◌, ◌++◌, All, length, slice_index, take}
use Rattle.std.specs.Char.{to_ascii_uppercase}
use Rattle.std.specs.Option.{option_to_list}
use Rattle.apple_text.specs.Shown.{Text, character}
use Rattle.applesoft.specs.declared.items.Item as items
use Rattle.applesoft.specs.declared.line.Numbered.{Numbered}
use Rattle.applesoft.specs.declared.listing.ListedLine.{ListedLine}
use Rattle.applesoft.specs.Program.{IsCode, IsLine, Line, line_bytes}
use Rattle.applesoft.specs.Scan.{Found, Item}
use Rattle.applesoft.specs.Tokens.{IsAllowed, without_spaces}

-- a word that was found, by the token and the place behind it
abbrev pub found : ℕ → List ℕ → Found
found token rest = record { token = token; rest = rest }

-- the bytes begin with a line, and the rest stands behind it
pub record IsFirst (bytes : List ℕ) (line : Line) (rest : List ℕ) : Type 0 where
  pub is_line : IsLine line
  pub split : bytes ≡ line_bytes line ++ rest

-- the rest stands behind the character of a code that a line may have
pub record IsFirstCode (text : Text) (code : ℕ) (rest : Text) : Type 0 where
  pub allowed : IsAllowed code
  pub split : text ≡ character code ++ rest

abbrev pub IsNoFirstCode : Text → Type 0
IsNoFirstCode text = (code : ℕ) (rest : Text) → ¬ IsFirstCode text code rest

-- an item, as it is read
abbrev pub item_view : items.Item → Item
item_view item = record {
  bytes = option_to_list item.first ++ item.characters.now;
  rest = item.rest.now;
  begins = item.begins;
}

-- the line that a program begins with
abbrev pub line_view : ListedLine → Line
line_view line = record { link = line.link; number = line.number; body = line.body.now }

-- the first $00 stands there, with characters and tokens alone before it
pub record EndsAt (bytes : List ℕ) (place : ℕ) : Type 0 where
  pub within : place < length bytes
  pub zero : slice_index bytes place ≡ 0
  pub codes : All IsCode (take place bytes)

-- the bytes begin with the body of a line, and the rest stands behind its $00
pub record IsBodyOf (bytes body rest : List ℕ) : Type 0 where
  pub codes : All IsCode body
  pub split : bytes ≡ body ++ 0 ∷ rest

abbrev pub HasNoBody : List ℕ → Type 0
HasNoBody bytes = (body rest : List ℕ) → ¬ IsBodyOf bytes body rest

-- the first newline of a text stands there
pub record IsNewlineAt (text : Text) (place : ℕ) : Type 0 where
  pub within : place < length text
  pub newline : slice_index text place ≡ 10
  pub before : All (λ c. c ≢ 10) (take place text)

-- a line without its link, with this one
abbrev pub line_at : {A : Type 0} → ℕ → Numbered A → Line
line_at link line = record { link = link; number = line.number; body = line.body.items }

-- the letter that characters begin with, as a capital and with the spaces before it passed over; none is $00
abbrev pub letter_of : List ℕ → ℕ
letter_of [] = 0
letter_of (c ∷ cs) = to_ascii_uppercase c

abbrev pub first_letter : List ℕ → ℕ
first_letter codes = letter_of (without_spaces codes)

-- a word begins with a letter, or has none
abbrev pub begins_with : List ℕ → ℕ → Bool
begins_with [] letter = true
begins_with (first ∷ more) letter = letter == first
