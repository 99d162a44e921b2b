-- Programs in Applesoft BASIC as they lie in memory, and their listings. (Applesoft BASIC Programmer's Reference
-- Manual: a line has a link, its number and its characters and tokens; a link of 0 ends a program.)
use Rattle.std.specs.Prelude.{◌≡◌, ◌≢◌, ◌<◌, ℕ, ◌-◌, ◌/◌, ◌%◌, nat_lt, if◌then◌else◌, List, [], ◌∷◌, ◌++◌, flat_map, decimal, All}
use Rattle.apple_text.specs.Shown.{Text, character}
use Rattle.applesoft.specs.Words.{word_of}

-- a line: the address of the next one, its number, and its characters and tokens
pub record Line : Type 0 where
  pub link : ℕ
  pub number : ℕ
  pub body : List ℕ

-- a byte of a line is a character or the token of a word
pub record IsCode (byte : ℕ) : Type 0 where
  pub some : byte ≢ 0
  pub token : byte < 0xeb

-- a line as the bytes of a program can say it
pub record IsLine (line : Line) : Type 0 where
  pub linked : line.link ≢ 0
  pub link : line.link < 65536
  pub number : line.number < 65536
  pub body : All IsCode line.body

-- ---- bytes

-- a number as two bytes, the low one first
abbrev pub two_bytes : ℕ → List ℕ
two_bytes n = n % 256 ∷ n / 256 ∷ []

-- a line: link, number, its bytes, and $00
abbrev pub line_bytes : Line → List ℕ
line_bytes line = two_bytes line.link ++ two_bytes line.number ++ line.body ++ 0 ∷ []

-- a program: its lines, and a link of 0
abbrev pub program_bytes : List Line → List ℕ
program_bytes lines = flat_map line_bytes lines ++ 0 ∷ 0 ∷ []

-- ---- texts

-- a byte of a line: a character, or a word between spaces
abbrev pub byte_text : ℕ → Text
byte_text byte = if nat_lt byte 0x80 then character byte else 32 ∷ word_of (byte - 0x80) ++ 32 ∷ []

-- a line: its number, a space, and what its bytes are listed as
abbrev pub line_text : Line → Text
line_text line = decimal line.number ++ 32 ∷ flat_map byte_text line.body

-- the texts of the lines, each with a newline behind it
abbrev pub listing : List Line → Text
listing lines = flat_map (λ line. line_text line ++ 10 ∷ []) lines

-- the bytes are a program, whatever stands behind it, and this is its listing
pub record IsListed (bytes : List ℕ) (text : Text) : Type 0 where
  pub lines : List Line
  pub behind : List ℕ
  pub are_lines : All IsLine lines
  pub bytes_are : bytes ≡ program_bytes lines ++ behind
  pub text_is : text ≡ listing lines

-- the bytes are a program
abbrev pub CanBeListed : List ℕ → Type 0
CanBeListed bytes = (text : Text) × IsListed bytes text
