-- Programs in Integer BASIC as they lie in memory, and their listings. (Apple II Reference Manual, and the listing
-- routine of the ROM: a line has its length, its number, its body and $01; a length of 0 ends a program.)
use Rattle.std.specs.Prelude.{◌≡◌, ◌<◌, ◌≤◌, ℕ, ◌+◌, ◌-◌, ◌/◌, ◌%◌, ◌==◌, Bool, true, IsTrue, List, [], ◌∷◌, ◌++◌, All, decimal, flat_map, length, replicate}
use Rattle.apple_text.specs.Shown.{Text}
use Rattle.integer_basic.specs.Items.{IsShown}

-- a line: its number, its body, and the text that shows its body
pub record Line : Type 0 where
  pub number : ℕ
  pub body : List ℕ
  pub text : Text

-- a line as the bytes of a program can say it: its length is at most 255
pub record IsLine (line : Line) : Type 0 where
  pub number : line.number < 65536
  pub short : length line.body ≤ 251
  pub shown : IsShown line.body line.text

-- ---- bytes

-- a number as two bytes, the low one first
abbrev pub two_bytes : ℕ → List ℕ
two_bytes n = n % 256 ∷ n / 256 ∷ []

-- a line of this number and body: its length, its number, its body, and $01
abbrev pub line_bytes : ℕ → List ℕ → List ℕ
line_bytes number body = (4 + length body) ∷ two_bytes number ++ body ++ 1 ∷ []

-- lines, one behind the other
abbrev pub lines_bytes : List Line → List ℕ
lines_bytes lines = flat_map (λ line. line_bytes line.number line.body) lines

-- a program ends with the bytes, or with a length of 0, whatever stands behind that
abbrev pub is_end : List ℕ → Bool
is_end [] = true
is_end (first ∷ behind) = first == 0

-- ---- texts

-- right in so many places, spaces before it
abbrev pub right_in : ℕ → Text → Text
right_in places text = replicate (places - length text) 32 ++ text

-- a line: its number, right in five places, a space, and what its body is shown as
abbrev pub line_text : ℕ → Text → Text
line_text number text = right_in 5 (decimal number) ++ 32 ∷ text

-- the texts of the lines, each with a newline behind it
abbrev pub listing : List Line → Text
listing lines = flat_map (λ line. line_text line.number line.text ++ 10 ∷ []) lines

-- the bytes are a program, with what stands behind its lines, and this is its listing
pub record IsListed (bytes : List ℕ) (text : Text) : Type 0 where
  pub lines : List Line
  pub behind : List ℕ
  pub are_lines : All IsLine lines
  pub bytes_are : bytes ≡ lines_bytes lines ++ behind
  pub ends : IsTrue (is_end behind)
  pub text_is : text ≡ listing lines

-- the bytes are a program
abbrev pub CanBeListed : List ℕ → Type 0
CanBeListed bytes = (text : Text) × IsListed bytes text
