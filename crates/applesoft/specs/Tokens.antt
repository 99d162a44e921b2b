-- The program that a text is.
use Rattle.std.specs.Prelude.{◌≡◌, ◌≢◌, ◌<◌, ◌≤◌, ℕ, suc, ◌+◌, ◌==◌, not, Bool, true, if◌then◌else◌, List, [], ◌∷◌, All, filter, flat_map, length, take, drop}
use Rattle.std.specs.List.{AllZip, prefix_len}
use Rattle.std.specs.Char.{is_ascii_digit}
use Rattle.std.specs.Str.Lines.{lines}
use Rattle.std.specs.Str.Parse.{digits_value}
use Rattle.apple_text.specs.Shown.{Text, character}
use Rattle.applesoft.specs.Program.{Line, line_bytes, program_bytes}
use Rattle.applesoft.specs.Scan.{IsScanned}

-- ---- a line of a text

abbrev pub without_spaces : Text → Text
without_spaces [] = []
without_spaces (c ∷ cs) = if c == 32 then without_spaces cs else c ∷ cs

-- a line of spaces alone is passed over
abbrev pub is_passed_over : Text → Bool
is_passed_over text = length (without_spaces text) == 0

-- the digits of its number, behind spaces, and what stands behind them
abbrev pub digits_len : Text → ℕ
digits_len text = prefix_len is_ascii_digit (without_spaces text)

abbrev pub number_digits : Text → Text
number_digits text = take (digits_len text) (without_spaces text)

abbrev pub behind_number : Text → Text
behind_number text = drop (digits_len text) (without_spaces text)

-- a character that a line may have
pub record IsAllowed (code : ℕ) : Type 0 where
  pub some : code ≢ 0
  pub small : code < 128

-- the text shows these characters
pub record Shows (text : Text) (codes : List ℕ) : Type 0 where
  pub allowed : All IsAllowed codes
  pub shown : text ≡ flat_map character codes

-- The text is read as these bytes, of which a line has 250 at most: 255 from its link to its $00, since the machine
-- counts a line in one byte.
pub record IsBody (text : Text) (body : List ℕ) : Type 0 where
  pub codes : List ℕ
  pub shown : Shows text codes
  pub scanned : IsScanned true codes body
  pub some : body ≢ []
  pub short : length body ≤ 250

-- the text is a line of this number and with these bytes
pub record IsRead (text : Text) (number : ℕ) (body : List ℕ) : Type 0 where
  pub digits : number_digits text ≢ []
  pub number_is : number ≡ digits_value 10 (number_digits text)
  pub fits : number < 65536
  pub body_is : IsBody (behind_number text) body

-- the text is this line, wherever it lies
abbrev pub IsLineOf : Text → Line → Type 0
IsLineOf text line = IsRead text line.number line.body

-- ---- a program

-- A line that lies at this address, with this number or a greater one: its link is the address behind it. The greatest
-- link is $FFFD.
pub record IsPlaced (least address : ℕ) (line : Line) : Type 0 where
  pub rising : least ≤ line.number
  pub link : line.link ≡ address + length (line_bytes line)
  pub within : line.link ≤ 0xfffd

-- lines that lie one behind the other from there on, and whose numbers rise
abbrev pub ArePlaced : ℕ → ℕ → List Line → Type 0
ArePlaced least address [] = Unit {0}
ArePlaced least address (line ∷ more) = IsPlaced least address line × ArePlaced (suc line.number) line.link more

-- the texts are the lines of this program, where their numbers rise from this one on and the program begins there
pub record AreTokenized (least address : ℕ) (texts : List Text) (program : List ℕ) : Type 0 where
  pub lines : List Line
  pub read : AllZip IsLineOf (filter (λ text. not (is_passed_over text)) texts) lines
  pub placed : ArePlaced least address lines
  pub bytes : program ≡ program_bytes lines

abbrev pub CanBeTokenized : ℕ → ℕ → List Text → Type 0
CanBeTokenized least address texts = (program : List ℕ) × AreTokenized least address texts program

-- the text is this program, which begins at $0801
abbrev pub IsTokenized : Text → List ℕ → Type 0
IsTokenized text program = AreTokenized 0 0x0801 (lines text) program

-- the lines before the one of this number, from 1, are a program, and with it they are none
pub record AreBadAt (least address : ℕ) (texts : List Text) (before : ℕ) : Type 0 where
  pub good : CanBeTokenized least address (take before texts)
  pub bad : ¬ CanBeTokenized least address (take (suc before) texts)

abbrev pub IsBadLine : Text → ℕ → Type 0
IsBadLine text number = (before : ℕ) × (number ≡ suc before) × AreBadAt 0 0x0801 (lines text) before
