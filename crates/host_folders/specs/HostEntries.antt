-- What the name of a file or folder on the host says of an entry that is to be made on a volume: the names that are
-- made for entries, read the other way, and those of NuLib2, whose manual has the type and the aux type behind `#`,
-- `%%` for a percent sign, and with `-ee` an extension behind the type.
use Rattle.std.specs.Prelude.{◌≡◌, ◌≢◌, ◌⊎◌, ℕ, ◌<◌, ◌≤◌, ◌==◌, ◌||◌, ◌&&◌, nat_le, nat_lt, Bool, true, IsTrue, List, [], ◌∷◌, ◌++◌, length, codes}
use Rattle.std.specs.List.{list_all}
use Rattle.std.specs.Char.{is_ascii_alphanumeric, is_ascii_digit, is_digit}
use Rattle.std.specs.Str.Parse.{digits_value}
use Rattle.vol_layout.specs.declared.form.PlaceForm.{PlaceForm}
use Rattle.vol_layout.specs.declared.form.PlaceForm.TheVariants.{Sector, Block}
use Rattle.host_folders.specs.HostNames.{character_byte, escape_byte, is_plain}
use Rattle.host_folders.specs.declared.said.Content.{Content}
use Rattle.host_folders.specs.declared.said.Content.TheVariants.{Bytes, Text, Program}
use Rattle.host_folders.specs.declared.said.HostFile.{HostFile}

-- a number in this many hexadecimal digits, of either case
pub record IsHexadecimal (count : ℕ) (text : List ℕ) (number : ℕ) : Type 0 where
  pub long : length text ≡ count
  pub digits : IsTrue (list_all (λ c. is_digit c 16) text)
  pub value : digits_value 16 text ≡ number

-- ---- the stem

-- a character of a stem: a plain one, or the percent sign, which is written twice
pub data IsCharacter : List ℕ → ℕ → Type 0 where
  plain : (c : ℕ) → IsTrue (is_plain c) → IsCharacter (c ∷ []) c
  doubled : IsCharacter (codes "%%") 37

-- a number that says a byte where it stands alone behind `%`: in DOS 3.3 a control character ($00 to $1F, $80 to $9F,
-- $FF), or another character without its highest bit ($20 to $7E)
abbrev pub is_escape : PlaceForm → ℕ → Bool
is_escape Sector n = nat_lt n 0x7f || (nat_le 0x80 n && nat_lt n 0xa0) || n == 0xff
is_escape Block n = true

-- a piece of a stem, and the byte of the stored name that it says: a character, `%` and two digits, or in DOS 3.3 `%7f`
-- before an escape, for a byte with its highest bit off
pub data SaysByte (form : PlaceForm) : List ℕ → ℕ → Type 0 where
  character : (text : List ℕ) (c : ℕ) → IsCharacter text c → SaysByte form text (character_byte form c)
  escaped : (digits : List ℕ) (n : ℕ) → IsHexadecimal 2 digits n → IsTrue (is_escape form n)
      → SaysByte form (37 ∷ digits) (escape_byte form n)
  marked : (mark digits : List ℕ) (n : ℕ) → form ≡ Sector → IsHexadecimal 2 mark 0x7f → IsHexadecimal 2 digits n
      → 0x20 ≤ n → n < 0x80 → SaysByte form (37 ∷ mark ++ 37 ∷ digits) n

-- pieces one after another, and their bytes
pub data SaysBytes (form : PlaceForm) : List ℕ → List ℕ → Type 0 where
  none : SaysBytes form [] []
  more : (piece text : List ℕ) (byte : ℕ) (bytes : List ℕ) → SaysByte form piece byte → SaysBytes form text bytes
      → SaysBytes form (piece ++ text) (byte ∷ bytes)

-- a stem, and the stored name that it says: pieces, or for the empty name `%` alone
pub data SaysName (form : PlaceForm) : List ℕ → List ℕ → Type 0 where
  empty : SaysName form (codes "%") []
  some : (text name : List ℕ) → name ≢ [] → SaysBytes form text name → SaysName form text name

-- nothing, or the number that tells entries of a folder apart
pub data IsNumbering : List ℕ → Type 0 where
  first : IsNumbering []
  further : (digits : List ℕ) → digits ≢ [] → IsTrue (list_all is_ascii_digit digits) → IsNumbering (126 ∷ digits)

-- the name of a folder, and the stored name that it says: a stem, and maybe a number, which says nothing
pub record SaysFolder (form : PlaceForm) (text name : List ℕ) : Type 0 where
  pub stem : List ℕ
  pub number : List ℕ
  pub split : text ≡ stem ++ number
  pub says : SaysName form stem name
  pub numbering : IsNumbering number

-- ---- the tail

-- an extension: a period, and one to three letters or digits
pub record IsExtension (text : List ℕ) : Type 0 where
  pub letters : List ℕ
  pub split : text ≡ codes "." ++ letters
  pub some : 1 ≤ length letters
  pub most : length letters ≤ 3
  pub allowed : IsTrue (list_all is_ascii_alphanumeric letters)

-- what stands behind the digits, and what the bytes of a file of this type then are: those that the file is to have, or
-- a text in UTF-8 that is turned into them, of a text or of the listing of a program in Applesoft
pub data SaysContent : List ℕ → ℕ → Content → Type 0 where
  stored : (end : List ℕ) (type : ℕ) → (end ≡ []) ⊎ IsExtension end → SaysContent end type Bytes
  readable : SaysContent (codes ".utf8.txt") 0x04 Text
  listed : SaysContent (codes ".utf8.txt") 0xfc Program

-- two digits of the type, four of the aux type, and what the bytes are
pub record SaysTail (tail : List ℕ) (type aux : ℕ) (content : Content) : Type 0 where
  pub type_digits : List ℕ
  pub aux_digits : List ℕ
  pub end : List ℕ
  pub split : tail ≡ type_digits ++ (aux_digits ++ end)
  pub says_type : IsHexadecimal 2 type_digits type
  pub says_aux : IsHexadecimal 4 aux_digits aux
  pub says_content : SaysContent end type content

-- ---- the file

-- a file that is to be made on a volume
pub record FileView : Type 0 where
  pub name : List ℕ
  pub file_type : ℕ
  pub aux_type : ℕ
  pub content : Content

abbrev pub file_view : {A : Type 0} → HostFile A → FileView
file_view f = record {
  name = f.name.items;
  file_type = f.file_type;
  aux_type = f.aux_type;
  content = f.content;
}

-- the name of a file, and what it says: a name as of a folder, `#`, and type and aux type
pub record SaysFile (form : PlaceForm) (text : List ℕ) (file : FileView) : Type 0 where
  pub front : List ℕ
  pub tail : List ℕ
  pub split : text ≡ front ++ (codes "#" ++ tail)
  pub says_name : SaysFolder form front file.name
  pub says_tail : SaysTail tail file.file_type file.aux_type file.content
