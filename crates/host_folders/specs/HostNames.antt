-- Names of the files of a volume on the host: which name an entry gets, when a name is safe, and what a name says.
use Rattle.std.specs.Prelude.{◌≢◌, ℕ, ◌+◌, ◌-◌, ◌*◌, ◌/◌, ◌%◌, ◌≤◌, ◌==◌, ◌&&◌, not, nat_le, nat_lt, Bool, true, false, if◌then◌else◌, IsTrue, IsFalse, Option, Some, None, List, [], ◌∷◌, ◌++◌, map, flat_map, length, take, drop, slice_index, slice_range, All, codes, decimal, bytes_eq}
use Rattle.std.specs.List.{before_first, list_any, suffix_len}
use Rattle.std.specs.Char.{digit_char, digit_value, to_ascii_lowercase}
use Rattle.std.specs.Str.Parse.{digits_value}
use Rattle.vol_layout.specs.declared.form.PlaceForm.{PlaceForm}
use Rattle.vol_layout.specs.declared.form.PlaceForm.TheVariants.{Sector, Block}
use Rattle.host_folders.specs.declared.entry.Naming.{Naming}
use Rattle.host_folders.specs.declared.entry.Naming.TheVariants.{Naps, Plain}
use Rattle.host_folders.specs.declared.entry.Stored.{Stored}

-- ---- characters

-- a text on the host, in ASCII
abbrev pub Text : Type 0
Text = List ℕ

-- whether a character is one of some
abbrev pub is_one_of : Text → ℕ → Bool
is_one_of characters c = list_any (λ x. x == c) characters

-- a space or a character that is seen
abbrev pub is_printed : ℕ → Bool
is_printed c = nat_le 0x20 c && nat_lt c 0x7f

-- a character that stands for itself in a stem
abbrev pub is_plain : ℕ → Bool
is_plain c = is_printed c && not (is_one_of (codes "\"%*/:<>?\\|~") c)

-- the two hexadecimal digits of a byte
abbrev pub digits : ℕ → Text
digits byte = digit_char (byte / 16) ∷ digit_char (byte % 16) ∷ []

-- `%` and the digits of a byte
abbrev pub escape : ℕ → Text
escape byte = 37 ∷ digits byte

-- a text without regard to case: each letter as its small one
abbrev pub folded : Text → Text
folded text = map to_ascii_lowercase text

-- ---- the stem

-- bytes without those at their end that are this one
abbrev pub without_end : ℕ → List ℕ → List ℕ
without_end last bytes = take (length bytes - suffix_len (λ byte. byte == last) bytes) bytes

-- the bytes of a stored name that count: in DOS 3.3 the spaces at its end fill it up
abbrev pub name_bytes : PlaceForm → List ℕ → List ℕ
name_bytes Sector name = without_end 0xa0 name
name_bytes Block name = name

-- a character of DOS 3.3 with its highest bit on: escaped without it where it is seen, and with it where it is not
abbrev pub high_piece : ℕ → Text
high_piece c = if is_plain c then c ∷ [] else if is_printed c then escape c else escape (0x80 + c)

-- one with its highest bit off: a control character below $20, else a character in inverse or flashing, behind `%7f`
abbrev pub low_piece : ℕ → Text
low_piece byte = if nat_lt byte 0x20 then escape byte else escape 0x7f ++ escape byte

-- a byte of DOS 3.3
abbrev pub sector_piece : ℕ → Text
sector_piece byte = if nat_lt byte 0x80 then low_piece byte else high_piece (byte - 0x80)

-- a byte of ProDOS
abbrev pub block_piece : ℕ → Text
block_piece byte = if is_plain byte then byte ∷ [] else escape byte

abbrev pub piece : PlaceForm → ℕ → Text
piece Sector byte = sector_piece byte
piece Block byte = block_piece byte

-- a text, or `%` where it is empty
abbrev pub or_percent : Text → Text
or_percent [] = 37 ∷ []
or_percent (c ∷ cs) = c ∷ cs

-- the stem of a stored name
abbrev pub stem : PlaceForm → List ℕ → Text
stem form name = or_percent (flat_map (piece form) (name_bytes form name))

-- ---- type, aux type and tail

-- an entry of a volume: its stored name, the kind byte of its format, the aux type of ProDOS or the address of DOS, and
-- whether its readable form stands there in its place
pub record Entry : Type 0 where
  pub form : PlaceForm
  pub name : List ℕ
  pub kind : ℕ
  pub aux : ℕ
  pub directory : Bool
  pub text : Bool

abbrev pub entry_view : Stored → Entry
entry_view s = record {
  form = s.form;
  name = s.name.now;
  kind = s.kind;
  aux = s.aux;
  directory = s.directory;
  text = s.text;
}

-- the type of ProDOS for a kind of DOS 3.3 (T, I, A, B, S, R, and two more), or 0 where it has none
abbrev pub dos_type : ℕ → ℕ
dos_type kind =
    if kind == 0x00 then 0x04
    else if kind == 0x01 then 0xfa
    else if kind == 0x02 then 0xfc
    else if kind == 0x04 then 0x06
    else if kind == 0x08 then 0xf2
    else if kind == 0x10 then 0xfe
    else if kind == 0x20 then 0xf3
    else if kind == 0x40 then 0xf4
    else 0x00

-- the aux type: where programs of type A are loaded, the address of a B, and the kind where it has no type
abbrev pub dos_aux : ℕ → ℕ → ℕ
dos_aux kind address =
    if kind == 0x02 then 0x0801
    else if kind == 0x04 then address
    else if dos_type kind == 0x00 then kind
    else 0

abbrev pub type_in : PlaceForm → ℕ → ℕ
type_in Sector kind = dos_type kind
type_in Block kind = kind

abbrev pub aux_in : PlaceForm → ℕ → ℕ → ℕ
aux_in Sector kind aux = dos_aux kind aux
aux_in Block kind aux = aux

abbrev pub type_of : Entry → ℕ
type_of e = type_in e.form e.kind

abbrev pub aux_of : Entry → ℕ
aux_of e = aux_in e.form e.kind e.aux

-- whether type and aux type stand in a name
abbrev pub has_tail : Naming → Bool → Bool
has_tail Naps directory = not directory
has_tail Plain directory = false

-- `#`, two digits of the type and four of the aux type
abbrev pub told_tail : ℕ → ℕ → Text
told_tail type aux = 35 ∷ digits type ++ digits (aux / 256) ++ digits (aux % 256)

-- what stands in the place of that: `.txt` behind a readable form, where types are not told
abbrev pub text_tail : Naming → Bool → Text
text_tail Plain true = codes ".txt"
text_tail Plain false = []
text_tail Naps text = []

abbrev pub tail : Naming → Entry → Text
tail naming e = if has_tail naming e.directory then told_tail (type_of e) (aux_of e) else text_tail naming e.text

-- ---- the name

abbrev pub bare_name : Naming → Entry → Text
bare_name naming e = stem e.form e.name ++ tail naming e

-- the number of an entry among those of its folder with its bare name: the first has none
abbrev pub told_number : ℕ → Text
told_number number = if number == 1 then [] else 126 ∷ decimal number

-- number and tail
abbrev pub ending : Naming → Entry → ℕ → Text
ending naming e number = told_number number ++ tail naming e

-- what DOS and Windows take for devices, whatever follows behind a period
abbrev pub devices : List Text
devices =
    codes "CON" ∷ codes "PRN" ∷ codes "AUX" ∷ codes "NUL" ∷ codes "CONIN$" ∷ codes "CONOUT$" ∷
    codes "COM1" ∷ codes "COM2" ∷ codes "COM3" ∷ codes "COM4" ∷ codes "COM5" ∷
    codes "COM6" ∷ codes "COM7" ∷ codes "COM8" ∷ codes "COM9" ∷
    codes "LPT1" ∷ codes "LPT2" ∷ codes "LPT3" ∷ codes "LPT4" ∷ codes "LPT5" ∷
    codes "LPT6" ∷ codes "LPT7" ∷ codes "LPT8" ∷ codes "LPT9" ∷ []

-- what stands before the first period, without the spaces at its end
abbrev pub base : Text → Text
base text = without_end 32 (before_first (λ c. c == 46) text)

-- whether that is a device, letters of either case taken as one
unfoldable pub is_device : Text → Bool
is_device text = list_any (λ device. bytes_eq (folded (base text)) (folded device)) devices

abbrev pub escaped_first : Text → Text
escaped_first [] = []
escaped_first (c ∷ cs) = escape c ++ cs

-- no name begins with one of these
abbrev pub is_bad_first : ℕ → Bool
is_bad_first c = is_one_of (codes ".- ") c

-- nor ends with one of these
abbrev pub is_bad_last : ℕ → Bool
is_bad_last c = is_one_of (codes ". ") c

abbrev pub safe_first : Text → Text
safe_first [] = []
safe_first (c ∷ cs) = if is_bad_first c then escape c ++ cs else c ∷ cs

-- (a number and a tail end with a digit or a letter, so this changes a name only where it has neither)
abbrev pub safe_last : Text → Text
safe_last [] = []
safe_last (c ∷ []) = if is_bad_last c then escape c else c ∷ []
safe_last (c ∷ d ∷ cs) = c ∷ safe_last (d ∷ cs)

abbrev pub no_device : Text → Text
no_device text = if is_device text then escaped_first text else text

-- stem, number and tail, with the first character escaped, and the last one, where no name may have it there, and then
-- the first one of a name of a device
abbrev pub host_name : Naming → Entry → ℕ → Text
host_name naming e number =
    no_device (safe_last (safe_first (stem e.form e.name ++ ending naming e number)))

-- the name of the readable form of a file, where it stands beside the file
abbrev pub text_beside : Text → Text
text_beside name = name ++ codes ".utf8.txt"

-- ---- what is safe

-- a name under which a file stands in a folder of any system
pub record IsSafe (name : Text) : Type 0 where
  pub some : name ≢ []
  pub short : length name ≤ 255
  pub printed : All (λ c. IsTrue (is_printed c)) name
  pub allowed : All (λ c. IsFalse (is_one_of (codes "/\\:*?\"<>|") c)) name
  pub not_here : name ≢ codes "."
  pub not_above : name ≢ codes ".."
  pub first : IsFalse (is_one_of (codes ".- ") (slice_index name 0))
  pub last : IsFalse (is_one_of (codes ". ") (slice_index name (length name - 1)))
  pub no_device : IsFalse (is_device name)

-- ---- reading a name

-- what a name says: the stored name, and type and aux type where they are told
pub record Said : Type 0 where
  pub name : List ℕ
  pub type_and_aux : Option (ℕ × ℕ)

-- the byte that a character is, and the one that an escape is
abbrev pub character_byte : PlaceForm → ℕ → ℕ
character_byte Sector c = 0x80 + c
character_byte Block c = c

abbrev pub escape_byte : PlaceForm → ℕ → ℕ
escape_byte Sector n = if is_printed n then 0x80 + n else n
escape_byte Block n = n

-- the bytes of a text: `%` and two digits are one; a `%` alone is none
abbrev pub text_bytes : PlaceForm → Text → List ℕ
text_bytes form [] = []
text_bytes form (c ∷ []) = if c == 37 then [] else character_byte form c ∷ []
text_bytes form (c ∷ d ∷ []) = if c == 37 then [] else character_byte form c ∷ text_bytes form (d ∷ [])
text_bytes form (c ∷ d ∷ e ∷ cs) =
    if c == 37 then escape_byte form (16 * digit_value d + digit_value e) ∷ text_bytes form cs
    else character_byte form c ∷ text_bytes form (d ∷ e ∷ cs)

-- behind $7F a byte has its highest bit off
abbrev pub unmarked : List ℕ → List ℕ
unmarked [] = []
unmarked (b ∷ []) = b ∷ []
unmarked (b ∷ d ∷ bs) = if b == 0x7f then d % 0x80 ∷ unmarked bs else b ∷ unmarked (d ∷ bs)

-- the stored name that a stem says
abbrev pub name_read : PlaceForm → Text → List ℕ
name_read Sector text = unmarked (text_bytes Sector text)
name_read Block text = text_bytes Block text

-- what stands before the number
abbrev pub before_number : Text → Text
before_number text = before_first (λ c. c == 126) text

-- a name without a tail, read
abbrev pub read_alone : PlaceForm → Text → Said
read_alone form text = record { name = name_read form (before_number text); type_and_aux = None }

-- a name with one, which has seven characters
abbrev pub read_with_tail : PlaceForm → Text → Said
read_with_tail form text = record {
  name = name_read form (before_number (take (length text - 7) text));
  type_and_aux = Some (
    digits_value 16 (slice_range text (length text - 6) (length text - 4)),
    digits_value 16 (drop (length text - 4) text),
  );
}

-- the name of a folder, of a file, or of a readable form in its place, read
abbrev pub entry_named : PlaceForm → Naming → Bool → Bool → Text → Said
entry_named form naming directory is_text text =
    if has_tail naming directory then read_with_tail form text
    else read_alone form (take (length text - length (text_tail naming is_text)) text)

-- the kind that a type and an aux type are of
abbrev pub dos_kind : ℕ → ℕ → ℕ
dos_kind type aux =
    if type == 0x04 then 0x00
    else if type == 0xfa then 0x01
    else if type == 0xfc then 0x02
    else if type == 0x06 then 0x04
    else if type == 0xf2 then 0x08
    else if type == 0xfe then 0x10
    else if type == 0xf3 then 0x20
    else if type == 0xf4 then 0x40
    else aux

abbrev pub kind_of : PlaceForm → ℕ → ℕ → ℕ
kind_of Sector type aux = dos_kind type aux
kind_of Block type aux = type
