-- The words of a user as they are shown: each control character as `\x` and two hexadecimal digits, each format
-- character as `\u` and six.
use Rattle.std.specs.Prelude.{ℕ, Bool, List, ◌||◌, ◌&&◌, nat_le, ◌+◌, ◌/◌, ◌%◌, nat_lt, [], ◌∷◌, ◌++◌, flat_map, encode_utf8, if◌then◌else◌}
use Rattle.std.specs.Str.{chars}

-- the bytes of a word
abbrev pub Text : Type 0
Text = List ℕ

-- a hexadecimal digit: 0 to 9, A to F
abbrev pub hex_digit : ℕ → ℕ
hex_digit n = if nat_lt n 10 then 48 + n else 55 + n

-- the control characters: 0 to 31, 127, and 128 to 159
abbrev pub is_control : ℕ → Bool
is_control character = nat_lt character 0x20 || nat_le 0x7f character && nat_lt character 0xa0

-- a character of a run from the first to the last
abbrev pub is_within : ℕ → ℕ → ℕ → Bool
is_within first last character = nat_le first character && nat_le character last

-- The format characters of Unicode (general category Cf) up to U+FFFF, and its separators of lines and paragraphs: they
-- show nothing, join or part what stands beside them, or turn the direction of writing.
abbrev pub is_low_format : ℕ → Bool
is_low_format character =
    is_within 0xad 0xad character || is_within 0x600 0x605 character || is_within 0x61c 0x61c character
    || is_within 0x6dd 0x6dd character
    || is_within 0x70f 0x70f character || is_within 0x890 0x891 character || is_within 0x8e2 0x8e2 character
    || is_within 0x180e 0x180e character

abbrev pub is_middle_format : ℕ → Bool
is_middle_format character =
    is_within 0x200b 0x200f character || is_within 0x2028 0x202e character || is_within 0x2060 0x206f character
    || is_within 0xfeff 0xfeff character
    || is_within 0xfff9 0xfffb character

-- those past U+FFFF
abbrev pub is_high_format : ℕ → Bool
is_high_format character =
    is_within 0x110bd 0x110bd character || is_within 0x110cd 0x110cd character || is_within 0x13430 0x1343f character
    || is_within 0x1bca0 0x1bca3 character
    || is_within 0x1d173 0x1d17a character || is_within 0xe0001 0xe0001 character || is_within 0xe0020 0xe007f character

abbrev pub is_format : ℕ → Bool
is_format character = is_low_format character || is_middle_format character || is_high_format character

-- the two hexadecimal digits of a byte
abbrev pub hex_pair : ℕ → Text
hex_pair byte = hex_digit (byte / 16) ∷ hex_digit (byte % 16) ∷ []

-- a control character: `\x` and two digits
abbrev pub shown_control : ℕ → Text
shown_control character = (92 ∷ 120 ∷ []) ++ hex_pair character

-- a format character: `\u{`, six digits and `}`
abbrev pub shown_format : ℕ → Text
shown_format character = (92 ∷ 117 ∷ 123 ∷ []) ++ hex_pair (character / 65536) ++ hex_pair (character / 256 % 256)
    ++ hex_pair (character % 256) ++ (125 ∷ [])

-- a character, by its bytes
abbrev pub shown_character : ℕ → Text
shown_character character =
    if is_control character then shown_control character else if is_format character then shown_format character
    else encode_utf8 character

abbrev pub escaped : Text → Text
escaped word = flat_map shown_character (chars word)
