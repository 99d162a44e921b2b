-- A text of the Apple II as it is shown: of each byte its low seven bits. (Apple II Reference Manual, its table of the
-- character set; the pictures are those of Unicode's block Control Pictures, U+2400 to U+2421.)
use Rattle.std.specs.Prelude.{ℕ, ◌+◌, ◌%◌, ◌==◌, nat_lt, if◌then◌else◌, List, [], ◌∷◌, flat_map}
use Rattle.apple_text.specs.declared.form.HighBit.{HighBit}
use Rattle.apple_text.specs.declared.form.HighBit.TheVariants.{On, Off}

-- a text that can be read, in UTF-8
abbrev pub Text : Type 0
Text = List ℕ

-- the code of a byte: its low seven bits
abbrev pub low : ℕ → ℕ
low byte = byte % 128

-- the byte of a code, by its highest bit
abbrev pub with_high : HighBit → ℕ → ℕ
with_high On code = 0x80 + code
with_high Off code = code

-- the character U+2400 and a code
abbrev pub picture : ℕ → Text
picture code = 0xe2 ∷ 0x90 ∷ (0x80 + code) ∷ []

-- the character that shows a code within a line: itself where it prints, else its picture, of $7F that at U+2421
abbrev pub character : ℕ → Text
character code =
    if nat_lt code 0x20 then picture code
    else if code == 0x7f then picture 0x21
    else code ∷ []

-- a code in a text: a carriage return ends a line, and a tab is one
abbrev pub shown_code : ℕ → Text
shown_code code =
    if code == 0x0d then 0x0a ∷ []
    else if code == 0x09 then 0x09 ∷ []
    else character code

abbrev pub shown_text : List ℕ → Text
shown_text bytes = flat_map (λ byte. shown_code (low byte)) bytes
