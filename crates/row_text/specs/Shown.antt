-- How the bytes of a volume are shown.
use Rattle.std.specs.Prelude.{ℕ, ◌+◌, ◌/◌, ◌%◌, ◌==◌, ◌||◌, nat_lt, List, [], ◌∷◌, flat_map, if◌then◌else◌}

-- a text, as the bytes of ASCII
abbrev pub Text : Type 0
Text = List ℕ

-- a byte of a text: its low seven bits, ? where they are no character that prints
abbrev pub shown : ℕ → ℕ
shown byte = if nat_lt (byte % 128) 0x20 || byte % 128 == 0x7f then 63 else byte % 128

-- a hexadecimal digit: 0 to 9, a to f
abbrev pub hex_digit : ℕ → ℕ
hex_digit n = if nat_lt n 10 then 48 + n else 87 + n

-- a hexadecimal digit: 0 to 9, A to F
abbrev pub upper_digit : ℕ → ℕ
upper_digit n = if nat_lt n 10 then 48 + n else 55 + n

-- the two digits of a byte
abbrev pub lower_pair : ℕ → Text
lower_pair byte = hex_digit (byte / 16) ∷ hex_digit (byte % 16) ∷ []

abbrev pub upper_pair : ℕ → Text
upper_pair byte = upper_digit (byte / 16) ∷ upper_digit (byte % 16) ∷ []

-- bytes in hexadecimal, two digits each
abbrev pub lower_hex : List ℕ → Text
lower_hex = flat_map lower_pair

abbrev pub upper_hex : List ℕ → Text
upper_hex = flat_map upper_pair
