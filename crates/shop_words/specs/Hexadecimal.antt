-- Words of hexadecimal digits.
use Rattle.std.specs.Prelude.{◌+◌, ◌-◌, ◌*◌, ℕ, List, [], ◌∷◌, Option, Some, None, if◌then◌else◌}
use Rattle.std.specs.Int.{is_in_range}

-- the value of a digit: 0 to 9, A to F, a to f
abbrev pub hex_value : ℕ → Option ℕ
hex_value digit =
    if is_in_range 48 57 digit then Some (digit - 48) else
    if is_in_range 65 70 digit then Some (digit - 55) else
    if is_in_range 97 102 digit then Some (digit - 87) else None

-- the byte of two digits, the high one first
abbrev pub byte_of : Option ℕ → Option ℕ → Option ℕ
byte_of (Some high) (Some low) = Some (16 * high + low)
byte_of _ _ = None

abbrev pub hex_byte : ℕ → ℕ → Option ℕ
hex_byte high low = byte_of (hex_value high) (hex_value low)

abbrev pub byte_before : Option ℕ → Option (List ℕ) → Option (List ℕ)
byte_before (Some byte) (Some bytes) = Some (byte ∷ bytes)
byte_before _ _ = None

-- the bytes that a word of digits writes; none of a word that has another character or an odd number of digits
abbrev pub bytes_named : List ℕ → Option (List ℕ)
bytes_named [] = Some []
bytes_named (digit ∷ []) = None
bytes_named (high ∷ low ∷ digits) = byte_before (hex_byte high low) (bytes_named digits)

-- a number of two bytes, the high one first
abbrev pub two_bytes_of : Option ℕ → Option ℕ → Option ℕ
two_bytes_of (Some high) (Some low) = Some (256 * high + low)
two_bytes_of _ _ = None

-- the number that one to four digits write
abbrev pub hex_number : List ℕ → Option ℕ
hex_number (d ∷ []) = hex_value d
hex_number (c ∷ d ∷ []) = hex_byte c d
hex_number (b ∷ c ∷ d ∷ []) = two_bytes_of (hex_value b) (hex_byte c d)
hex_number (a ∷ b ∷ c ∷ d ∷ []) = two_bytes_of (hex_byte a b) (hex_byte c d)
hex_number digits = None
