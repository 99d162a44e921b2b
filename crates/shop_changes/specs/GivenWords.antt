-- What the words of a new file say.
use Rattle.std.specs.Prelude.{◌+◌, ◌-◌, ◌*◌, ◌==◌, ℕ, List, [], ◌∷◌, codes, Option, Some, None, option_and_then, option_map, if◌then◌else◌}
use Rattle.std.specs.Int.{is_in_range}
use Rattle.std.specs.Str.{bytes_eq}
use Rattle.file_forms.specs.declared.form.GivenForm.{GivenForm}
use Rattle.shop_changes.specs.declared.given_file.Head.{Head}
use Rattle.shop_changes.specs.declared.given_file.Head.TheVariants as heads
use Rattle.shop_jobs.specs.declared.input.FileSystem.{FileSystem}
use Rattle.shop_jobs.specs.declared.input.FileSystem.TheVariants.{Dos, Prodos}

-- the type that a capital letter names: text, Integer BASIC, Applesoft, binary, special, relocatable
abbrev pub letter_kind : List ℕ → Option ℕ
letter_kind word =
    if bytes_eq word (codes "T") then Some 0x00 else
    if bytes_eq word (codes "I") then Some 0x01 else
    if bytes_eq word (codes "A") then Some 0x02 else
    if bytes_eq word (codes "B") then Some 0x04 else
    if bytes_eq word (codes "S") then Some 0x08 else
    if bytes_eq word (codes "R") then Some 0x10 else None

-- the value of a hexadecimal digit: 0 to 9, A to F, a to f
abbrev pub hex_value : ℕ → Option ℕ
hex_value digit =
    if is_in_range 48 57 digit then Some (digit - 48) else
    if is_in_range 65 70 digit then Some (digit - 55) else
    if is_in_range 97 102 digit then Some (digit - 87) else None

-- the number that two hexadecimal digits write, the high one first
abbrev pub hex_byte : List ℕ → Option ℕ
hex_byte (high ∷ low ∷ []) = option_and_then
    (λ first. option_map (λ second. 16 * first + second) (hex_value low)) (hex_value high)
hex_byte _ = None

-- the type that a word names, in a file system
abbrev pub kind_named : FileSystem → List ℕ → Option ℕ
kind_named Dos word = letter_kind word
kind_named Prodos word = hex_byte word

-- the type where none is said: text in DOS 3.3, binary in ProDOS
abbrev pub usual_kind : FileSystem → ℕ
usual_kind Dos = 0x00
usual_kind Prodos = 0x06

-- the type of binary files
abbrev pub binary_kind : FileSystem → ℕ
binary_kind Dos = 0x04
binary_kind Prodos = 0x06

-- the type where neither the words nor the form of what is given say one
abbrev pub kind_unsaid : FileSystem → Option GivenForm → ℕ
kind_unsaid file_system None = usual_kind file_system
kind_unsaid file_system (Some form) = binary_kind file_system

-- the type of texts
abbrev pub text_kind : FileSystem → ℕ
text_kind Dos = 0x00
text_kind Prodos = 0x04

-- the type of DOS 3.3 for one of ProDOS: those that the letters name
abbrev pub dos_kind_for : ℕ → Option ℕ
dos_kind_for file_type =
    if file_type == 0x04 then Some 0x00 else
    if file_type == 0xfa then Some 0x01 else
    if file_type == 0xfc then Some 0x02 else
    if file_type == 0x06 then Some 0x04 else
    if file_type == 0xf2 then Some 0x08 else
    if file_type == 0xfe then Some 0x10 else None

abbrev pub kind_for : FileSystem → ℕ → Option ℕ
kind_for Dos file_type = dos_kind_for file_type
kind_for Prodos file_type = Some file_type

-- what DOS 3.3 puts before the bytes of a file of a type: of a BASIC program the length, of a binary file the address
-- and the length
abbrev pub dos_head : ℕ → Head
dos_head kind =
    if kind == 0x01 then heads.Length else
    if kind == 0x02 then heads.Length else
    if kind == 0x04 then heads.AddressAndLength else heads.None

abbrev pub head_of : FileSystem → ℕ → Head
head_of Dos kind = dos_head kind
head_of Prodos kind = heads.None
