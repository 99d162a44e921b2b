-- Programs that are worked out by hand: the definitions compute to them.
use Rattle.std.proofs.Common.{◌≡◌, ℕ, refl, Some, None, List, [], ◌∷◌, ◌++◌, All, codes, arith}
use Rattle.std.specs.Fmt as fmt
use Rattle.std.proofs.lemmas.List.Elements.{All-cons}
use Rattle.apple_text.specs.Shown.{Text}
use Rattle.integer_basic.specs.Items.{IsShown, Item, first_item, item, nothing}
use Rattle.integer_basic.specs.Program.{IsLine, IsListed, Line}
use Rattle.integer_basic.specs.Words.{word_text}

-- an item, and what is left
abbrev to : Text → List ℕ → Item
to text rest = record { text = text; rest = rest }

-- ---- three lines

hi : IsShown (0x61 ∷ 0x28 ∷ 0xc8 ∷ 0xc9 ∷ 0x29 ∷ []) (codes "PRINT \"HI\"")
unfolding word_text
hi =
    item _ (to (codes "PRINT ") (0x28 ∷ 0xc8 ∷ 0xc9 ∷ 0x29 ∷ [])) (codes "\"HI\"") refl
    (item _ (to (codes "\"HI\"") []) [] refl nothing)

loop : IsShown (0x55 ∷ 0xc9 ∷ 0x56 ∷ 0xb1 ∷ 0x01 ∷ 0x00 ∷ 0x57 ∷ 0xb1 ∷ 0x0a ∷ 0x00 ∷ []) (codes "FOR I=1 TO 10")
unfolding word_text fmt.digits
loop =
    item _ (to (codes "FOR ") (0xc9 ∷ 0x56 ∷ 0xb1 ∷ 0x01 ∷ 0x00 ∷ 0x57 ∷ 0xb1 ∷ 0x0a ∷ 0x00 ∷ [])) (codes "I=1 TO 10") refl
    (item _ (to (codes "I") (0x56 ∷ 0xb1 ∷ 0x01 ∷ 0x00 ∷ 0x57 ∷ 0xb1 ∷ 0x0a ∷ 0x00 ∷ [])) (codes "=1 TO 10") refl
    (item _ (to (codes "=") (0xb1 ∷ 0x01 ∷ 0x00 ∷ 0x57 ∷ 0xb1 ∷ 0x0a ∷ 0x00 ∷ [])) (codes "1 TO 10") refl
    (item _ (to (codes "1") (0x57 ∷ 0xb1 ∷ 0x0a ∷ 0x00 ∷ [])) (codes " TO 10") refl
    (item _ (to (codes " TO ") (0xb1 ∷ 0x0a ∷ 0x00 ∷ [])) (codes "10") refl
    (item _ (to (codes "10") []) [] refl nothing)))))

remark : IsShown (0x5d ∷ 0xc8 ∷ 0xc9 ∷ []) (codes "REM HI")
remark = item _ (to (codes "REM HI") []) [] refl nothing

abbrev ten : Line
ten = record { number = 10; body = 0x61 ∷ 0x28 ∷ 0xc8 ∷ 0xc9 ∷ 0x29 ∷ []; text = codes "PRINT \"HI\"" }

abbrev twenty : Line
twenty = record {
  number = 20;
  body = 0x55 ∷ 0xc9 ∷ 0x56 ∷ 0xb1 ∷ 0x01 ∷ 0x00 ∷ 0x57 ∷ 0xb1 ∷ 0x0a ∷ 0x00 ∷ [];
  text = codes "FOR I=1 TO 10";
}

abbrev thirty : Line
thirty = record { number = 30; body = 0x5d ∷ 0xc8 ∷ 0xc9 ∷ []; text = codes "REM HI" }

abbrev lines : List Line
lines = ten ∷ twenty ∷ thirty ∷ []

is_ten : IsLine ten
is_ten = record { number = omega arith; short = omega arith; shown = hi }

is_twenty : IsLine twenty
is_twenty = record { number = omega arith; short = omega arith; shown = loop }

is_thirty : IsLine thirty
is_thirty = record { number = omega arith; short = omega arith; shown = remark }

are_lines : All IsLine lines
are_lines =
    All-cons IsLine ten (twenty ∷ thirty ∷ []) is_ten
    (All-cons IsLine twenty (thirty ∷ []) is_twenty
    (All-cons IsLine thirty [] is_thirty (λ k d within. absurd (omega (arith, within)))))

program : List ℕ
program =
    0x09 ∷ 0x0a ∷ 0x00 ∷ 0x61 ∷ 0x28 ∷ 0xc8 ∷ 0xc9 ∷ 0x29 ∷ 0x01
    ∷ 0x0e ∷ 0x14 ∷ 0x00 ∷ 0x55 ∷ 0xc9 ∷ 0x56 ∷ 0xb1 ∷ 0x01 ∷ 0x00 ∷ 0x57 ∷ 0xb1 ∷ 0x0a ∷ 0x00 ∷ 0x01
    ∷ 0x07 ∷ 0x1e ∷ 0x00 ∷ 0x5d ∷ 0xc8 ∷ 0xc9 ∷ 0x01 ∷ []

listed : IsListed program (codes "   10 PRINT \"HI\"\n   20 FOR I=1 TO 10\n   30 REM HI\n")
unfolding program fmt.digits
listed = record { lines = lines; behind = []; are_lines = are_lines; bytes_are = refl; ends = refl; text_is = refl }

-- what stands behind a length of 0 is no part of it
cut_off : IsListed (program ++ 0x00 ∷ 0x05 ∷ 0x28 ∷ []) (codes "   10 PRINT \"HI\"\n   20 FOR I=1 TO 10\n   30 REM HI\n")
unfolding program fmt.digits
cut_off = record { lines = lines; behind = 0x00 ∷ 0x05 ∷ 0x28 ∷ []; are_lines = are_lines; bytes_are = refl; ends = refl; text_is = refl }

-- ---- bodies

name_with_a_digit : IsShown (0xc1 ∷ 0xb0 ∷ 0x71 ∷ 0xb1 ∷ 0x01 ∷ 0x00 ∷ []) (codes "A0=1")
unfolding word_text fmt.digits
name_with_a_digit =
    item _ (to (codes "A0") (0x71 ∷ 0xb1 ∷ 0x01 ∷ 0x00 ∷ [])) (codes "=1") refl
    (item _ (to (codes "=") (0xb1 ∷ 0x01 ∷ 0x00 ∷ [])) (codes "1") refl
    (item _ (to (codes "1") []) [] refl nothing))

condition : IsShown (0x60 ∷ 0xc1 ∷ 0x16 ∷ 0xb5 ∷ 0x05 ∷ 0x00 ∷ 0x25 ∷ 0x63 ∷ []) (codes "IF A=5 THEN PRINT ")
unfolding word_text fmt.digits
condition =
    item _ (to (codes "IF ") (0xc1 ∷ 0x16 ∷ 0xb5 ∷ 0x05 ∷ 0x00 ∷ 0x25 ∷ 0x63 ∷ [])) (codes "A=5 THEN PRINT ") refl
    (item _ (to (codes "A") (0x16 ∷ 0xb5 ∷ 0x05 ∷ 0x00 ∷ 0x25 ∷ 0x63 ∷ [])) (codes "=5 THEN PRINT ") refl
    (item _ (to (codes "=") (0xb5 ∷ 0x05 ∷ 0x00 ∷ 0x25 ∷ 0x63 ∷ [])) (codes "5 THEN PRINT ") refl
    (item _ (to (codes "5") (0x25 ∷ 0x63 ∷ [])) (codes " THEN PRINT ") refl
    (item _ (to (codes " THEN ") (0x63 ∷ [])) (codes "PRINT ") refl
    (item _ (to (codes "PRINT ") []) [] refl nothing)))))

-- ---- what is no program

no_end_of_string : first_item (0x28 ∷ 0xc8 ∷ 0xc9 ∷ []) ≡ None
no_end_of_string = refl

no_high_byte : first_item (0xb1 ∷ 0x01 ∷ []) ≡ None
no_high_byte = refl

-- $01, a byte without a word, and two past the words
none : first_item (0x01 ∷ []) ≡ None
unfolding word_text
none = refl

none_inside : first_item (0x33 ∷ []) ≡ None
unfolding word_text
none_inside = refl

none_above : first_item (0x80 ∷ []) ≡ None
unfolding word_text
none_above = refl

none_between : first_item (0xba ∷ []) ≡ None
unfolding word_text
none_between = refl

-- words with their spaces
spaces : first_item (0x51 ∷ []) ≡ Some (to (codes "END") [])
unfolding word_text
spaces = refl

no_space : first_item (0x10 ∷ []) ≡ Some (to (codes "HIMEM:") [])
unfolding word_text
no_space = refl
