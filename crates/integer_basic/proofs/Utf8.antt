-- What is listed is UTF-8.
use Rattle.std.proofs.Common.{◌≡◌, ℕ, zero, suc, ◌-◌, ◌+◌, ◌*◌, ◌/◌, ◌%◌, ◌==◌, ◌&&◌, Bool, true, false, cond, List, [], ◌∷◌, ◌++◌, Option, Some, None, All, map, length, take, slice_index_or, arith, refl, sym, subst}
use Rattle.std.specs.Prelude.{decimal, replicate}
use Rattle.std.specs.Str.{IsUtf8, chars, is_utf8}
use Rattle.std.specs.Fmt.{digit_glyph, digits, digits_onto}
use Rattle.std.proofs.lemmas.List.Elements.{All-head, All-tail}
use Rattle.std.proofs.lemmas.Str.{IsUtf8-append, IsUtf8-from_is_utf8, IsUtf8-nil}
use lib.Utf8.{encode}
use Rattle.apple_text.specs.Shown.{Text, character, low}
use Rattle.apple_text.proofs.Taking.{low_small}
use Rattle.apple_text.proofs.Utf8.{all_below, below, both}
use Rattle.integer_basic.specs.Words.{spaced, word_text, words}
use Rattle.integer_basic.specs.Items.{IsShown, Item, characters, end_of_string, first_item, is_digit, is_letter, item, length_of_name, name_item, nothing, number_item, remark_text, string_item, word_item}
use Rattle.integer_basic.specs.Program.{IsLine, IsListed, Line, line_text, listing, right_in}

-- ---- characters

all_characters : all_below (λ c. is_utf8 (character c)) 128 ≡ true
unfolding all_below is_utf8 chars encode
all_characters = refl

characters_utf8 : (bytes : List ℕ) → IsUtf8 (characters bytes)
characters_utf8 [] = IsUtf8-nil
characters_utf8 (b ∷ bytes) =
    let one : IsUtf8 (character (low b))
    = IsUtf8-from_is_utf8 (character (low b)) (below (λ c. is_utf8 (character c)) 128 (low b) all_characters (low_small b)) in
    IsUtf8-append (character (low b)) (characters bytes) one (characters_utf8 bytes)

-- a quotation mark, a space, a newline
quote_utf8 : IsUtf8 (34 ∷ [])
unfolding is_utf8 chars encode
quote_utf8 = IsUtf8-from_is_utf8 (34 ∷ []) refl

space_utf8 : IsUtf8 (32 ∷ [])
unfolding is_utf8 chars encode
space_utf8 = IsUtf8-from_is_utf8 (32 ∷ []) refl

newline_utf8 : IsUtf8 (10 ∷ [])
unfolding is_utf8 chars encode
newline_utf8 = IsUtf8-from_is_utf8 (10 ∷ []) refl

-- ---- numbers

all_digits : all_below (λ d. is_utf8 (digit_glyph false d ∷ [])) 10 ≡ true
unfolding all_below is_utf8 chars encode
all_digits = refl

digit_utf8 : (n : ℕ) → IsUtf8 (digit_glyph false (n % 10) ∷ [])
digit_utf8 n = IsUtf8-from_is_utf8 (digit_glyph false (n % 10) ∷ [])
    (below (λ d. is_utf8 (digit_glyph false d ∷ [])) 10 (n % 10) all_digits (omega arith))

cond_utf8 : (test : Bool) (a b : Text) → IsUtf8 a → IsUtf8 b → IsUtf8 (cond test a b)
cond_utf8 true a b is is' = is
cond_utf8 false a b is is' = is'

onto_utf8 : (k n : ℕ) (acc : Text) → IsUtf8 acc → IsUtf8 (digits_onto k 10 false n acc)
onto_utf8 zero n acc is = is
onto_utf8 (suc k) n acc is =
    let digit = digit_glyph false (n % 10) in
    let more : IsUtf8 (digit ∷ acc) = IsUtf8-append (digit ∷ []) acc (digit_utf8 n) is in
    cond_utf8 (n / 10 == 0) (digit ∷ acc) (digits_onto k 10 false (n / 10) (digit ∷ acc)) more (onto_utf8 k (n / 10) (digit ∷ acc) more)

decimal_utf8 : (n : ℕ) → IsUtf8 (decimal n)
unfolding digits
decimal_utf8 n = onto_utf8 64 n [] IsUtf8-nil

-- ---- words

are_utf8 : List Text → Bool
are_utf8 [] = true
are_utf8 (w ∷ ws) = is_utf8 w && are_utf8 ws

all_words : are_utf8 (map spaced words) ≡ true
unfolding are_utf8 is_utf8 chars encode
all_words = refl

word_in : (ws : List Text) (k : ℕ) → are_utf8 ws ≡ true → IsUtf8 (slice_index_or ws k [])
unfolding are_utf8
word_in [] k e = IsUtf8-nil
word_in (w ∷ ws) zero e = IsUtf8-from_is_utf8 w (both (is_utf8 w) (are_utf8 ws) e).0
word_in (w ∷ ws) (suc k) e = word_in ws k (both (is_utf8 w) (are_utf8 ws) e).1

word_utf8 : (byte : ℕ) → IsUtf8 (word_text byte)
unfolding word_text
word_utf8 byte = word_in (map spaced words) byte all_words

remark_utf8 : (bytes : List ℕ) → IsUtf8 (remark_text bytes)
unfolding is_utf8 chars encode
remark_utf8 bytes = IsUtf8-append (82 ∷ 69 ∷ 77 ∷ 32 ∷ []) (characters bytes) (IsUtf8-from_is_utf8 (82 ∷ 69 ∷ 77 ∷ 32 ∷ []) refl) (characters_utf8 bytes)

-- ---- items

read_utf8 : {a b : Item} → Some a ≡ Some b → IsUtf8 a.text → IsUtf8 b.text
read_utf8 {a} {b} e is = let same : a ≡ b = cc in subst (λ (r : Item). IsUtf8 r.text) same is

string_utf8 : (end : Option ℕ) (bytes : List ℕ) (read : Item) → string_item end bytes ≡ Some read → IsUtf8 read.text
string_utf8 None bytes read e = absurd (let none : None ≡ Some read = e in cc)
string_utf8 (Some end) bytes read e =
    let inside = characters (take end bytes) in
    read_utf8 e (IsUtf8-append (34 ∷ []) (inside ++ 34 ∷ []) quote_utf8 (IsUtf8-append inside (34 ∷ []) (characters_utf8 (take end bytes)) quote_utf8))

number_utf8 : (bytes : List ℕ) (read : Item) → number_item bytes ≡ Some read → IsUtf8 read.text
number_utf8 [] read e = absurd (let none : None ≡ Some read = e in cc)
number_utf8 (a ∷ []) read e = absurd (let none : None ≡ Some read = e in cc)
number_utf8 (a ∷ b ∷ bytes) read e = read_utf8 e (decimal_utf8 (a + 256 * b))

word_item_utf8 : (word : Text) (bytes : List ℕ) (read : Item) → IsUtf8 word → word_item word bytes ≡ Some read → IsUtf8 read.text
word_item_utf8 [] bytes read is e = absurd (let none : None ≡ Some read = e in cc)
word_item_utf8 (c ∷ cs) bytes read is e = read_utf8 e is

module _ (byte : ℕ) (bytes : List ℕ) (read : Item) where
  utf8_by : (string remark digit letter : Bool)
      → cond string (string_item (end_of_string bytes) bytes)
      (cond remark (Some (record { text = remark_text bytes; rest = [] }))
      (cond digit (number_item bytes) (cond letter (Some (name_item (byte ∷ bytes))) (word_item (word_text byte) bytes)))) ≡ Some read
      → IsUtf8 read.text
  utf8_by true remark digit letter e = string_utf8 (end_of_string bytes) bytes read e
  utf8_by false true digit letter e = read_utf8 e (remark_utf8 bytes)
  utf8_by false false true letter e = number_utf8 bytes read e
  utf8_by false false false true e = read_utf8 e (characters_utf8 (take (length_of_name (byte ∷ bytes)) (byte ∷ bytes)))
  utf8_by false false false false e = word_item_utf8 (word_text byte) bytes read (word_utf8 byte) e

item_utf8 : (body : List ℕ) (read : Item) → first_item body ≡ Some read → IsUtf8 read.text
item_utf8 [] read e = absurd (let none : None ≡ Some read = e in cc)
item_utf8 (byte ∷ bytes) read e = utf8_by byte bytes read (byte == 0x28) (byte == 0x5d) (is_digit byte) (is_letter byte) e

shown_utf8 : (body : List ℕ) (text : Text) → IsShown body text → IsUtf8 text
shown_utf8 body text nothing = IsUtf8-nil
shown_utf8 body text (item bytes read more is shown) = IsUtf8-append read.text more (item_utf8 bytes read is) (shown_utf8 read.rest more shown)

-- ---- lines

spaces_utf8 : (n : ℕ) → IsUtf8 (replicate n 32)
spaces_utf8 zero = IsUtf8-nil
spaces_utf8 (suc n) = IsUtf8-append (32 ∷ []) (replicate n 32) space_utf8 (spaces_utf8 n)

line_utf8 : (line : Line) → IsLine line → IsUtf8 (line_text line.number line.text ++ 10 ∷ [])
line_utf8 line is =
    let numeral = decimal line.number in
    let padding = replicate (5 - length numeral) 32 in
    let number : IsUtf8 (right_in 5 numeral) = IsUtf8-append padding numeral (spaces_utf8 (5 - length numeral)) (decimal_utf8 line.number) in
    let behind : IsUtf8 (32 ∷ line.text) = IsUtf8-append (32 ∷ []) line.text space_utf8 (shown_utf8 line.body line.text is.shown) in
    IsUtf8-append (line_text line.number line.text) (10 ∷ []) (IsUtf8-append (right_in 5 numeral) (32 ∷ line.text) number behind) newline_utf8

listing_utf8 : (lines : List Line) → All IsLine lines → IsUtf8 (listing lines)
listing_utf8 [] are = IsUtf8-nil
listing_utf8 (l ∷ ls) are =
    IsUtf8-append (line_text l.number l.text ++ 10 ∷ []) (listing ls) (line_utf8 l (All-head IsLine l ls are)) (listing_utf8 ls (All-tail IsLine l ls are))

pub listed_utf8 : (bytes : List ℕ) (text : Text) → IsListed bytes text → IsUtf8 text
listed_utf8 bytes text listed = subst IsUtf8 (sym listed.text_is) (listing_utf8 listed.lines listed.are_lines)
