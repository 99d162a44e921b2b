-- No line has a line end in it.
use Rattle.std.proofs.Common.{◌≡◌, ℕ, ◌/◌, ◌%◌, ◌^◌, ◌<◌, ◌≤◌, ◌==◌, cond, Bool, true, false, Option, Some, None, List, [], ◌∷◌, ◌++◌, map, refl, arith, decimal, nat_lt}
use Rattle.std.specs.Prelude.{⊤, ◌||◌, nat_le, flat_map}
use Rattle.std.specs.Char.{digit_char}
use Rattle.std.specs.List.{list_all}
use Rattle.std.proofs.lemmas.Bool.{and_parts, and_from, le-leb}
use Rattle.std.proofs.lemmas.Bool.Decides.{nat_tests}
use Rattle.std.proofs.lemmas.List.Elements.{All-nil, All-cons}
use Rattle.json.specs.Print.{escape, escape_byte, escape_letter, quoted}
use Rattle.serde_json.specs.Data.{Data, unsigned, negative, float, null, boolean, number, string, array, object}
use Rattle.serde_json.specs.Data.{Items, no_items, item}
use Rattle.serde_json.specs.Data.{Members, no_members, member}
use Rattle.serde_json.specs.Written.{compact_text, items_text, members_text, comma_if}
use Rattle.row_text.specs.Csv.{after_commas, csv_fields, csv_header, csv_row, digest_fields, doubled, flag_word}
use Rattle.row_text.specs.Csv.{csv_quoted, number_or_empty, text_or_empty}
use Rattle.row_text.specs.Laws.{FitsIfTold, CountFits, IsOneLine, RowFits, VolumeFits}
use Rattle.row_text.specs.Row.{RowView, VolumeView, row_data, row_members, volume_members, volume_data}
use Rattle.row_text.specs.Shown.{Text, hex_digit, lower_pair, shown}
use Rattle.row_text.specs.declared.row.Digested.{Digested}
use Rattle.row_text.specs.declared.row.Digested.TheVariants.{Untold, Missing, Of}
use Rattle.row_text.proofs.Plain.{ArePlain, plain_decimal}
use Rattle.row_text.proofs.Flat.{AreTexts, IsFlat, AreFlat}
use Rattle.row_text.proofs.Reading.{flat_row, flat_volume}

-- as a test, which computes on a text that is written out
abbrev one_line : Text → Bool
one_line = list_all (λ x. nat_le 32 x)

prints : (x : ℕ) → nat_le 32 x ≡ true → 32 ≤ x
prints x h = grind (arith, nat_tests)

is_one_line : (text : Text) → one_line text ≡ true → IsOneLine text
is_one_line [] h = All-nil (λ x. 32 ≤ x)
is_one_line (x ∷ xs) h =
    let p = and_parts (nat_le 32 x) (one_line xs) h in
    All-cons (λ x. 32 ≤ x) x xs (prints x p.0) (is_one_line xs p.1)

append : (xs ys : Text) → one_line xs ≡ true → one_line ys ≡ true → one_line (xs ++ ys) ≡ true
append [] ys h k = k
append (x ∷ xs) ys h k =
    let p = and_parts (nat_le 32 x) (one_line xs) h in
    and_from (nat_le 32 x) (one_line (xs ++ ys)) p.0 (append xs ys p.1 k)

each : (f : ℕ → Text) → ((x : ℕ) → one_line (f x) ≡ true) → (xs : List ℕ) → one_line (flat_map f xs) ≡ true
each f h [] = refl
each f h (x ∷ xs) = append (f x) (flat_map f xs) (h x) (each f h xs)

single : (x : ℕ) → 32 ≤ x → one_line (x ∷ []) ≡ true
single x h = and_from (nat_le 32 x) true (le-leb 32 x h) refl

choice : (b : Bool) (xs ys : Text) → (b ≡ true → one_line xs ≡ true) → (b ≡ false → one_line ys ≡ true)
    → one_line (cond b xs ys) ≡ true
choice true xs ys h k = h refl
choice false xs ys h k = k refl

plain : (xs : Text) → ArePlain xs → one_line xs ≡ true
plain [] h = refl
plain (x ∷ xs) h = and_from (nat_le 32 x) (one_line xs) (le-leb 32 x h.0.0) (plain xs h.1)

number_line : (n : ℕ) → n < 2 ^ 64 → one_line (decimal n) ≡ true
number_line n h = plain (decimal n) (plain_decimal n h)

-- ---- JSON

abbrev IsLetter : ℕ → Type 0
IsLetter l = nat_lt 0 l ≡ true → 32 ≤ l

letter_choice : (b : Bool) (m n : ℕ) → (b ≡ true → 32 ≤ m) → IsLetter n → IsLetter (cond b m n)
letter_choice true m n h k = λ _. h refl
letter_choice false m n h k = k

mark_prints : (x : ℕ) → ((x == 34) || (x == 92)) ≡ true → 32 ≤ x
mark_prints x h = grind (arith, nat_tests)

letter : (x : ℕ) → IsLetter (escape_letter x)
letter x =
    letter_choice ((x == 34) || (x == 92)) x _ (mark_prints x)
    (letter_choice (x == 8) 98 _ (λ _. omega arith)
    (letter_choice (x == 12) 102 _ (λ _. omega arith)
    (letter_choice (x == 10) 110 _ (λ _. omega arith)
    (letter_choice (x == 13) 114 _ (λ _. omega arith)
    (letter_choice (x == 9) 116 0 (λ _. omega arith) (λ h. cc))))))

digit_prints : (n : ℕ) → 32 ≤ digit_char n
digit_prints n = grind (arith, nat_tests)

above : (x : ℕ) → nat_lt x 32 ≡ false → 32 ≤ x
above x h = grind (arith, nat_tests)

escaped : (x : ℕ) → one_line (escape_byte x) ≡ true
unfolding escape_byte
escaped x =
    choice (nat_lt 0 (escape_letter x)) (92 ∷ escape_letter x ∷ []) _ (λ h. single (escape_letter x) (letter x h))
    (λ _. choice (nat_lt x 32) _ (x ∷ [])
    (λ _. append (digit_char (x / 16) ∷ []) (digit_char (x % 16) ∷ []) (single _ (digit_prints (x / 16))) (single _ (digit_prints (x % 16))))
    (λ h. single x (above x h)))

quoted_line : (s : Text) → one_line (quoted s) ≡ true
quoted_line s = append (escape s) (34 ∷ []) (each escape_byte escaped s) refl

comma_line : (later : Bool) → one_line (comma_if later) ≡ true
comma_line true = refl
comma_line false = refl

texts_line : (later : Bool) (ds : Items) → AreTexts ds → one_line (items_text later ds) ≡ true
texts_line later no_items h = refl
texts_line later (item null ds) h = absurd h.0
texts_line later (item (boolean b) ds) h = absurd h.0
texts_line later (item (number n) ds) h = absurd h.0
texts_line later (item (string s) ds) h =
    append (comma_if later) _ (comma_line later) (append (quoted s) _ (quoted_line s) (texts_line true ds h.1))
texts_line later (item (array es) ds) h = absurd h.0
texts_line later (item (object ms) ds) h = absurd h.0

value_line : (d : Data) → IsFlat d → one_line (compact_text d) ≡ true
value_line null h = refl
value_line (boolean true) h = refl
value_line (boolean false) h = refl
value_line (number (unsigned n)) h = number_line n h
value_line (number (negative z)) h = absurd h
value_line (number (float x)) h = absurd h
value_line (string s) h = quoted_line s
value_line (array ds) h = texts_line false ds h
value_line (object ms) h = absurd h

members_line : (later : Bool) (ms : Members) → AreFlat ms → one_line (members_text later ms) ≡ true
members_line later no_members h = refl
members_line later (member k d ms) h =
    append (comma_if later) _ (comma_line later)
    (append (quoted k) _ (quoted_line k)
    (append (compact_text d) _ (value_line d h.0) (members_line true ms h.1)))

pub row_is_one_line : (r : RowView) → RowFits r → IsOneLine (compact_text (row_data r))
row_is_one_line r h = is_one_line (compact_text (row_data r)) (members_line false (row_members r) (flat_row r h))

pub volume_is_one_line : (v : VolumeView) → VolumeFits v → IsOneLine (compact_text (volume_data v))
volume_is_one_line v h =
    is_one_line (compact_text (volume_data v)) (members_line false (volume_members v) (flat_volume v h))

-- ---- CSV

abbrev AreOneLine : List Text → Type 0
AreOneLine [] = ⊤
AreOneLine (field ∷ fields) = (one_line field ≡ true) × AreOneLine fields

commas : (fields : List Text) → AreOneLine fields → one_line (after_commas fields) ≡ true
commas [] h = refl
commas (field ∷ fields) h = append field (after_commas fields) h.0 (commas fields h.1)

shown_prints : (b : ℕ) → 32 ≤ shown b
shown_prints b = grind (arith, nat_tests)

shown_line : (bytes : List ℕ) → one_line (map shown bytes) ≡ true
shown_line [] = refl
shown_line (b ∷ bs) = and_from (nat_le 32 (shown b)) _ (le-leb 32 (shown b) (shown_prints b)) (shown_line bs)

-- what is shown, with its quotation marks doubled
doubled_line : (x : ℕ) → 32 ≤ x → one_line (doubled x) ≡ true
doubled_line x h = choice (x == 34) (34 ∷ 34 ∷ []) (x ∷ []) (λ _. refl) (λ _. single x h)

doubled_lines : (bytes : List ℕ) → one_line (flat_map doubled (map shown bytes)) ≡ true
doubled_lines [] = refl
doubled_lines (b ∷ bs) = append (doubled (shown b)) _ (doubled_line (shown b) (shown_prints b)) (doubled_lines bs)

flag_line : (flag : Bool) → one_line (flag_word flag) ≡ true
flag_line true = refl
flag_line false = refl

optional_number : (o : Option ℕ) → FitsIfTold o → one_line (number_or_empty o) ≡ true
optional_number None h = refl
optional_number (Some n) h = number_line n h

optional_text : (o : Option (List ℕ)) → one_line (text_or_empty o) ≡ true
optional_text None = refl
optional_text (Some bytes) = shown_line bytes

hex_prints : (n : ℕ) → 32 ≤ hex_digit n
hex_prints n = grind (arith, nat_tests)

pair_line : (b : ℕ) → one_line (lower_pair b) ≡ true
pair_line b =
    append (hex_digit (b / 16) ∷ []) (hex_digit (b % 16) ∷ []) (single _ (hex_prints (b / 16))) (single _ (hex_prints (b % 16)))

digest_lines : (digest : Digested) → CountFits digest → AreOneLine (digest_fields digest)
digest_lines Untold h = tt
digest_lines Missing h = (refl, (refl, tt))
digest_lines (Of digest) h = (number_line digest.count h, (each lower_pair pair_line digest.sha256, tt))

field_lines : (r : RowView) → RowFits r → AreOneLine (csv_fields r)
field_lines r h = (
  flag_line r.directory,
  (
    shown_line r.type_word,
    (
      number_line r.kind h.kind,
      (
        optional_number r.aux h.aux,
        (
          optional_number r.access h.access,
          (
            flag_line r.locked,
            (
              number_line r.size h.size,
              (
                optional_number r.eof h.eof,
                (optional_text r.created, (optional_text r.modified, digest_lines r.digest h.digest)),
              ),
            ),
          ),
        ),
      ),
    ),
  ),
)

pub csv_is_one_line : (r : RowView) → RowFits r → IsOneLine (csv_row r)
csv_is_one_line r h =
    let first = csv_quoted (map shown r.path) in
    let others = after_commas (csv_fields r) in
    let path = append (flat_map doubled (map shown r.path)) (34 ∷ []) (doubled_lines r.path) refl in
    is_one_line (csv_row r) (append first others path (commas (csv_fields r) (field_lines r h)))

pub header_is_one_line : (digests : Bool) → IsOneLine (csv_header digests)
header_is_one_line true = is_one_line (csv_header true) refl
header_is_one_line false = is_one_line (csv_header false) refl
