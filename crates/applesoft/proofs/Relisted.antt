-- The listing of a program that was made from a text is that program.
use Rattle.std.proofs.Common.{◌≡◌, ◌≢◌, ℕ, suc, ◌+◌, ◌-◌, ◌^◌, ◌<◌, ◌≤◌, ◌==◌, nat_lt, Bool, true, false, not, cond, List, [], ◌∷◌, ◌++◌, All, length, get_or, take, drop, arith, refl, sym, ap, ◌∙◌, subst, inl, inr, append_assoc, append-nil, length-append}
use Rattle.std.specs.Prelude.{decimal, filter, flat_map, map}
use Rattle.std.specs.List.{AllZip, prefix_len}
use Rattle.std.specs.Int.{IsInRange}
use Rattle.std.specs.Char.{is_ascii_digit}
use Rattle.std.specs.Str.Lines.{lines, strip_carriage_return}
use Rattle.std.specs.Str.Parse.{digits_value}
use Rattle.std.proofs.Math.Seq.{get_or-append_seam}
use Rattle.std.proofs.lemmas.Grind.{common_steps, flat_map-append}
use Rattle.std.proofs.lemmas.Bool.{cases_eq, cases_lt}
use Rattle.std.proofs.lemmas.Fmt.{decimal_nonempty, digits_decimal, digits_value-decimal}
use Rattle.std.proofs.lemmas.Str.Parse.{IsNumeralModel, numerals_by_value, tells_by_index}
use Rattle.std.proofs.lemmas.List.Elements.{All-append, All-cons, All-from_get_or, All-get_or, All-head, All-nil, All-tail, All-weaker}
use Rattle.apple_text.specs.Shown.{Text, character}
use Rattle.applesoft.specs.Words.{word_of}
use Rattle.applesoft.specs.Program.{IsCode, IsLine, IsListed, Line, byte_text, line_bytes, line_text, listing, program_bytes}
use Rattle.applesoft.specs.Tokens.{ArePlaced, IsAllowed, IsLineOf, IsPlaced, IsTokenized, behind_number, digits_len, is_passed_over, number_digits, without_spaces}
use Rattle.applesoft.proofs.Split.{lines_at}
use Rattle.applesoft.proofs.Table.{AreLetters, first_letter, is_word, later_letters}
use Rattle.applesoft.proofs.Ahead.{byte_codes, character_listed, listed}
use Rattle.applesoft.proofs.Again.{is_again, codes_read, after_space}

-- ---- the characters of a line that is listed

-- no newline, and no return at the end
record IsWithin (c : ℕ) : Type 0 where
  pub no_newline : c ≢ 10
  pub no_return : c ≢ 13

within_letters : (w : Text) → AreLetters w → All IsWithin w
within_letters [] are = All-nil IsWithin
within_letters (c ∷ w) are =
    let letter = first_letter c w are in
    All-cons IsWithin c w (record { no_newline = λ e. omega (arith, letter.more, e); no_return = λ e. omega (arith, letter.more, e) }) (within_letters w (later_letters c w are))

-- codes may stand in a line
allowed_letters : (w : Text) → AreLetters w → All IsAllowed w
allowed_letters [] are = All-nil IsAllowed
allowed_letters (c ∷ w) are =
    let letter = first_letter c w are in
    All-cons IsAllowed c w (record { some = λ e. omega (arith, letter.more, e); small = omega (arith, letter.less) }) (allowed_letters w (later_letters c w are))

shown_letters : (w : Text) → AreLetters w → flat_map character w ≡ w
shown_letters [] are = refl
shown_letters (c ∷ w) are =
    let letter = first_letter c w are in
    ap (λ s. s ++ flat_map character w) (printed c letter.more letter.less) ∙ ap (λ s. c ∷ s) (shown_letters w (later_letters c w are))
  where
    printed : (c : ℕ) → 32 < c → c < 97 → character c ≡ c ∷ []
    printed c more less = grind (arith, common_steps)

within_character : (c : ℕ) → c < 128 → All IsWithin (character c)
within_character c small = elim (cases_lt c 32) [
  | inl low ↦ subst (All IsWithin) (sym (picture_is c low)) (pictured (0x80 + c) (λ e. omega arith) (λ e. omega arith))
  | inr printed ↦ elim (cases_eq c 127) [
    | inl is ↦ subst (All IsWithin) (sym (ap character is)) (pictured 0xa1 (λ e. omega arith) (λ e. omega arith))
    | inr other ↦ subst (All IsWithin) (sym (printed_is c printed other)) (All-cons IsWithin c [] (record { no_newline = λ e. omega arith; no_return = λ e. omega arith }) (All-nil IsWithin))
  ]
]
  where
    picture_is : (c : ℕ) → c < 32 → character c ≡ 0xe2 ∷ 0x90 ∷ (0x80 + c) ∷ []
    picture_is c low = grind (arith, common_steps)

    printed_is : (c : ℕ) → 32 ≤ c → c ≢ 127 → character c ≡ c ∷ []
    printed_is c printed other = grind (arith, common_steps)

    pictured : (last : ℕ) → last ≢ 10 → last ≢ 13 → All IsWithin (0xe2 ∷ 0x90 ∷ last ∷ [])
    pictured last a b =
        All-cons IsWithin 0xe2 (0x90 ∷ last ∷ []) (record { no_newline = λ e. omega arith; no_return = λ e. omega arith })
        (All-cons IsWithin 0x90 (last ∷ []) (record { no_newline = λ e. omega arith; no_return = λ e. omega arith })
        (All-cons IsWithin last [] (record { no_newline = a; no_return = b }) (All-nil IsWithin)))

-- a byte of a line
record IsByte (byte : ℕ) : Type 0 where
  pub within : All IsWithin (byte_text byte)
  pub shown : byte_text byte ≡ flat_map character (byte_codes byte)
  pub allowed : All IsAllowed (byte_codes byte)

pick_first : (b : Bool) (s t : Text) → b ≡ true → cond b s t ≡ s
pick_first true s t e = refl
pick_first false s t e = absurd (let no' : false ≡ true = e in cc)

pick_second : (b : Bool) (s t : Text) → b ≡ false → cond b s t ≡ t
pick_second true s t e = absurd (let no' : true ≡ false = e in cc)
pick_second false s t e = refl

small_text : (byte : ℕ) → byte < 0x80 → byte_text byte ≡ character byte
small_text byte small = pick_first (nat_lt byte 0x80) (character byte) (32 ∷ word_of (byte - 0x80) ++ 32 ∷ []) (grind arith)

great_text : (byte : ℕ) → 0x80 ≤ byte → byte_text byte ≡ 32 ∷ word_of (byte - 0x80) ++ 32 ∷ []
great_text byte great = pick_second (nat_lt byte 0x80) (character byte) (32 ∷ word_of (byte - 0x80) ++ 32 ∷ []) (grind arith)

great_codes : (byte : ℕ) → 0x80 ≤ byte → byte_codes byte ≡ 32 ∷ word_of (byte - 0x80) ++ 32 ∷ []
great_codes byte great = pick_second (nat_lt byte 0x80) (byte ∷ []) (32 ∷ word_of (byte - 0x80) ++ 32 ∷ []) (grind arith)

is_byte : (byte : ℕ) → IsCode byte → IsByte byte
is_byte byte code = elim (cases_lt byte 0x80) [
  | inl small ↦
      let text : byte_text byte ≡ character byte = small_text byte small in
      let one : byte_codes byte ≡ byte ∷ [] = character_listed byte small in record {
        within = subst (All IsWithin) (sym text) (within_character byte small);
        shown = text ∙ sym (append-nil (character byte)) ∙ sym (ap (flat_map character) one);
        allowed = subst (All IsAllowed) (sym one) (All-cons IsAllowed byte [] (record { some = code.some; small = small }) (All-nil IsAllowed));
      }
  | inr great ↦
      let token : byte - 0x80 < 107 = omega (arith, code.token, great) in
      let word = is_word (byte - 0x80) token in
      let text : byte_text byte ≡ 32 ∷ word_of (byte - 0x80) ++ 32 ∷ [] = great_text byte great in
      let same : byte_codes byte ≡ 32 ∷ word_of (byte - 0x80) ++ 32 ∷ [] = great_codes byte great in
      let space : IsWithin 32 = record { no_newline = λ e. omega arith; no_return = λ e. omega arith } in
      let space' : IsAllowed 32 = record { some = λ e. omega arith; small = omega arith } in record {
        within = subst (All IsWithin) (sym text) (All-cons IsWithin 32 (word_of (byte - 0x80) ++ 32 ∷ []) space
            (All-append IsWithin (word_of (byte - 0x80)) (32 ∷ []) (within_letters (word_of (byte - 0x80)) word.letters) (All-cons IsWithin 32 [] space (All-nil IsWithin))));
        shown = text ∙ ap (λ s. 32 ∷ s) (sym (ap (λ s. s ++ 32 ∷ []) (shown_letters (word_of (byte - 0x80)) word.letters)))
            ∙ ap (λ s. 32 ∷ s) (sym (flat_map-append character (word_of (byte - 0x80)) (32 ∷ []))) ∙ sym (ap (flat_map character) same);
        allowed = subst (All IsAllowed) (sym same) (All-cons IsAllowed 32 (word_of (byte - 0x80) ++ 32 ∷ []) space'
            (All-append IsAllowed (word_of (byte - 0x80)) (32 ∷ []) (allowed_letters (word_of (byte - 0x80)) word.letters) (All-cons IsAllowed 32 [] space' (All-nil IsAllowed))));
      }
]

-- the bytes of a line
record AreBytes (body : List ℕ) : Type 0 where
  pub within : All IsWithin (flat_map byte_text body)
  pub shown : flat_map byte_text body ≡ flat_map character (listed body)
  pub allowed : All IsAllowed (listed body)

are_bytes : (body : List ℕ) → All IsCode body → AreBytes body
are_bytes [] codes = record { within = All-nil IsWithin; shown = refl; allowed = All-nil IsAllowed }
are_bytes (byte ∷ body) codes =
    let first = is_byte byte (All-head IsCode byte body codes) in
    let later = are_bytes body (All-tail IsCode byte body codes) in record {
      within = All-append IsWithin (byte_text byte) (flat_map byte_text body) first.within later.within;
      shown = ap (λ s. s ++ flat_map byte_text body) first.shown ∙ ap (λ s. flat_map character (byte_codes byte) ++ s) later.shown
          ∙ sym (flat_map-append character (byte_codes byte) (listed body));
      allowed = All-append IsAllowed (byte_codes byte) (listed body) first.allowed later.allowed;
    }

-- ---- the number of a line

abbrev AreDigits : Text → Type 0
AreDigits ds = (i : ℕ) → i < length ds → IsInRange 48 57 (get_or ds i 0)

own : IsNumeralModel AreDigits (digits_value 10)
own = numerals_by_value AreDigits tells_by_index

-- a digit
abbrev IsDigit : ℕ → Type 0
IsDigit c = (48 ≤ c) × (c ≤ 57)

record IsNumber (n : ℕ) : Type 0 where
  pub some : decimal n ≢ []
  pub digits : All IsDigit (decimal n)
  pub value : digits_value 10 (decimal n) ≡ n

is_number : (n : ℕ) → n < 65536 → IsNumber n
is_number n small =
    let fits : n < 2 ^ 64 = omega (arith, small) in record {
      some = λ e. omega (arith, decimal_nonempty n fits, ap length e);
      digits = All-from_get_or IsDigit (decimal n) 0 (λ i within. let d = digits_decimal own n fits i within in (d.0, d.1));
      value = digits_value-decimal own n fits;
    }

digit_test : (c : ℕ) → IsDigit c → is_ascii_digit c ≡ true
digit_test c is = let more : 48 ≤ c = is.0 in let less : c ≤ 57 = is.1 in grind (arith, common_steps)

prefix_more : (c : ℕ) (cs : Text) → IsDigit c → prefix_len is_ascii_digit (c ∷ cs) ≡ 1 + prefix_len is_ascii_digit cs
prefix_more c cs is = ap (λ b. cond b (1 + prefix_len is_ascii_digit cs) 0) (digit_test c is)

digits_front : (ds rest : Text) → All IsDigit ds → prefix_len is_ascii_digit (ds ++ 32 ∷ rest) ≡ length ds
digits_front [] rest are = refl
digits_front (d ∷ ds) rest are =
    omega (arith, prefix_more d (ds ++ 32 ∷ rest) (All-head IsDigit d ds are), digits_front ds rest (All-tail IsDigit d ds are))

-- digits before something are no spaces
front_kept : (ds rest : Text) → ds ≢ [] → All IsDigit ds → without_spaces (ds ++ rest) ≡ ds ++ rest
front_kept [] rest some are = absurd (some refl)
front_kept (d ∷ ds) rest some are = let more : 48 ≤ d = (All-head IsDigit d ds are).0 in kept d (ds ++ rest) (omega (arith, more))
  where
    kept : (d : ℕ) (cs : Text) → 32 < d → without_spaces (d ∷ cs) ≡ d ∷ cs
    kept d cs more = grind (arith, common_steps)

take_front : (ds rest : Text) → take (length ds) (ds ++ rest) ≡ ds
take_front [] rest = refl
take_front (d ∷ ds) rest = ap (λ s. d ∷ s) (take_front ds rest)

drop_front : (ds rest : Text) → drop (length ds) (ds ++ rest) ≡ rest
drop_front [] rest = refl
drop_front (d ∷ ds) rest = drop_front ds rest

-- ---- a line

positive : (c : ℕ) (cs : Text) → (length (c ∷ cs) == 0) ≡ false
positive c cs = grind (arith, common_steps)

not_over : (t : Text) → without_spaces t ≡ t → t ≢ [] → is_passed_over t ≡ false
not_over [] kept some = absurd (some refl)
not_over (c ∷ cs) kept some = ap (λ s. length s == 0) kept ∙ positive c cs

nothing_before : (ds rest : Text) → ds ++ rest ≡ [] → ds ≡ []
nothing_before [] rest e = refl
nothing_before (d ∷ ds) rest e = absurd (let no' : d ∷ (ds ++ rest) ≡ [] = e in cc)

record IsRelisted (line : Line) : Type 0 where
  pub within : All IsWithin (line_text line)
  pub counts : is_passed_over (line_text line) ≡ false
  pub read : IsLineOf (line_text line) line

digits_within : (ds : Text) → All IsDigit ds → All IsWithin ds
digits_within ds are = All-weaker IsDigit IsWithin (λ c is. record { no_newline = λ e. omega (arith, is.0, e); no_return = λ e. omega (arith, is.0, e) }) ds are

relisted : (text : Text) (line : Line) → IsLineOf text line → IsRelisted line
relisted text line is =
    let number = is_number line.number is.fits in
    let body = is.body_is in
    let codes = codes_read true body.codes line.body body.shown.allowed body.scanned in
    let bytes = are_bytes line.body codes in
    let kept : without_spaces (line_text line) ≡ line_text line = front_kept (decimal line.number) (32 ∷ flat_map byte_text line.body) number.some number.digits in
    let long : digits_len (line_text line) ≡ length (decimal line.number)
    = ap (prefix_len is_ascii_digit) kept ∙ digits_front (decimal line.number) (flat_map byte_text line.body) number.digits in
    let front : number_digits (line_text line) ≡ decimal line.number
    = ap (λ n. take n (without_spaces (line_text line))) long ∙ ap (take (length (decimal line.number))) kept
    ∙ take_front (decimal line.number) (32 ∷ flat_map byte_text line.body) in
    let behind : behind_number (line_text line) ≡ 32 ∷ flat_map byte_text line.body
    = ap (λ n. drop n (without_spaces (line_text line))) long ∙ ap (drop (length (decimal line.number))) kept
    ∙ drop_front (decimal line.number) (32 ∷ flat_map byte_text line.body) in
    let small : All (λ d. d < 128) body.codes = All-weaker IsAllowed (λ d. d < 128) (λ d (a : IsAllowed d). a.small) body.codes body.shown.allowed in
    record {
      within = All-append IsWithin (decimal line.number) (32 ∷ flat_map byte_text line.body) (digits_within (decimal line.number) number.digits)
          (All-cons IsWithin 32 (flat_map byte_text line.body) (record { no_newline = λ e. omega arith; no_return = λ e. omega arith }) bytes.within);
      counts = not_over (line_text line) kept (λ e. number.some (nothing_before (decimal line.number) (32 ∷ flat_map byte_text line.body) e));
      read = record {
        digits = λ e. number.some (sym front ∙ e);
        number_is = sym number.value ∙ ap (digits_value 10) (sym front);
        fits = is.fits;
        body_is = record {
          codes = 32 ∷ listed line.body;
          shown = record {
            allowed = All-cons IsAllowed 32 (listed line.body) (record { some = λ e. omega arith; small = omega arith }) bytes.allowed;
            shown = behind ∙ ap (λ s. 32 ∷ s) bytes.shown;
          };
          scanned = after_space true (listed line.body) line.body (is_again true body.codes line.body small body.scanned).scanned;
          some = body.some;
          short = body.short;
        };
      };
    }

-- ---- lines

all_relisted : (texts : List Text) (ls : List Line) → AllZip IsLineOf texts ls → All IsRelisted ls
all_relisted [] [] read = All-nil IsRelisted
all_relisted [] (l ∷ ls) read = absurd read
all_relisted (t ∷ texts) [] read = absurd read
all_relisted (t ∷ texts) (l ∷ ls) read = All-cons IsRelisted l ls (relisted t l read.0) (all_relisted texts ls read.1)

drop_behind : (t r : Text) → drop (suc (length t)) (t ++ 10 ∷ r) ≡ r
drop_behind [] r = refl
drop_behind (c ∷ t) r = drop_behind t r

length_behind : (t r : Text) → length t < length (t ++ 10 ∷ r)
length_behind t r = omega (arith, length-append t (10 ∷ r))

unstripped : (t : Text) → All IsWithin t → strip_carriage_return t ≡ t
unstripped [] all = refl
unstripped (c ∷ t) all = pick (get_or (c ∷ t) (length (c ∷ t) - 1) 0 == 13)
    (not_13 (get_or (c ∷ t) (length (c ∷ t) - 1) 0) (All-get_or IsWithin (c ∷ t) (length (c ∷ t) - 1) 0 (omega arith) all).no_return)
  where
    pick : (b : Bool) → b ≡ false → cond b (take (length (c ∷ t) - 1) (c ∷ t)) (c ∷ t) ≡ c ∷ t
    pick true e = absurd (let no' : true ≡ false = e in cc)
    pick false e = refl

    not_13 : (n : ℕ) → n ≢ 13 → (n == 13) ≡ false
    not_13 n other = grind (arith, common_steps)

lines_first : (t rest : Text) → All IsWithin t → lines (t ++ 10 ∷ rest) ≡ t ∷ lines rest
lines_first t rest all =
    lines_at (t ++ 10 ∷ rest) (length t) (record {
      within = length_behind t rest;
      newline = get_or-append_seam t 10 rest 0;
      before = subst (All (λ c. c ≢ 10)) (sym (take_front t (10 ∷ rest))) (All-weaker IsWithin (λ c. c ≢ 10) (λ c (w : IsWithin c). w.no_newline) t all);
    })
    ∙ ap (λ s. strip_carriage_return s ∷ lines (drop (suc (length t)) (t ++ 10 ∷ rest))) (take_front t (10 ∷ rest))
    ∙ ap (λ s. s ∷ lines (drop (suc (length t)) (t ++ 10 ∷ rest))) (unstripped t all)
    ∙ ap (λ r. t ∷ lines r) (drop_behind t rest)

lines_listing : (ls : List Line) → All IsRelisted ls → lines (listing ls) ≡ map line_text ls
lines_listing [] all = refl
lines_listing (l ∷ ls) all =
    ap lines (append_assoc (line_text l) (10 ∷ []) (listing ls))
    ∙ lines_first (line_text l) (listing ls) (All-head IsRelisted l ls all).within
    ∙ ap (λ t. line_text l ∷ t) (lines_listing ls (All-tail IsRelisted l ls all))

all_count : (ls : List Line) → All IsRelisted ls → filter (λ t. not (is_passed_over t)) (map line_text ls) ≡ map line_text ls
all_count [] all = refl
all_count (l ∷ ls) all =
    ap (λ b. cond (not b) (line_text l ∷ filter (λ t. not (is_passed_over t)) (map line_text ls)) (filter (λ t. not (is_passed_over t)) (map line_text ls)))
    (All-head IsRelisted l ls all).counts
    ∙ ap (λ t. line_text l ∷ t) (all_count ls (All-tail IsRelisted l ls all))

all_read : (ls : List Line) → All IsRelisted ls → AllZip IsLineOf (map line_text ls) ls
all_read [] all = tt
all_read (l ∷ ls) all = ((All-head IsRelisted l ls all).read, all_read ls (All-tail IsRelisted l ls all))

-- lines that were read and placed are lines of a program
is_line : (text : Text) (least address : ℕ) (l : Line) → IsLineOf text l → IsPlaced least address l → IsLine l
is_line text least address l read placed =
    let body = read.body_is in record {
      linked = λ e. omega (arith, e, placed.link, five l);
      link = omega (arith, placed.within);
      number = read.fits;
      body = codes_read true body.codes l.body body.shown.allowed body.scanned;
    }
  where
    five : (l : Line) → 0 < length (line_bytes l)
    five l = omega arith

are_lines : (texts : List Text) (least address : ℕ) (ls : List Line) → AllZip IsLineOf texts ls → ArePlaced least address ls → All IsLine ls
are_lines [] least address [] read placed = All-nil IsLine
are_lines [] least address (l ∷ ls) read placed = absurd read
are_lines (t ∷ texts) least address [] read placed = absurd read
are_lines (t ∷ texts) least address (l ∷ ls) read placed =
    All-cons IsLine l ls (is_line t least address l read.0 placed.0) (are_lines texts (suc l.number) l.link ls read.1 placed.1)

pub listed_again : (text : Text) (program : List ℕ) → IsTokenized text program → (again : Text) × IsListed program again × IsTokenized again program
listed_again text program is =
    let all = all_relisted (filter (λ t. not (is_passed_over t)) (lines text)) is.lines is.read in (
      listing is.lines,
      record {
        lines = is.lines;
        behind = [];
        are_lines = are_lines (filter (λ t. not (is_passed_over t)) (lines text)) 0 0x0801 is.lines is.read is.placed;
        bytes_are = is.bytes ∙ sym (append-nil (program_bytes is.lines));
        text_is = refl;
      },
      record {
        lines = is.lines;
        read = subst (λ ts. AllZip IsLineOf ts is.lines)
            (sym (ap (filter (λ t. not (is_passed_over t))) (lines_listing is.lines all) ∙ all_count is.lines all)) (all_read is.lines all);
        placed = is.placed;
        bytes = is.bytes;
      },
    )
