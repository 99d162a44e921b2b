-- What a text begins with, and that it begins so in one way.
use Rattle.std.proofs.Common.{◌≡◌, ◌≢◌, ℕ, ◌<◌, ◌≤◌, Bool, true, false, Option, Some, None, IfNone, List, [], ◌∷◌, ◌++◌, arith, refl, sym, ap, ap₂, ◌∙◌, subst, inl, inr, length, ◌-◌, drop, take, get_or}
use Rattle.std.proofs.Math.Seq.{take-length}
use Rattle.std.specs.Prelude.{◌&&◌, IsTrue}
use Rattle.std.specs.List.{list_all}
use Rattle.std.specs.Char.{is_digit}
use Rattle.std.specs.Str.Parse.{digits_value}
use Rattle.std.proofs.lemmas.Grind.{common_steps}
use Rattle.vol_layout.specs.declared.form.PlaceForm.{PlaceForm}
use Rattle.vol_layout.specs.declared.form.PlaceForm.TheVariants.{Sector, Block}
use Rattle.host_folders.specs.HostNames.{character_byte, escape_byte, is_plain}
use Rattle.host_folders.specs.HostEntries.{IsCharacter, plain, doubled, IsHexadecimal, SaysByte, character, escaped, marked, is_escape}
use Rattle.host_folders.specs.Reading.{BeginsWith, BeginsWithCharacter, BeginsWithEscape, BeginsWithEscaped, BeginsWithMarked, BeginsWithNumber}

-- ---- answers of readers

-- what holds at `None`
pub on_none : {X : Type 0} {P : Type 0} (result : Option X) → P → IfNone result P
on_none None holds = holds
on_none (Some x) holds = tt

pub none_map : {X P Q : Type 0} (result : Option X) → (P → Q) → IfNone result P → IfNone result Q
none_map None f h = f h
none_map (Some x) f h = tt

pub both : (a b : Bool) → (a && b) ≡ true → (a ≡ true) × (b ≡ true)
both true true h = (refl, refl)
both true false h = absurd cc
both false b h = absurd cc

abbrev is_hex : ℕ → Bool
is_hex c = is_digit c 16

pub hex_first : (c : ℕ) (cs : List ℕ) → IsTrue (list_all is_hex (c ∷ cs)) → (is_hex c ≡ true)
    × IsTrue (list_all is_hex cs)
hex_first c cs h = both (is_hex c) (list_all is_hex cs) h

pub hex_more : (c : ℕ) (cs : List ℕ) → is_hex c ≡ true → IsTrue (list_all is_hex cs) → IsTrue (list_all is_hex (c ∷ cs))
hex_more c cs h all = rw (h) all

-- ---- in one way

plain_no_percent : (c : ℕ) → IsTrue (is_plain c) → c ≢ 37
plain_no_percent c h e = grind (arith, common_steps)

pub digit_no_percent : (c : ℕ) → is_digit c 16 ≡ true → c ≢ 37
digit_no_percent c h e = grind (arith, common_steps)

-- what a text begins with, and what stands behind it
abbrev AreOne : ℕ → ℕ → List ℕ → List ℕ → Type 0
AreOne n m rest other = (n ≡ m) × (rest ≡ other)

pub number_same : (text : List ℕ) (n m : ℕ) (rest other : List ℕ) → BeginsWithNumber text n rest
    → BeginsWithNumber text m other → AreOne n m rest other
number_same text n m rest other one two =
    let cells : one.high ∷ one.low ∷ rest ≡ two.high ∷ two.low ∷ other = sym one.split ∙ two.split in
    let high : one.high ≡ two.high = cc in
    let low : one.low ≡ two.low = cc in
    let behind : rest ≡ other = cc in
    (sym one.number.value ∙ ap₂ (λ (x y : ℕ). digits_value 16 (x ∷ y ∷ [])) high low ∙ two.number.value, behind)

escape_same : (text : List ℕ) (n m : ℕ) (rest other : List ℕ) → BeginsWithEscape text n rest
    → BeginsWithEscape text m other → AreOne n m rest other
escape_same text n m rest other one two =
    let cells : 37 ∷ one.behind ≡ 37 ∷ two.behind = sym one.split ∙ two.split in
    let behind : one.behind ≡ two.behind = cc in
    number_same two.behind n m rest other (subst (λ (t : List ℕ). BeginsWithNumber t n rest) behind one.number)
    two.number

character_same : (text : List ℕ) (c d : ℕ) (rest other : List ℕ) → BeginsWithCharacter text c rest
    → BeginsWithCharacter text d other → AreOne c d rest other
character_same text c d rest other (inl one) (inl two) =
    let cells : c ∷ rest ≡ d ∷ other = sym one.1 ∙ two.1 in (cc, cc)
character_same text c d rest other (inl one) (inr two) =
    let cells : c ∷ rest ≡ 37 ∷ 37 ∷ other = sym one.1 ∙ two.1 in absurd (plain_no_percent c one.0 cc)
character_same text c d rest other (inr one) (inl two) =
    let cells : 37 ∷ 37 ∷ rest ≡ d ∷ other = sym one.1 ∙ two.1 in absurd (plain_no_percent d two.0 cc)
character_same text c d rest other (inr one) (inr two) =
    let cells : 37 ∷ 37 ∷ rest ≡ 37 ∷ 37 ∷ other = sym one.1 ∙ two.1 in (cc, cc)

-- no character is an escape
pub character_no_escape : (text : List ℕ) (c n : ℕ) (rest other : List ℕ) → BeginsWithCharacter text c rest
    → BeginsWithEscape text n other → ⊥
character_no_escape text c n rest other (inl one) two =
    let cells : c ∷ rest ≡ 37 ∷ two.behind = sym one.1 ∙ two.split in plain_no_percent c one.0 cc
character_no_escape text c n rest other (inr one) two =
    let cells : 37 ∷ 37 ∷ rest ≡ 37 ∷ two.number.high ∷ two.number.low ∷ other =
    sym one.1 ∙ two.split ∙ ap (λ (t : List ℕ). 37 ∷ t) two.number.split in
    let digit = hex_first two.number.high (two.number.low ∷ []) two.number.number.digits in
    digit_no_percent two.number.high digit.0 cc

-- an escape alone is not `%7f`
no_mark : (form : PlaceForm) (n : ℕ) → form ≡ Sector → IsTrue (is_escape form n) → n ≢ 127
no_mark Sector n is h e = grind (arith, common_steps)
no_mark Block n is h e = absurd cc

escaped_same : (form : PlaceForm) (text : List ℕ) (b d : ℕ) (rest other : List ℕ)
    → BeginsWithEscaped form text b rest → BeginsWithEscaped form text d other → AreOne b d rest other
escaped_same form text b d rest other (inl one) (inl two) =
    let same = escape_same text one.0 two.0 rest other one.1 two.1 in
    (one.3 ∙ ap (escape_byte form) same.0 ∙ sym two.3, same.1)
escaped_same form text b d rest other (inl one) (inr two) =
    absurd (no_mark form one.0 two.1 one.2 (escape_same text one.0 127 rest two.0 one.1 two.2).0)
escaped_same form text b d rest other (inr one) (inl two) =
    absurd (no_mark form two.0 one.1 two.2 (escape_same text two.0 127 other one.0 two.1 one.2).0)
escaped_same form text b d rest other (inr one) (inr two) =
    let mark = escape_same text 127 127 one.0 two.0 one.2 two.2 in
    escape_same two.0 b d rest other (subst (λ (t : List ℕ). BeginsWithEscape t b rest) mark.1 one.3.escape)
    two.3.escape

some_escape : (form : PlaceForm) (text : List ℕ) (b : ℕ) (rest : List ℕ) → BeginsWithEscaped form text b rest
    → (n : ℕ) × (behind : List ℕ) × BeginsWithEscape text n behind
some_escape form text b rest (inl one) = (one.0, rest, one.1)
some_escape form text b rest (inr one) = (127, one.0, one.2)

pub begins_same : (form : PlaceForm) (text : List ℕ) (b d : ℕ) (rest other : List ℕ) → BeginsWith form text b rest
    → BeginsWith form text d other → AreOne b d rest other
begins_same form text b d rest other (inl one) (inl two) =
    let same = character_same text one.0 two.0 rest other one.1 two.1 in
    (one.2 ∙ ap (character_byte form) same.0 ∙ sym two.2, same.1)
begins_same form text b d rest other (inl one) (inr two) =
    let escape = some_escape form text d other two in
    absurd (character_no_escape text one.0 escape.0 rest escape.1 one.1 escape.2)
begins_same form text b d rest other (inr one) (inl two) =
    let escape = some_escape form text b rest one in
    absurd (character_no_escape text two.0 escape.0 other escape.1 two.1 escape.2)
begins_same form text b d rest other (inr one) (inr two) = escaped_same form text b d rest other one two

-- ---- what none of them begins with

-- a text that begins with `%`
pub after_percent : (text : List ℕ) → 1 ≤ length text → get_or text 0 0 ≡ 37
    → text ≡ 37 ∷ take (length text - 1) (drop 1 text)
after_percent [] some is = absurd (omega arith)
after_percent (c ∷ cs) some is =
    let long : length (c ∷ cs) - 1 ≡ length cs = omega arith in
    ap₂ (λ (x : ℕ) (t : List ℕ). x ∷ t) is (sym (ap (λ (n : ℕ). take n cs) long ∙ take-length cs))

pub never_escape : (text behind : List ℕ) → text ≡ 37 ∷ behind
    → ((n : ℕ) (rest : List ℕ) → ¬ BeginsWithNumber behind n rest) → (n : ℕ) (rest : List ℕ)
    → ¬ BeginsWithEscape text n rest
never_escape text behind e never n rest is =
    let cells : 37 ∷ is.behind ≡ 37 ∷ behind = sym is.split ∙ e in
    let same : is.behind ≡ behind = cc in
    never n rest (subst (λ (t : List ℕ). BeginsWithNumber t n rest) same is.number)

pub no_marked : (text : List ℕ) → ((n : ℕ) (rest : List ℕ) → ¬ BeginsWithEscape text n rest)
    → (byte : ℕ) (rest : List ℕ)
    → ¬ BeginsWithMarked text byte rest
no_marked text never byte rest is = never byte rest is.escape

pub far_marked : (text : List ℕ) (n : ℕ) (rest : List ℕ) → BeginsWithEscape text n rest → (0x20 ≤ n → n < 0x80 → ⊥)
    → (byte : ℕ) (other : List ℕ) → ¬ BeginsWithMarked text byte other
far_marked text n rest is far byte other mark =
    let same = escape_same text n byte rest other is mark.escape in
    far (subst (λ (x : ℕ). 0x20 ≤ x) (sym same.0) mark.seen) (subst (λ (x : ℕ). x < 0x80) (sym same.0) mark.low)

pub no_escaped : (form : PlaceForm) (text : List ℕ) → ((n : ℕ) (rest : List ℕ) → ¬ BeginsWithEscape text n rest)
    → (byte : ℕ) (rest : List ℕ) → ¬ BeginsWithEscaped form text byte rest
no_escaped form text never byte rest is =
    let escape = some_escape form text byte rest is in never escape.0 escape.1 escape.2

-- behind `%7f`
pub no_escaped_marked : (form : PlaceForm) (text behind : List ℕ) → form ≡ Sector → BeginsWithEscape text 127 behind
    → ((byte : ℕ) (rest : List ℕ) → ¬ BeginsWithMarked behind byte rest)
    → (byte : ℕ) (rest : List ℕ) → ¬ BeginsWithEscaped form text byte rest
no_escaped_marked form text behind sector mark never byte rest (inl is) =
    no_mark form is.0 sector is.2 (escape_same text is.0 127 rest behind is.1 mark).0
no_escaped_marked form text behind sector mark never byte rest (inr is) =
    let same = escape_same text 127 127 is.0 behind is.2 mark in
    never byte rest (subst (λ (t : List ℕ). BeginsWithMarked t byte rest) same.1 is.3)

-- before an escape that says nothing
pub no_escaped_alone : (form : PlaceForm) (text : List ℕ) (n : ℕ) (behind : List ℕ) → BeginsWithEscape text n behind
    → ¬ IsTrue (is_escape form n) → (form ≡ Sector → n ≢ 127)
    → (byte : ℕ) (rest : List ℕ) → ¬ BeginsWithEscaped form text byte rest
no_escaped_alone form text n behind escape never unmarked byte rest (inl is) =
    never (subst (λ (x : ℕ). IsTrue (is_escape form x)) (escape_same text is.0 n rest behind is.1 escape).0 is.2)
no_escaped_alone form text n behind escape never unmarked byte rest (inr is) =
    unmarked is.1 (escape_same text n 127 behind is.0 escape is.2).0

pub no_byte : (form : PlaceForm) (text : List ℕ) → ((c : ℕ) (rest : List ℕ) → ¬ BeginsWithCharacter text c rest)
    → ((byte : ℕ) (rest : List ℕ) → ¬ BeginsWithEscaped form text byte rest)
    → (byte : ℕ) (rest : List ℕ) → ¬ BeginsWith form text byte rest
no_byte form text never none byte rest (inl is) = never is.0 rest is.1
no_byte form text never none byte rest (inr is) = none byte rest is

-- ---- pieces

-- two digits at the front
pub digits_begin : (digits : List ℕ) (n : ℕ) (rest : List ℕ) → IsHexadecimal 2 digits n
    → BeginsWithNumber (digits ++ rest) n rest
digits_begin [] n rest is = absurd (let none : 0 ≡ 2 = is.long in omega arith)
digits_begin (d ∷ []) n rest is = absurd (let one : 1 ≡ 2 = is.long in omega arith)
digits_begin (d ∷ e ∷ []) n rest is = record { high = d; low = e; split = refl; number = is }
digits_begin (d ∷ e ∷ f ∷ digits) n rest is = absurd (omega (arith, is.long))

escape_begins : (digits : List ℕ) (n : ℕ) (rest : List ℕ) → IsHexadecimal 2 digits n
    → BeginsWithEscape (37 ∷ digits ++ rest) n rest
escape_begins digits n rest is =
    record { behind = digits ++ rest; split = refl; number = digits_begin digits n rest is }

character_begins : (piece : List ℕ) (c : ℕ) (rest : List ℕ) → IsCharacter piece c
    → BeginsWithCharacter (piece ++ rest) c rest
character_begins _ _ rest (plain c h) = inl (h, refl)
character_begins _ _ rest doubled = inr (refl, refl)

append_apart : (xs ys zs : List ℕ) → (xs ++ ys) ++ zs ≡ xs ++ (ys ++ zs)
append_apart [] ys zs = refl
append_apart (x ∷ xs) ys zs = ap (λ (t : List ℕ). x ∷ t) (append_apart xs ys zs)

marked_begins : (mark digits : List ℕ) (n : ℕ) (rest : List ℕ) → IsHexadecimal 2 mark 127
    → BeginsWithEscape (37 ∷ (mark ++ 37 ∷ digits) ++ rest) 127 (37 ∷ digits ++ rest)
marked_begins mark digits n rest is =
    subst (λ (t : List ℕ). BeginsWithEscape (37 ∷ t) 127 (37 ∷ digits ++ rest))
    (sym (append_apart mark (37 ∷ digits) rest))
    (escape_begins mark 127 (37 ∷ digits ++ rest) is)

pub piece_begins : (form : PlaceForm) (piece : List ℕ) (byte : ℕ) (rest : List ℕ) → SaysByte form piece byte
    → BeginsWith form (piece ++ rest) byte rest
piece_begins form _ _ rest (character piece c is) = inl (c, character_begins piece c rest is, refl)
piece_begins form _ _ rest (escaped digits n is alone) = inr (inl (n, escape_begins digits n rest is, alone, refl))
piece_begins form _ _ rest (marked mark digits n sector is_mark is seen low) =
    inr (inr (
      37 ∷ digits ++ rest,
      sector,
      marked_begins mark digits n rest is_mark,
      record { escape = escape_begins digits n rest is; seen = seen; low = low },
    ))

-- a piece at the front of a text
pub record IsPiece (form : PlaceForm) (text : List ℕ) (byte : ℕ) (rest : List ℕ) : Type 0 where
  pub piece : List ℕ
  pub says : SaysByte form piece byte
  pub split : text ≡ piece ++ rest

pub as_byte : (form : PlaceForm) (piece : List ℕ) (byte other : ℕ) → other ≡ byte → SaysByte form piece other
    → SaysByte form piece byte
as_byte form piece byte other e h = subst (λ (b : ℕ). SaysByte form piece b) e h

split_escape : (text : List ℕ) (n : ℕ) (rest : List ℕ) (e : BeginsWithEscape text n rest)
    → text ≡ 37 ∷ e.number.high ∷ e.number.low ∷ rest
split_escape text n rest e = e.split ∙ ap (λ (t : List ℕ). 37 ∷ t) e.number.split

pub begin_piece : (form : PlaceForm) (text : List ℕ) (byte : ℕ) (rest : List ℕ) → BeginsWith form text byte rest
    → IsPiece form text byte rest
begin_piece form text byte rest (inl (c, inl is, e)) = record {
  piece = c ∷ [];
  says = as_byte form _ _ _ (sym e) (character (c ∷ []) c (plain c is.0));
  split = is.1;
}
begin_piece form text byte rest (inl (c, inr is, e)) = record {
  piece = 37 ∷ 37 ∷ [];
  says = as_byte form _ _ _ (ap (character_byte form) (sym is.0) ∙ sym e) (character (37 ∷ 37 ∷ []) 37 doubled);
  split = is.1;
}
begin_piece form text byte rest (inr (inl (n, is, alone, e))) = record {
  piece = 37 ∷ is.number.high ∷ is.number.low ∷ [];
  says = as_byte form _ _ _ (sym e) (escaped (is.number.high ∷ is.number.low ∷ []) n is.number.number alone);
  split = split_escape text n rest is;
}
begin_piece form text byte rest (inr (inr (behind, sector, mark, is))) = record {
  piece = 37 ∷ mark.number.high ∷ mark.number.low ∷ 37 ∷ is.escape.number.high ∷ is.escape.number.low ∷ [];
  says = marked (mark.number.high ∷ mark.number.low ∷ []) (is.escape.number.high ∷ is.escape.number.low ∷ []) byte
      sector
      mark.number.number is.escape.number.number is.seen is.low;
  split = split_escape text 127 behind mark
      ∙ ap (λ (t : List ℕ). 37 ∷ mark.number.high ∷ mark.number.low ∷ t) (split_escape behind byte rest is.escape);
}

pub no_first : (form : PlaceForm) (byte : ℕ) (rest : List ℕ) → ¬ BeginsWith form [] byte rest
no_first form byte rest (inl (c, inl is, e)) = let never : [] ≡ c ∷ rest = is.1 in cc
no_first form byte rest (inl (c, inr is, e)) = let never : [] ≡ 37 ∷ 37 ∷ rest = is.1 in cc
no_first form byte rest (inr (inl (n, is, alone, e))) = let never : [] ≡ 37 ∷ is.behind = is.split in cc
no_first form byte rest (inr (inr (behind, sector, mark, is))) = let never : [] ≡ 37 ∷ mark.behind = mark.split in cc

-- what stands behind is shorter
shorter_escape : (text : List ℕ) (n : ℕ) (rest : List ℕ) → BeginsWithEscape text n rest → length rest < length text
shorter_escape text n rest e =
    let long : length text ≡ length (37 ∷ e.number.high ∷ e.number.low ∷ rest) =
    ap length (split_escape text n rest e) in
    omega (arith, long)

pub shorter : (form : PlaceForm) (text : List ℕ) (byte : ℕ) (rest : List ℕ) → BeginsWith form text byte rest
    → length rest < length text
shorter form text byte rest (inl (c, inl is, e)) =
    let long : length text ≡ length (c ∷ rest) = ap length is.1 in omega (arith, long)
shorter form text byte rest (inl (c, inr is, e)) =
    let long : length text ≡ length (37 ∷ 37 ∷ rest) = ap length is.1 in omega (arith, long)
shorter form text byte rest (inr (inl (n, is, alone, e))) = shorter_escape text n rest is
shorter form text byte rest (inr (inr (behind, sector, mark, is))) =
    let first = shorter_escape text 127 behind mark in
    let second = shorter_escape behind byte rest is.escape in
    omega (arith, first, second)

pub no_first_behind_percent : (form : PlaceForm) (byte : ℕ) (rest : List ℕ) → ¬ BeginsWith form (37 ∷ []) byte rest
no_first_behind_percent form byte rest (inl (c, inl is, e)) =
    let cells : 37 ∷ [] ≡ c ∷ rest = is.1 in plain_no_percent c is.0 cc
no_first_behind_percent form byte rest (inl (c, inr is, e)) = let cells : 37 ∷ [] ≡ 37 ∷ 37 ∷ rest = is.1 in cc
no_first_behind_percent form byte rest (inr (inl (n, is, alone, e))) =
    let cells : 37 ∷ [] ≡ 37 ∷ is.number.high ∷ is.number.low ∷ rest = split_escape (37 ∷ []) n rest is in cc
no_first_behind_percent form byte rest (inr (inr (behind, sector, mark, is))) =
    let cells : 37 ∷ [] ≡ 37 ∷ mark.number.high ∷ mark.number.low ∷ behind =
    split_escape (37 ∷ []) 127 behind mark in cc
