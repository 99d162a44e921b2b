-- A value of JSON whose members are flat and whose keys rise reads back from its text.
use Rattle.std.proofs.Common.{◌≡◌, ◌∙◌, ℕ, ◌^◌, ◌<◌, ◌≤◌, Bool, true, false, Option, Some, List, [], ◌++◌, Ordering, Less, Equal, Greater, refl, sym, ap, arith, append-nil}
use Rattle.std.specs.Prelude.{⊤, ◌&&◌, option_and_then, option_map}
use Rattle.std.specs.Ordering.{nat_cmp, match_ordering}
use Rattle.std.specs.Cmp.Lexicographic.{slice_cmp}
use Rattle.std.proofs.lemmas.Bool.{and_parts}
use Rattle.json.specs.Json.{Json, value, if_last}
use Rattle.json.specs.Lex.{tokens}
use Rattle.json.specs.Token.{Token}
use Rattle.json.specs.Tree.{json_tokens, HasNumbers, ItemsHaveNumbers, MembersHaveNumbers, depth, items_depth, members_depth}
use Rattle.json.proofs.Printed.Decimals.{IsNumber-decimal}
use Rattle.json.proofs.Printed.Tokens.{tokens-print}
use Rattle.json.proofs.Printed.Trees.{ArePrintable-json_tokens, value-json_tokens}
use Rattle.serde_json.specs.Data.{Data, unsigned, negative, float, null, boolean, number, string, array, object, Items, no_items, item, Members, no_members, member, put}
use Rattle.serde_json.specs.Read.{read, of_json, of_items, of_members, max_depth}
use Rattle.serde_json.specs.Written.{compact_text, outline, items_outline, members_outline}
use Rattle.serde_json.proofs.Texts.{print-outline}
use Rattle.serde_json.proofs.Numbers.{number_of-decimal}

abbrev pub IsText : Data → Type 0
IsText null = ⊥
IsText (boolean b) = ⊥
IsText (number n) = ⊥
IsText (string s) = ⊤
IsText (array ds) = ⊥
IsText (object ms) = ⊥

abbrev pub AreTexts : Items → Type 0
AreTexts no_items = ⊤
AreTexts (item d ds) = IsText d × AreTexts ds

-- null, a flag, a text, a list of texts, or a number that fits 64 bits
abbrev pub IsFlat : Data → Type 0
IsFlat null = ⊤
IsFlat (boolean b) = ⊤
IsFlat (number (unsigned n)) = n < 2 ^ 64
IsFlat (number (negative z)) = ⊥
IsFlat (number (float x)) = ⊥
IsFlat (string s) = ⊤
IsFlat (array ds) = AreTexts ds
IsFlat (object ms) = ⊥

abbrev pub AreFlat : Members → Type 0
AreFlat no_members = ⊤
AreFlat (member k d ms) = IsFlat d × AreFlat ms

texts_numbers : (ds : Items) → AreTexts ds → ItemsHaveNumbers (items_outline ds)
texts_numbers no_items h = tt
texts_numbers (item null ds) h = absurd h.0
texts_numbers (item (boolean b) ds) h = absurd h.0
texts_numbers (item (number n) ds) h = absurd h.0
texts_numbers (item (string s) ds) h = (tt, texts_numbers ds h.1)
texts_numbers (item (array es) ds) h = absurd h.0
texts_numbers (item (object ms) ds) h = absurd h.0

value_numbers : (d : Data) → IsFlat d → HasNumbers (outline d)
value_numbers null h = tt
value_numbers (boolean b) h = tt
value_numbers (number (unsigned n)) h = IsNumber-decimal n h
value_numbers (number (negative z)) h = absurd h
value_numbers (number (float x)) h = absurd h
value_numbers (string s) h = tt
value_numbers (array ds) h = texts_numbers ds h
value_numbers (object ms) h = absurd h

members_numbers : (ms : Members) → AreFlat ms → MembersHaveNumbers (members_outline ms)
members_numbers no_members h = tt
members_numbers (member k d ms) h = (value_numbers d h.0, members_numbers ms h.1)

texts_depth : (ds : Items) → AreTexts ds → items_depth (items_outline ds) ≡ 0
texts_depth no_items h = refl
texts_depth (item null ds) h = absurd h.0
texts_depth (item (boolean b) ds) h = absurd h.0
texts_depth (item (number n) ds) h = absurd h.0
texts_depth (item (string s) ds) h = omega (arith, texts_depth ds h.1)
texts_depth (item (array es) ds) h = absurd h.0
texts_depth (item (object ms) ds) h = absurd h.0

value_depth : (d : Data) → IsFlat d → depth (outline d) ≤ 1
value_depth null h = omega arith
value_depth (boolean b) h = omega arith
value_depth (number n) h = omega arith
value_depth (string s) h = omega arith
value_depth (array ds) h = omega (arith, texts_depth ds h)
value_depth (object ms) h = absurd h

members_shallow : (ms : Members) → AreFlat ms → members_depth (members_outline ms) ≤ 1
members_shallow no_members h = omega arith
members_shallow (member k d ms) h = omega (arith, value_depth d h.0, members_shallow ms h.1)

texts_read : (ds : Items) → AreTexts ds → of_items (items_outline ds) ≡ Some ds
texts_read no_items h = refl
texts_read (item null ds) h = absurd h.0
texts_read (item (boolean b) ds) h = absurd h.0
texts_read (item (number n) ds) h = absurd h.0
texts_read (item (string s) ds) h = ap (option_map (item (string s))) (texts_read ds h.1)
texts_read (item (array es) ds) h = absurd h.0
texts_read (item (object ms) ds) h = absurd h.0

value_read : (d : Data) → IsFlat d → of_json (outline d) ≡ Some d
value_read null h = refl
value_read (boolean b) h = refl
value_read (number (unsigned n)) h = ap (option_map number) (number_of-decimal n h)
value_read (number (negative z)) h = absurd h
value_read (number (float x)) h = absurd h
value_read (string s) h = refl
value_read (array ds) h = ap (option_map array) (texts_read ds h)
value_read (object ms) h = absurd h

-- ---- keys that rise

-- the members of both, in order
abbrev pub joined : Members → Members → Members
joined no_members ns = ns
joined (member k d ms) ns = member k d (joined ms ns)

joined_none : (ms : Members) → joined ms no_members ≡ ms
joined_none no_members = refl
joined_none (member k d ms) = ap (member k d) (joined_none ms)

joined_one : (ms : Members) (k : List ℕ) (d : Data) (ns : Members)
    → joined (joined ms (member k d no_members)) ns ≡ joined ms (member k d ns)
joined_one no_members k d ns = refl
joined_one (member l e ms) k d ns = ap (member l e) (joined_one ms k d ns)

abbrev is_greater : Ordering → Bool
is_greater o = match_ordering o false false true

-- the key stands behind every key of the members
abbrev is_behind : List ℕ → Members → Bool
is_behind k no_members = true
is_behind k (member l e ms) = is_greater (slice_cmp nat_cmp k l) && is_behind k ms

-- each of these keys stands behind those that are found, and they rise
abbrev pub rises : Members → Members → Bool
rises found no_members = true
rises found (member k d ms) = is_behind k found && rises (joined found (member k d no_members)) ms

greater : {A : Type 0} (o : Ordering) (a b c : A) → is_greater o ≡ true → match_ordering o a b c ≡ c
greater Less a b c h = cc
greater Equal a b c h = cc
greater Greater a b c h = refl

put_behind : (k : List ℕ) (d : Data) (ms : Members) → is_behind k ms ≡ true
    → put k d ms ≡ joined ms (member k d no_members)
put_behind k d no_members h = refl
put_behind k d (member l e ms) h =
    let p = and_parts (is_greater (slice_cmp nat_cmp k l)) (is_behind k ms) h in
    greater (slice_cmp nat_cmp k l) (member k d (member l e ms)) (member l d ms) (member l e (put k d ms)) p.0
    ∙ ap (member l e) (put_behind k d ms p.1)

members_read : (found ms : Members) → AreFlat ms → rises found ms ≡ true
    → of_members (members_outline ms) found ≡ Some (joined found ms)
members_read found no_members h up = ap Some (sym (joined_none found))
members_read found (member k d ms) h up =
    let p = and_parts (is_behind k found) _ up in
    ap (option_and_then (λ (e : Data). of_members (members_outline ms) (put k e found))) (value_read d h.0)
    ∙ ap (of_members (members_outline ms)) (put_behind k d found p.0)
    ∙ members_read (joined found (member k d no_members)) ms h.1 p.1 ∙ ap Some (joined_one found k d ms)

-- what is read of the tokens
abbrev whole : Option (Json × List Token) → Option Data
whole found = option_and_then of_json (option_and_then (λ p. if_last p.0 p.1) found)

pub flat_reads_back : (ms : Members) → AreFlat ms → rises no_members ms ≡ true
    → read (compact_text (object ms)) ≡ Some (object ms)
flat_reads_back ms flat up =
    let d = object ms in
    let j = outline d in
    let printable = ArePrintable-json_tokens j (members_numbers ms flat) in
    let shallow : depth j ≤ max_depth = omega (arith, members_shallow ms flat) in
    let same : tokens (compact_text d) ≡ json_tokens j ++ [] =
    ap tokens (sym (print-outline d)) ∙ tokens-print (json_tokens j) printable ∙ sym (append-nil (json_tokens j)) in
    ap (λ ts. whole (value max_depth ts)) same ∙ ap whole (value-json_tokens j max_depth [] shallow)
    ∙ ap (option_map object) (members_read no_members ms flat up)
