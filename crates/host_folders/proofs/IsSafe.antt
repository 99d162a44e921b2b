-- A name on the host is safe.
use Rattle.std.proofs.Common.{◌≡◌, ◌≢◌, ℕ, suc, ◌+◌, ◌-◌, ◌*◌, ◌%◌, ◌/◌, ◌^◌, ◌<◌, ◌≤◌, Bool, true, false, List, [], ◌∷◌, ◌++◌, arith, refl, sym, ap, ◌∙◌, subst, inl, inr, length, get_or, codes, length-append}
use Rattle.std.specs.Prelude.{◌==◌, IsUtf8}
use Rattle.std.specs.List.{AllByRecursion}
use Rattle.std.specs.Char.{digit_char}
use Rattle.std.proofs.lemmas.Grind.{common_steps}
use Rattle.std.proofs.lemmas.Bool.{cases_Bool}
use Rattle.std.proofs.lemmas.Fmt.{length-decimal-le}
use Rattle.std.proofs.lemmas.List.{length-take}
use Rattle.std.proofs.lemmas.Str.{IsUtf8-from_ascii}
use Rattle.std.proofs.lemmas.Str.Ascii.{IsAscii-from_all}
use Rattle.vol_layout.specs.declared.form.PlaceForm.{PlaceForm}
use Rattle.vol_layout.specs.declared.form.PlaceForm.TheVariants.{Sector, Block}
use Rattle.host_folders.specs.HostNames.{Entry, IsSafe, digits, ending, escape, escaped_first, has_tail, host_name, is_bad_first, is_bad_last, is_device, is_one_of, is_printed, name_bytes, no_device, safe_first, safe_last, stem, tail, text_tail, told_number}
use Rattle.host_folders.specs.Laws.{IsEntry, IsNumber}
use Rattle.host_folders.specs.declared.entry.Naming.{Naming}
use Rattle.host_folders.specs.declared.entry.Naming.TheVariants.{Naps, Plain}
use Rattle.host_folders.proofs.Device.{device_escaped, escaped_no_device, other_stays}
use Rattle.host_folders.proofs.Ends.{all_append, all_map, all_take, by_place, by_recursion, end_ending, good_end, is_ending, number_more, number_one, settled, tail_none, tail_some}
use Rattle.host_folders.proofs.Spelled.{Spells, none, stands, escaped, marked, printed_range}
use Rattle.host_folders.proofs.Stems.{BeginsAsStem, IsStem, digit_last, empty, first_bad, first_good, is_in_stem, some, stem_characters, stem_is, three_rules, spelled_some}

-- ---- the entry

all_bytes : (form : PlaceForm) (name : List ℕ) → AllByRecursion (λ b. b < 256) name
    → AllByRecursion (λ b. b < 256) (name_bytes form name)
all_bytes Sector name h = all_take (λ b. b < 256) _ name h
all_bytes Block name h = h

pub entry_bytes : (e : Entry) → IsEntry e → AllByRecursion (λ b. b < 256) (name_bytes e.form e.name)
entry_bytes e h = all_bytes e.form e.name (by_recursion (λ b. b < 256) e.name h.bytes)

fewer_bytes : (form : PlaceForm) (name : List ℕ) → length (name_bytes form name) ≤ length name
fewer_bytes Sector name = rw (length-take) (omega arith)
fewer_bytes Block name = omega arith

-- a name on the host begins in the place of the stem
pub host_begins : (naming : Naming) (e : Entry) (number : ℕ) → IsEntry e → IsNumber number
    → BeginsAsStem e.form (name_bytes e.form e.name) (ending naming e number) (host_name naming e number)
host_begins naming e number h k =
    let good = good_end naming e number h k in
    three_rules e.form (name_bytes e.form e.name) (stem e.form e.name) (ending naming e number) good
    (stem_is e.form (name_bytes e.form e.name) (entry_bytes e h))

-- ---- which characters

abbrev IsAllowed : ℕ → Type 0
IsAllowed c = (is_printed c ≡ true) × (is_one_of (codes "/\\:*?\"<>|") c ≡ false)

stem_printed : (c : ℕ) → is_in_stem c ≡ true → is_printed c ≡ true
stem_printed c h = grind (arith, common_steps)

stem_allowed : (c : ℕ) → is_in_stem c ≡ true → is_one_of (codes "/\\:*?\"<>|") c ≡ false
stem_allowed c h =
    let range = printed_range c (stem_printed c h) in
    settled is_in_stem (is_one_of (codes "/\\:*?\"<>|")) 127 c refl range.1 h

ending_printed : (c : ℕ) → is_ending c ≡ true → is_printed c ≡ true
ending_printed c h = grind (arith, common_steps)

ending_allowed : (c : ℕ) → is_ending c ≡ true → is_one_of (codes "/\\:*?\"<>|") c ≡ false
ending_allowed c h =
    let range = printed_range c (ending_printed c h) in
    settled is_ending (is_one_of (codes "/\\:*?\"<>|")) 127 c refl range.1 h

pub host_allowed : (naming : Naming) (e : Entry) (number : ℕ) → IsEntry e → IsNumber number
    → AllByRecursion IsAllowed (host_name naming e number)
host_allowed naming e number h k =
    let begins = host_begins naming e number h k in
    let stem = stem_characters e.form _ _ begins.stem in
    let front = all_map _ IsAllowed (λ c g. (stem_printed c g, stem_allowed c g)) begins.text stem in
    let end = end_ending naming e number h k in
    let ends = all_map _ IsAllowed (λ c g. (ending_printed c g, ending_allowed c g)) _ end in
    subst (AllByRecursion IsAllowed) (sym begins.is)
    (all_append IsAllowed begins.text _ front ends)

allowed_low : (c : ℕ) → IsAllowed c → c < 128
allowed_low c a = let range = printed_range c a.0 in omega (arith, range.1)

pub host_utf8 : (naming : Naming) (e : Entry) (number : ℕ) (text : List ℕ) → IsEntry e → IsNumber number
    → text ≡ host_name naming e number → IsUtf8 text
host_utf8 naming e number text h k same =
    let low = all_map IsAllowed (λ c. c < 128) allowed_low _ (host_allowed naming e number h k) in
    subst IsUtf8 (sym same) (IsUtf8-from_ascii _ (IsAscii-from_all _ (by_place (λ c. c < 128) _ low)))

-- ---- how many

spelled_length : (form : PlaceForm) (bytes text : List ℕ) → Spells form bytes text → length text ≤ 6 * length bytes
spelled_length form _ _ none = omega arith
spelled_length form _ _ (stands c bytes text h s) = let less = spelled_length form bytes text s in omega arith
spelled_length form _ _ (escaped n bytes text h k s) = let less = spelled_length form bytes text s in omega arith
spelled_length form _ _ (marked b bytes text e h k s) = let less = spelled_length form bytes text s in omega arith

stem_length : (form : PlaceForm) (bytes text : List ℕ) → IsStem form bytes text → length text ≤ 6 * length bytes + 1
stem_length form _ _ empty = omega arith
stem_length form _ _ (some b bytes text s) = let less = spelled_length form _ _ s in omega arith

number_length : (n : ℕ) → n < 2 ^ 32 → length (told_number n) ≤ 11
number_length n h = elim (cases_Bool (n == 1)) [
  | inl one ↦ subst (λ (t : List ℕ). length t ≤ 11) (sym (number_one n one)) (omega arith)
  | inr more ↦ let most = length-decimal-le 10 n (omega arith) (omega arith) (omega arith) in
      subst (λ (t : List ℕ). length t ≤ 11) (sym (number_more n more)) (omega arith)
]

text_length : (naming : Naming) (text : Bool) → length (text_tail naming text) ≤ 7
text_length Naps text = omega arith
text_length Plain true = omega arith
text_length Plain false = omega arith

tail_length : (naming : Naming) (e : Entry) → length (tail naming e) ≤ 7
tail_length naming e = elim (cases_Bool (has_tail naming e.directory)) [
  | inl has ↦ subst (λ (t : List ℕ). length t ≤ 7) (sym (tail_some naming e has)) (omega arith)
  | inr has_none ↦ subst (λ (t : List ℕ). length t ≤ 7) (sym (tail_none naming e has_none)) (text_length naming e.text)
]

pub host_short : (naming : Naming) (e : Entry) (number : ℕ) → IsEntry e → length e.name ≤ 30 → IsNumber number
    → length (host_name naming e number) ≤ 199
host_short naming e number h short k =
    let begins = host_begins naming e number h k in
    let text = stem_length e.form _ _ begins.stem in
    let bytes = fewer_bytes e.form e.name in
    let number_part = number_length number k.fits in
    let tail_part = tail_length naming e in
    let sum : length (begins.text ++ ending naming e number) ≤ 199 =
    rw (length-append) (rw (length-append) (omega arith)) in
    subst (λ (t : List ℕ). length t ≤ 199) (sym begins.is) sum

-- ---- the first character

abbrev pub HasGoodFirst : List ℕ → Type 0
HasGoodFirst text = is_bad_first (get_or text 0 0) ≡ false

good_first : (text : List ℕ) → text ≢ [] → HasGoodFirst (safe_first text)
good_first [] h = absurd (h refl)
good_first (c ∷ cs) h = elim (cases_Bool (is_bad_first c)) [
  | inl bad ↦ subst HasGoodFirst (sym (first_bad c cs bad)) refl
  | inr good ↦ subst HasGoodFirst (sym (first_good c cs good)) good
]

last_bad : (c : ℕ) → is_bad_last c ≡ true → safe_last (c ∷ []) ≡ escape c
last_bad c h = rw (h) refl

last_good : (c : ℕ) → is_bad_last c ≡ false → safe_last (c ∷ []) ≡ c ∷ []
last_good c h = rw (h) refl

good_first_last : (text : List ℕ) → HasGoodFirst text → HasGoodFirst (safe_last text)
good_first_last [] h = h
good_first_last (c ∷ []) h = elim (cases_Bool (is_bad_last c)) [
  | inl bad ↦ subst HasGoodFirst (sym (last_bad c bad)) refl
  | inr good ↦ subst HasGoodFirst (sym (last_good c good)) h
]
good_first_last (c ∷ d ∷ cs) h = h

good_first_escaped : (text : List ℕ) → HasGoodFirst (escaped_first text)
good_first_escaped [] = refl
good_first_escaped (c ∷ cs) = refl

good_first_device : (text : List ℕ) → HasGoodFirst text → HasGoodFirst (no_device text)
good_first_device text h = elim (cases_Bool (is_device text)) [
  | inl bad ↦ subst HasGoodFirst (sym (device_escaped text bad)) (good_first_escaped text)
  | inr good ↦ subst HasGoodFirst (sym (other_stays text good)) h
]

-- ---- the last character

abbrev pub last_of : List ℕ → ℕ
last_of text = get_or text (length text - 1) 0

abbrev pub HasGoodLast : List ℕ → Type 0
HasGoodLast text = is_bad_last (last_of text) ≡ false

pub last_more : (c : ℕ) (text : List ℕ) → text ≢ [] → last_of (c ∷ text) ≡ last_of text
last_more c [] h = absurd (h refl)
last_more c (d ∷ ds) h =
    let one : length (c ∷ d ∷ ds) - 1 ≡ suc (length ds) = omega arith in
    let other : length (d ∷ ds) - 1 ≡ length ds = omega arith in
    ap (λ (k : ℕ). get_or (c ∷ d ∷ ds) k 0) one ∙ ap (λ (k : ℕ). get_or (d ∷ ds) k 0) (sym other)

safe_last_some : (text : List ℕ) → text ≢ [] → safe_last text ≢ []
safe_last_some [] h e = h e
safe_last_some (c ∷ []) h e = elim (cases_Bool (is_bad_last c)) [
  | inl bad ↦ let f = last_bad c bad in cc
  | inr good ↦ let f = last_good c good in cc
]
safe_last_some (c ∷ d ∷ cs) h e = cc

good_last : (text : List ℕ) → text ≢ [] → HasGoodLast (safe_last text)
good_last [] h = absurd (h refl)
good_last (c ∷ []) h = elim (cases_Bool (is_bad_last c)) [
  | inl bad ↦ subst HasGoodLast (sym (last_bad c bad)) (digit_last (c % 16) (omega arith))
  | inr good ↦ subst HasGoodLast (sym (last_good c good)) good
]
good_last (c ∷ d ∷ cs) h =
    let more = last_more c (safe_last (d ∷ cs)) (safe_last_some (d ∷ cs) (λ e. cc)) in
    subst (λ (x : ℕ). is_bad_last x ≡ false) (sym more) (good_last (d ∷ cs) (λ e. cc))

last_escaped_more : (c d : ℕ) (cs : List ℕ) → last_of (escape c ++ (d ∷ cs)) ≡ last_of (c ∷ d ∷ cs)
last_escaped_more c d cs =
    last_more 37 (digits c ++ (d ∷ cs)) (λ e. cc)
    ∙ last_more (digit_char (c / 16)) (digit_char (c % 16) ∷ d ∷ cs) (λ e. cc)
    ∙ last_more (digit_char (c % 16)) (d ∷ cs) (λ e. cc)
    ∙ sym (last_more c (d ∷ cs) (λ e. cc))

good_last_escaped : (text : List ℕ) → HasGoodLast text → HasGoodLast (escaped_first text)
good_last_escaped [] h = h
good_last_escaped (c ∷ []) h = digit_last (c % 16) (omega arith)
good_last_escaped (c ∷ d ∷ cs) h = subst (λ (x : ℕ). is_bad_last x ≡ false) (sym (last_escaped_more c d cs)) h

good_last_device : (text : List ℕ) → HasGoodLast text → HasGoodLast (no_device text)
good_last_device text h = elim (cases_Bool (is_device text)) [
  | inl bad ↦ subst HasGoodLast (sym (device_escaped text bad)) (good_last_escaped text h)
  | inr good ↦ subst HasGoodLast (sym (other_stays text good)) h
]

-- ---- devices

no_device_left : (text : List ℕ) → is_device (no_device text) ≡ false
no_device_left text = elim (cases_Bool (is_device text)) [
  | inl bad ↦ subst (λ (t : List ℕ). is_device t ≡ false) (sym (device_escaped text bad)) (escaped_no_device text)
  | inr good ↦ subst (λ (t : List ℕ). is_device t ≡ false) (sym (other_stays text good)) good
]

-- ---- the name

pub stem_some : (form : PlaceForm) (bytes text : List ℕ) → IsStem form bytes text → text ≢ []
stem_some form _ _ empty e = cc
stem_some form _ _ (some b bytes text s) e = spelled_some form _ _ s (λ f. cc) e

pub append_some : (xs ys : List ℕ) → xs ≢ [] → xs ++ ys ≢ []
append_some [] ys h e = h refl
append_some (x ∷ xs) ys h e = cc

safe_first_some : (text : List ℕ) → text ≢ [] → safe_first text ≢ []
safe_first_some [] h e = h e
safe_first_some (c ∷ cs) h e = elim (cases_Bool (is_bad_first c)) [
  | inl bad ↦ let f = first_bad c cs bad in cc
  | inr good ↦ let f = first_good c cs good in cc
]

pub host_is_safe : (naming : Naming) (e : Entry) (number : ℕ) → IsEntry e → length e.name ≤ 30
    → IsNumber number → IsSafe (host_name naming e number)
host_is_safe naming e number h most k =
    let all = host_allowed naming e number h k in
    let begins = host_begins naming e number h k in
    let bytes = name_bytes e.form e.name in
    let text = stem e.form e.name ++ ending naming e number in
    let spelled = stem_is e.form bytes (entry_bytes e h) in
    let text_some : text ≢ [] = append_some (stem e.form e.name) _ (stem_some e.form bytes _ spelled) in
    let safe = safe_first text in
    let first : HasGoodFirst (host_name naming e number) =
    good_first_device (safe_last safe) (good_first_last safe (good_first text text_some)) in
    let last : HasGoodLast (host_name naming e number) =
    good_last_device (safe_last safe) (good_last safe (safe_first_some text text_some)) in
    let whole : host_name naming e number ≡ begins.text ++ ending naming e number = begins.is in
    record {
      some = λ none_left. append_some begins.text _ (stem_some e.form bytes _ begins.stem) (sym whole ∙ none_left);
      short = let few = host_short naming e number h most k in omega (arith, few);
      printed = by_place (λ c. is_printed c ≡ true) _ (all_map IsAllowed (λ c. is_printed c ≡ true) (λ c a. a.0) _ all);
      allowed = by_place (λ c. is_one_of (codes "/\\:*?\"<>|") c ≡ false) _
          (all_map IsAllowed (λ c. is_one_of (codes "/\\:*?\"<>|") c ≡ false) (λ c a. a.1) _ all);
      not_here = λ same. let bad : HasGoodFirst (codes ".") = subst HasGoodFirst same first in cc;
      not_above = λ same. let bad : HasGoodFirst (codes "..") = subst HasGoodFirst same first in cc;
      first = first;
      last = last;
      no_device = no_device_left (safe_last safe);
    }
