-- The stems of the names that `host_name` makes say the stored names.
use Rattle.std.proofs.Common.{◌≡◌, ◌≢◌, ℕ, ◌+◌, ◌-◌, ◌/◌, ◌%◌, ◌<◌, ◌≤◌, true, false, List, [], ◌∷◌, ◌++◌, arith, refl, sym, ap, ap₂, ◌∙◌, subst, inl, inr}
use Rattle.std.specs.Prelude.{flat_map}
use Rattle.std.specs.List.{AllByRecursion}
use Rattle.std.specs.Char.{digit_char, is_digit}
use Rattle.std.proofs.lemmas.Grind.{common_steps}
use Rattle.std.proofs.lemmas.Bool.{cases_Bool, cases_lt}
use Rattle.std.proofs.lemmas.List.{append-nil}
use Rattle.std.proofs.lemmas.Str.{digit_value-digit_char}
use Rattle.vol_layout.specs.declared.form.PlaceForm.{PlaceForm}
use Rattle.vol_layout.specs.declared.form.PlaceForm.TheVariants.{Sector, Block}
use Rattle.host_folders.specs.HostNames.{Entry, character_byte, digits, ending, escape, escape_byte, host_name, is_bad_first, is_bad_last, is_device, is_plain, is_printed, name_bytes, no_device, or_percent, piece, safe_first, safe_last, sector_piece}
use Rattle.host_folders.specs.Laws.{IsEntry, IsNumber}
use Rattle.host_folders.specs.declared.entry.Naming.{Naming}
use Rattle.host_folders.proofs.Device.{device_escaped, other_stays, percent_no_device}
use Rattle.host_folders.proofs.Ends.{all_append, all_map, good_end}
use Rattle.host_folders.proofs.IsSafe.{entry_bytes}
use Rattle.host_folders.proofs.Last.{safe_last_append, safe_last_good}
use Rattle.host_folders.proofs.Spelled.{escape_byte_printed, plain_printed, printed_range}
use Rattle.host_folders.proofs.Stems.{first_bad, first_good, or_percent_some}
use Rattle.host_folders.specs.HostEntries.{plain, doubled, IsHexadecimal, SaysByte, character, escaped, marked, SaysBytes, none, more, SaysName, empty, some, is_escape}
use Rattle.host_folders.proofs.Begins.{as_byte, hex_more}
use Rattle.host_folders.proofs.InOneWay.{pass_all}
use Rattle.host_folders.proofs.SoFar.{same_bytes}

-- ---- digits

digit_is_hex : (d : ℕ) → d < 16 → is_digit (digit_char d) 16 ≡ true
digit_is_hex d h = grind arith

pub digits_say : (n : ℕ) → n < 256 → IsHexadecimal 2 (digits n) n
digits_say n h =
    let high = digit_value-digit_char (n / 16) (omega arith) in
    let low = digit_value-digit_char (n % 16) (omega arith) in
    record {
      long = refl;
      digits = hex_more (digit_char (n / 16)) (digit_char (n % 16) ∷ []) (digit_is_hex (n / 16) (omega arith))
          (hex_more (digit_char (n % 16)) [] (digit_is_hex (n % 16) (omega arith)) refl);
      value = rw (high) (rw (low) (omega arith));
    }

-- ---- the pieces of a name

module _ (form : PlaceForm) where
  as_piece : (byte : ℕ) (text other : List ℕ) → text ≡ other → SaysByte form text byte → SaysByte form other byte
  as_piece byte text other e h = subst (λ (t : List ℕ). SaysByte form t byte) e h

  pub as_text : (bytes text other : List ℕ) → text ≡ other → SaysBytes form text bytes → SaysBytes form other bytes
  as_text bytes text other e h = subst (λ (t : List ℕ). SaysBytes form t bytes) e h

  escape_says : (n : ℕ) → n < 256 → is_escape form n ≡ true → SaysByte form (escape n) (escape_byte form n)
  escape_says n h alone = escaped (digits n) n (digits_say n h) alone

  plain_says : (c : ℕ) → is_plain c ≡ true → SaysByte form (c ∷ []) (character_byte form c)
  plain_says c h = character (c ∷ []) c (plain c h)

alone_plain : (form : PlaceForm) (c : ℕ) → is_plain c ≡ true → is_escape form c ≡ true
alone_plain Sector c h = let range = printed_range c (plain_printed c h) in grind (arith, common_steps)
alone_plain Block c h = refl

same_byte : (form : PlaceForm) (c : ℕ) → is_plain c ≡ true → escape_byte form c ≡ character_byte form c
same_byte Sector c h = escape_byte_printed c (plain_printed c h)
same_byte Block c h = refl

-- a plain character may be escaped
plain_escaped : (form : PlaceForm) (c : ℕ) → is_plain c ≡ true → SaysByte form (escape c) (character_byte form c)
plain_escaped form c h =
    let range = printed_range c (plain_printed c h) in
    as_byte form (escape c) _ _ (same_byte form c h)
    (escape_says form c (omega (arith, range.1)) (alone_plain form c h))

low_is : (b : ℕ) → b < 32 → sector_piece b ≡ escape b
low_is b h = grind arith

inverse_is : (b : ℕ) → 32 ≤ b → b < 128 → sector_piece b ≡ escape 127 ++ escape b
inverse_is b h k = grind arith

plain_is : (b : ℕ) → 128 ≤ b → is_plain (b - 128) ≡ true → sector_piece b ≡ (b - 128) ∷ []
plain_is b h k = grind (arith, common_steps)

printed_is : (b : ℕ) → 128 ≤ b → is_plain (b - 128) ≡ false → is_printed (b - 128) ≡ true
    → sector_piece b ≡ escape (b - 128)
printed_is b h k l = grind (arith, common_steps)

control_is : (b : ℕ) → 128 ≤ b → is_plain (b - 128) ≡ false → is_printed (b - 128) ≡ false
    → sector_piece b ≡ escape (128 + (b - 128))
control_is b h k l = grind (arith, common_steps)

low_alone : (b : ℕ) → b < 32 → is_escape Sector b ≡ true
low_alone b h = grind arith

low_byte : (b : ℕ) → b < 32 → escape_byte Sector b ≡ b
low_byte b h = grind arith

printed_alone : (c : ℕ) → is_printed c ≡ true → is_escape Sector c ≡ true
printed_alone c h = let range = printed_range c h in grind (arith, common_steps)

control_alone : (b : ℕ) → 128 ≤ b → b < 256 → is_printed (b - 128) ≡ false → is_escape Sector b ≡ true
control_alone b h k l = grind (arith, common_steps)

high_byte : (b : ℕ) → 128 ≤ b → escape_byte Sector b ≡ b
high_byte b h = grind arith

high_says : (b : ℕ) → 128 ≤ b → b < 256 → SaysByte Sector (sector_piece b) b
high_says b h k = elim (cases_Bool (is_plain (b - 128))) [
  | inl good ↦
      as_piece Sector b _ _ (sym (plain_is b h good))
      (as_byte Sector ((b - 128) ∷ []) b (128 + (b - 128)) (omega arith) (plain_says Sector (b - 128) good))
  | inr bad ↦ elim (cases_Bool (is_printed (b - 128))) [
    | inl seen ↦
        let byte : escape_byte Sector (b - 128) ≡ b = escape_byte_printed (b - 128) seen ∙ omega arith in
        as_piece Sector b _ _ (sym (printed_is b h bad seen))
        (as_byte Sector (escape (b - 128)) b _ byte
        (escape_says Sector (b - 128) (omega arith) (printed_alone (b - 128) seen)))
    | inr not_seen ↦
        let same : 128 + (b - 128) ≡ b = omega arith in
        as_piece Sector b _ _ (sym (control_is b h bad not_seen ∙ ap escape same))
        (as_byte Sector (escape b) b _ (high_byte b h) (escape_says Sector b k (control_alone b h k not_seen)))
  ]
]

sector_says : (b : ℕ) → b < 256 → SaysByte Sector (sector_piece b) b
sector_says b h = elim (cases_lt b 128) [
  | inl small ↦ elim (cases_lt b 32) [
    | inl low ↦
        as_piece Sector b _ _ (sym (low_is b low))
        (as_byte Sector (escape b) b _ (low_byte b low) (escape_says Sector b h (low_alone b low)))
    | inr inverse ↦
        as_piece Sector b _ _ (sym (inverse_is b inverse small))
        (marked (digits 127) (digits b) b refl (digits_say 127 (omega arith)) (digits_say b h) inverse small)
  ]
  | inr high ↦ high_says b high h
]

block_plain : (b : ℕ) → is_plain b ≡ true → piece Block b ≡ b ∷ []
block_plain b h = rw (h) refl

block_escaped : (b : ℕ) → is_plain b ≡ false → piece Block b ≡ escape b
block_escaped b h = rw (h) refl

block_says : (b : ℕ) → b < 256 → SaysByte Block (piece Block b) b
block_says b h = elim (cases_Bool (is_plain b)) [
  | inl good ↦ as_piece Block b _ _ (sym (block_plain b good)) (plain_says Block b good)
  | inr bad ↦ as_piece Block b _ _ (sym (block_escaped b bad)) (escape_says Block b h refl)
]

piece_says : (form : PlaceForm) (b : ℕ) → b < 256 → SaysByte form (piece form b) b
piece_says Sector b h = sector_says b h
piece_says Block b h = block_says b h

pieces_say : (form : PlaceForm) (bytes : List ℕ) → AllByRecursion (λ b. b < 256) bytes
    → SaysBytes form (flat_map (piece form) bytes) bytes
pieces_say form [] h = none
pieces_say form (b ∷ bytes) h =
    more (piece form b) (flat_map (piece form) bytes) b bytes (piece_says form b h.0) (pieces_say form bytes h.1)

some_text : (form : PlaceForm) (text bytes : List ℕ) → bytes ≢ [] → SaysBytes form text bytes → text ≢ []
some_text form text bytes named says e =
    named (same_bytes form [] bytes [] (as_text form bytes text [] e says) none)

stem_says : (form : PlaceForm) (bytes : List ℕ) → AllByRecursion (λ b. b < 256) bytes
    → SaysName form (or_percent (flat_map (piece form) bytes)) bytes
stem_says form [] h = empty
stem_says form (b ∷ bytes) h =
    let says = pieces_say form (b ∷ bytes) h in
    let whole = or_percent_some _ (some_text form _ (b ∷ bytes) (λ e. cc) says) in
    some _ (b ∷ bytes) (λ e. cc) (as_text form (b ∷ bytes) _ _ (sym whole) says)

-- ---- escaping a character of a stem

first_escaped : (form : PlaceForm) (text bytes : List ℕ) (c : ℕ) (cs : List ℕ) → SaysBytes form text bytes
    → text ≡ c ∷ cs → c ≢ 37 → SaysBytes form (escape c ++ cs) bytes
first_escaped form _ _ c cs none e other = absurd cc
first_escaped form _ _ c cs (more _ rest _ bytes (character _ _ (plain d h)) behind) e other =
    let head : d ≡ c = cc in
    let tail : rest ≡ cs = cc in
    as_text form _ _ _ (ap₂ (λ (x : ℕ) (t : List ℕ). escape x ++ t) head tail)
    (more (escape d) rest (character_byte form d) bytes (plain_escaped form d h) behind)
first_escaped form _ _ c cs (more _ rest _ bytes (character _ _ doubled) behind) e other =
    let head : 37 ≡ c = cc in absurd (other (sym head))
first_escaped form _ _ c cs (more _ rest _ bytes (escaped digits n is alone) behind) e other =
    let head : 37 ≡ c = cc in absurd (other (sym head))
first_escaped form _ _ c cs (more _ rest _ bytes (marked mark digits n sector is_mark is seen low) behind) e other =
    let head : 37 ≡ c = cc in absurd (other (sym head))

abbrev IsGood : List ℕ → Type 0
IsGood text = AllByRecursion (λ c. is_bad_last c ≡ false) text

hex_last : (c : ℕ) → is_digit c 16 ≡ true → is_bad_last c ≡ false
hex_last c h = grind (arith, common_steps)

digits_last : (count : ℕ) (digits : List ℕ) (n : ℕ) → IsHexadecimal count digits n → IsGood digits
digits_last count digits n is =
    all_map (λ c. is_digit c 16 ≡ true) (λ c. is_bad_last c ≡ false) hex_last digits
    (pass_all (λ c. is_digit c 16) digits is.digits)

last_byte : (form : PlaceForm) (text : List ℕ) (byte : ℕ) → SaysByte form text byte
    → SaysByte form (safe_last text) byte
last_byte form _ _ (character _ _ (plain c h)) = elim (cases_Bool (is_bad_last c)) [
  | inl bad ↦ as_piece form _ _ _ (sym (rw (bad) refl)) (plain_escaped form c h)
  | inr good ↦ as_piece form _ _ _ (sym (rw (good) refl)) (plain_says form c h)
]
last_byte form _ _ (character _ _ doubled) = character (37 ∷ 37 ∷ []) 37 doubled
last_byte form _ _ (escaped digits n is alone) =
    as_piece form _ _ _ (sym (safe_last_good (37 ∷ digits) (refl, digits_last 2 digits n is)))
    (escaped digits n is alone)
last_byte form _ _ (marked mark digits n sector is_mark is seen low) =
    let good =
    all_append (λ c. is_bad_last c ≡ false) mark (37 ∷ digits) (digits_last 2 mark 127 is_mark)
    (refl, digits_last 2 digits n is) in
    as_piece form _ _ _ (sym (safe_last_good (37 ∷ mark ++ 37 ∷ digits) (refl, good)))
    (marked mark digits n sector is_mark is seen low)

last_escaped : (form : PlaceForm) (text bytes : List ℕ) → SaysBytes form text bytes
    → SaysBytes form (safe_last text) bytes
last_escaped form _ _ none = none
last_escaped form _ _ (more text [] byte bytes says behind) =
    as_text form _ _ _ (append-nil (safe_last text) ∙ ap safe_last (sym (append-nil text)))
    (more (safe_last text) [] byte bytes (last_byte form text byte says) behind)
last_escaped form _ _ (more text (d ∷ rest) byte bytes says behind) =
    as_text form _ _ _ (sym (safe_last_append text d rest))
    (more text (safe_last (d ∷ rest)) byte bytes says (last_escaped form (d ∷ rest) bytes behind))

-- ---- the three rules

-- a text that begins with a stem of the name and ends so
pub record BeginsWithStem (form : PlaceForm) (name end whole : List ℕ) : Type 0 where
  pub text : List ℕ
  pub says : SaysName form text name
  pub is : whole ≡ text ++ end

bad_no_percent : (c : ℕ) → is_bad_first c ≡ true → c ≢ 37
bad_no_percent c h e = grind (arith, common_steps)

first_some : (form : PlaceForm) (text name end : List ℕ) → name ≢ [] → SaysBytes form text name
    → BeginsWithStem form name end (safe_first (text ++ end))
first_some form [] name end named says = absurd (some_text form [] name named says refl)
first_some form (c ∷ cs) name end named says = elim (cases_Bool (is_bad_first c)) [
  | inl bad ↦ record {
    text = escape c ++ cs;
    says = some _ name named (first_escaped form (c ∷ cs) name c cs says refl (bad_no_percent c bad));
    is = first_bad c (cs ++ end) bad;
  }
  | inr good ↦ record { text = c ∷ cs; says = some _ name named says; is = first_good c (cs ++ end) good }
]

first_rule : (form : PlaceForm) (text name end : List ℕ) → SaysName form text name
    → BeginsWithStem form name end (safe_first (text ++ end))
first_rule form _ _ end empty = record { text = 37 ∷ []; says = empty; is = refl }
first_rule form _ _ end (some text name named says) = first_some form text name end named says

last_stem : (form : PlaceForm) (text name : List ℕ) → SaysName form text name → SaysName form (safe_last text) name
last_stem form _ _ empty = empty
last_stem form _ _ (some text name named says) = some _ name named (last_escaped form text name says)

last_rule : (form : PlaceForm) (text name end : List ℕ) → safe_last end ≡ end → SaysName form text name
    → BeginsWithStem form name end (safe_last (text ++ end))
last_rule form text name [] h says = record {
  text = safe_last text;
  says = last_stem form text name says;
  is = ap safe_last (append-nil text) ∙ sym (append-nil (safe_last text));
}
last_rule form text name (c ∷ end) h says =
    record { text = text; says = says; is = safe_last_append text c end ∙ ap (λ (t : List ℕ). text ++ t) h }

device_some : (form : PlaceForm) (text name end : List ℕ) → name ≢ [] → SaysBytes form text name
    → BeginsWithStem form name end (no_device (text ++ end))
device_some form [] name end named says = absurd (some_text form [] name named says refl)
device_some form (c ∷ cs) name end named says = elim (cases_Bool (is_device (c ∷ (cs ++ end)))) [
  | inl bad ↦ record {
    text = escape c ++ cs;
    says = some _ name named (first_escaped form (c ∷ cs) name c cs says refl (λ e.
        let other : is_device (c ∷ (cs ++ end)) ≡ false =
        subst (λ (x : ℕ). is_device (x ∷ (cs ++ end)) ≡ false) (sym e) (percent_no_device (cs ++ end)) in
        cc));
    is = device_escaped (c ∷ (cs ++ end)) bad;
  }
  | inr good ↦ record { text = c ∷ cs; says = some _ name named says; is = other_stays (c ∷ (cs ++ end)) good }
]

device_rule : (form : PlaceForm) (text name end : List ℕ) → SaysName form text name
    → BeginsWithStem form name end (no_device (text ++ end))
device_rule form _ _ end empty =
    record { text = 37 ∷ []; says = empty; is = other_stays (37 ∷ end) (percent_no_device end) }
device_rule form _ _ end (some text name named says) = device_some form text name end named says

-- a name on the host begins with a stem of the stored name
pub host_begins : (naming : Naming) (e : Entry) (number : ℕ) → IsEntry e → IsNumber number
    → BeginsWithStem e.form (name_bytes e.form e.name) (ending naming e number) (host_name naming e number)
host_begins naming e number fits counts =
    let name = name_bytes e.form e.name in
    let end = ending naming e number in
    let one = first_rule e.form _ name end (stem_says e.form name (entry_bytes e fits)) in
    let two = last_rule e.form one.text name end (good_end naming e number fits counts) one.says in
    let three = device_rule e.form two.text name end two.says in
    record {
      text = three.text;
      says = three.says;
      is = ap (λ (t : List ℕ). no_device (safe_last t)) one.is ∙ ap no_device two.is ∙ three.is;
    }
