-- A name on the host begins with a text that spells the stored name, and goes on with the number and the tail.
use Rattle.std.proofs.Common.{◌≡◌, ◌≢◌, ℕ, ◌<◌, ◌/◌, ◌%◌, Bool, true, false, List, [], ◌∷◌, ◌++◌, arith, refl, sym, ap, ap₂, ◌∙◌, subst, inl, inr}
use Rattle.std.specs.Prelude.{◌==◌, ◌||◌, flat_map}
use Rattle.std.specs.List.{AllByRecursion}
use Rattle.std.specs.Char.{digit_char}
use Rattle.std.proofs.lemmas.Grind.{common_steps}
use Rattle.std.proofs.lemmas.Bool.{cases_Bool}
use Rattle.std.proofs.lemmas.List.{append-nil}
use Rattle.vol_layout.specs.declared.form.PlaceForm.{PlaceForm}
use Rattle.vol_layout.specs.declared.form.PlaceForm.TheVariants.{Sector, Block}
use Rattle.host_folders.specs.HostNames.{character_byte, escape, escape_byte, is_bad_first, is_bad_last, is_device, is_plain, no_device, or_percent, piece, safe_first, safe_last}
use Rattle.host_folders.proofs.Device.{device_escaped, other_stays, percent_no_device}
use Rattle.host_folders.proofs.Ends.{digit_plain}
use Rattle.host_folders.proofs.Last.{safe_last_append}
use Rattle.host_folders.proofs.Spelled.{Spells, none, stands, escaped, marked, IsAlone, as_byte, as_text, escape_byte_printed, plain_printed, printed_range, spelled_name}

-- ---- escaping a character of a text that spells a name

alone_plain : (form : PlaceForm) (c : ℕ) → is_plain c ≡ true → IsAlone form c
alone_plain Sector c h = let range = printed_range c (plain_printed c h) in λ e. omega (arith, range.1)
alone_plain Block c h = tt

same_byte : (form : PlaceForm) (c : ℕ) → is_plain c ≡ true → escape_byte form c ≡ character_byte form c
same_byte Sector c h = escape_byte_printed c (plain_printed c h)
same_byte Block c h = refl

escaped_plain : (form : PlaceForm) (c : ℕ) (bytes text : List ℕ) → is_plain c ≡ true → Spells form bytes text
    → Spells form (character_byte form c ∷ bytes) (escape c ++ text)
escaped_plain form c bytes text h s =
    let range = printed_range c (plain_printed c h) in
    as_byte form _ _ _ _ (same_byte form c h) (escaped c bytes text (omega (arith, range.1)) (alone_plain form c h) s)

first_escaped : (form : PlaceForm) (bytes text : List ℕ) (c : ℕ) (cs : List ℕ) → Spells form bytes text
    → text ≡ c ∷ cs → c ≢ 37 → Spells form bytes (escape c ++ cs)
first_escaped form _ _ c cs none e k = absurd cc
first_escaped form _ _ c cs (stands d bytes text h s) e k =
    let first : d ≡ c = cc in
    let rest : text ≡ cs = cc in
    as_text form _ _ _ (ap₂ (λ (x : ℕ) (t : List ℕ). escape x ++ t) first rest) (escaped_plain form d bytes text h s)
first_escaped form _ _ c cs (escaped n bytes text h l s) e k = let first : c ≡ 37 = cc in absurd (k first)
first_escaped form _ _ c cs (marked b bytes text f h l s) e k = let first : c ≡ 37 = cc in absurd (k first)

pub digit_last : (d : ℕ) → d < 16 → is_bad_last (digit_char d) ≡ false
digit_last d h = grind arith

escape_last : (n : ℕ) → safe_last (escape n) ≡ escape n
escape_last n = rw (digit_last (n % 16) (omega arith)) refl

last_escaped : (form : PlaceForm) (bytes text : List ℕ) → Spells form bytes text → Spells form bytes (safe_last text)
last_escaped form _ _ none = none
last_escaped form _ _ (stands c bytes [] h s) = elim (cases_Bool (is_bad_last c)) [
  | inl bad ↦ as_text form _ _ _ (sym (rw (bad) refl)) (escaped_plain form c bytes [] h s)
  | inr good ↦ as_text form _ _ _ (sym (rw (good) refl)) (stands c bytes [] h s)
]
last_escaped form _ _ (stands c bytes (d ∷ text) h s) = stands c bytes _ h (last_escaped form bytes (d ∷ text) s)
last_escaped form _ _ (escaped n bytes [] h k s) = as_text form _ _ _ (sym (escape_last n)) (escaped n bytes [] h k s)
last_escaped form _ _ (escaped n bytes (d ∷ text) h k s) =
    escaped n bytes _ h k (last_escaped form bytes (d ∷ text) s)
last_escaped form _ _ (marked b bytes [] e h k s) =
    as_text form _ _ _ (sym (ap (λ (t : List ℕ). escape 127 ++ t) (escape_last b))) (marked b bytes [] e h k s)
last_escaped form _ _ (marked b bytes (d ∷ text) e h k s) =
    marked b bytes _ e h k (last_escaped form bytes (d ∷ text) s)

-- ---- stems

-- a text in the place of the stem of some bytes
pub data IsStem (form : PlaceForm) : List ℕ → List ℕ → Type 0 where
  empty : IsStem form [] (37 ∷ [])
  some : (b : ℕ) (bytes text : List ℕ) → Spells form (b ∷ bytes) text → IsStem form (b ∷ bytes) text

pub spelled_some : (form : PlaceForm) (bytes text : List ℕ) → Spells form bytes text → bytes ≢ [] → text ≢ []
spelled_some form _ _ none h e = h refl
spelled_some form _ _ (stands c bytes text k s) h e = cc
spelled_some form _ _ (escaped n bytes text k l s) h e = cc
spelled_some form _ _ (marked b bytes text f k l s) h e = cc

pub or_percent_some : (text : List ℕ) → text ≢ [] → or_percent text ≡ text
or_percent_some [] h = absurd (h refl)
or_percent_some (c ∷ cs) h = refl

pub stem_is : (form : PlaceForm) (bytes : List ℕ) → AllByRecursion (λ b. b < 256) bytes
    → IsStem form bytes (or_percent (flat_map (piece form) bytes))
stem_is form [] h = empty
stem_is form (b ∷ bytes) h =
    let spells = spelled_name form (b ∷ bytes) h in
    let whole = or_percent_some _ (spelled_some form (b ∷ bytes) _ spells (λ e. cc)) in
    some b bytes _ (as_text form _ _ _ (sym whole) spells)

-- ---- the three rules

-- a text that begins in the place of the stem and ends so
pub record BeginsAsStem (form : PlaceForm) (bytes end whole : List ℕ) : Type 0 where
  pub text : List ℕ
  pub stem : IsStem form bytes text
  pub is : whole ≡ text ++ end

bad_no_percent : (c : ℕ) → is_bad_first c ≡ true → c ≢ 37
bad_no_percent c h e = grind (arith, common_steps)

pub first_bad : (c : ℕ) (cs : List ℕ) → is_bad_first c ≡ true → safe_first (c ∷ cs) ≡ escape c ++ cs
first_bad c cs h = rw (h) refl

pub first_good : (c : ℕ) (cs : List ℕ) → is_bad_first c ≡ false → safe_first (c ∷ cs) ≡ c ∷ cs
first_good c cs h = rw (h) refl

first_some : (form : PlaceForm) (b : ℕ) (bytes text end : List ℕ) → Spells form (b ∷ bytes) text
    → BeginsAsStem form (b ∷ bytes) end (safe_first (text ++ end))
first_some form b bytes [] end s = absurd (spelled_some form _ _ s (λ e. cc) refl)
first_some form b bytes (c ∷ cs) end s = elim (cases_Bool (is_bad_first c)) [
  | inl bad ↦ record {
    text = escape c ++ cs;
    stem = some b bytes _ (first_escaped form _ _ c cs s refl (bad_no_percent c bad));
    is = first_bad c (cs ++ end) bad;
  }
  | inr good ↦ record { text = c ∷ cs; stem = some b bytes _ s; is = first_good c (cs ++ end) good }
]

first_rule : (form : PlaceForm) (bytes text end : List ℕ) → IsStem form bytes text
    → BeginsAsStem form bytes end (safe_first (text ++ end))
first_rule form _ _ end empty = record { text = 37 ∷ []; stem = empty; is = refl }
first_rule form _ _ end (some b bytes text s) = first_some form b bytes text end s

last_stem : (form : PlaceForm) (bytes text : List ℕ) → IsStem form bytes text → IsStem form bytes (safe_last text)
last_stem form _ _ empty = empty
last_stem form _ _ (some b bytes text s) = some b bytes _ (last_escaped form _ _ s)

last_rule : (form : PlaceForm) (bytes text end : List ℕ) → safe_last end ≡ end → IsStem form bytes text
    → BeginsAsStem form bytes end (safe_last (text ++ end))
last_rule form bytes text [] h s = record {
  text = safe_last text;
  stem = last_stem form bytes text s;
  is = ap safe_last (append-nil text) ∙ sym (append-nil (safe_last text));
}
last_rule form bytes text (c ∷ end) h s =
    record { text = text; stem = s; is = safe_last_append text c end ∙ ap (λ (t : List ℕ). text ++ t) h }

device_some : (form : PlaceForm) (b : ℕ) (bytes text end : List ℕ) → Spells form (b ∷ bytes) text
    → BeginsAsStem form (b ∷ bytes) end (no_device (text ++ end))
device_some form b bytes [] end s = absurd (spelled_some form _ _ s (λ e. cc) refl)
device_some form b bytes (c ∷ cs) end s = elim (cases_Bool (is_device (c ∷ (cs ++ end)))) [
  | inl bad ↦ record {
    text = escape c ++ cs;
    stem = some b bytes _ (first_escaped form _ _ c cs s refl (λ e.
        let other : is_device (c ∷ (cs ++ end)) ≡ false =
        subst (λ (x : ℕ). is_device (x ∷ (cs ++ end)) ≡ false) (sym e) (percent_no_device (cs ++ end)) in
        cc));
    is = device_escaped (c ∷ (cs ++ end)) bad;
  }
  | inr good ↦ record { text = c ∷ cs; stem = some b bytes _ s; is = other_stays (c ∷ (cs ++ end)) good }
]

device_rule : (form : PlaceForm) (bytes text end : List ℕ) → IsStem form bytes text
    → BeginsAsStem form bytes end (no_device (text ++ end))
device_rule form _ _ end empty =
    record { text = 37 ∷ []; stem = empty; is = other_stays (37 ∷ end) (percent_no_device end) }
device_rule form _ _ end (some b bytes text s) = device_some form b bytes text end s

-- all three, one after another
pub three_rules : (form : PlaceForm) (bytes text end : List ℕ) → safe_last end ≡ end → IsStem form bytes text
    → BeginsAsStem form bytes end (no_device (safe_last (safe_first (text ++ end))))
three_rules form bytes text end h s =
    let one = first_rule form bytes text end s in
    let two = last_rule form bytes one.text end h one.stem in
    let three = device_rule form bytes two.text end two.stem in
    record {
      text = three.text;
      stem = three.stem;
      is = ap (λ (t : List ℕ). no_device (safe_last t)) one.is ∙ ap no_device two.is ∙ three.is;
    }

-- ---- the characters of a stem

abbrev pub is_in_stem : ℕ → Bool
is_in_stem c = is_plain c || c == 37

abbrev pub AreInStem : List ℕ → Type 0
AreInStem text = AllByRecursion (λ c. is_in_stem c ≡ true) text

plain_in_stem : (c : ℕ) → is_plain c ≡ true → is_in_stem c ≡ true
plain_in_stem c h = rw (h) refl

digit_in_stem : (d : ℕ) → d < 16 → is_in_stem (digit_char d) ≡ true
digit_in_stem d h = plain_in_stem (digit_char d) (digit_plain d h)

escape_in_stem : (n : ℕ) (text : List ℕ) → n < 256 → AreInStem text → AreInStem (escape n ++ text)
escape_in_stem n text h t = (refl, (digit_in_stem (n / 16) (omega arith), (digit_in_stem (n % 16) (omega arith), t)))

spelled_in_stem : (form : PlaceForm) (bytes text : List ℕ) → Spells form bytes text → AreInStem text
spelled_in_stem form _ _ none = tt
spelled_in_stem form _ _ (stands c bytes text h s) = (plain_in_stem c h, spelled_in_stem form bytes text s)
spelled_in_stem form _ _ (escaped n bytes text h k s) = escape_in_stem n text h (spelled_in_stem form bytes text s)
spelled_in_stem form _ _ (marked b bytes text e h k s) =
    let rest = escape_in_stem b text (omega arith) (spelled_in_stem form bytes text s) in
    escape_in_stem 127 (escape b ++ text) (omega arith) rest

pub stem_characters : (form : PlaceForm) (bytes text : List ℕ) → IsStem form bytes text → AreInStem text
stem_characters form _ _ empty = (refl, tt)
stem_characters form _ _ (some b bytes text s) = spelled_in_stem form _ _ s
