-- Names on the host that are one without regard to case have one bare name, without regard to case, and one number.
use Rattle.std.proofs.Common.{◌≡◌, ◌≢◌, ℕ, ◌+◌, ◌/◌, ◌%◌, ◌^◌, ◌<◌, ◌≤◌, true, List, [], ◌∷◌, ◌++◌, map, arith, refl, sym, ap, ap₂, ◌∙◌, subst, inl, inr, codes, decimal, length, length-append}
use Rattle.std.specs.Prelude.{⊤, ◌==◌, flat_map}
use Rattle.std.specs.List.{AllByRecursion}
use Rattle.std.specs.Char.{digit_char, to_ascii_lowercase}
use Rattle.std.proofs.lemmas.Grind.{common_steps, flat_map-append}
use Rattle.std.proofs.lemmas.Bool.{cases_Bool}
use Rattle.std.proofs.lemmas.Fmt.{decimal_injective}
use Rattle.std.proofs.lemmas.List.{append-nil, map-append}
use Rattle.vol_layout.specs.declared.form.PlaceForm.{PlaceForm}
use Rattle.host_folders.specs.HostNames.{Entry, character_byte, digits, ending, escape, folded, is_plain, name_bytes, name_read, or_percent, piece, stem, tail, told_number, told_tail}
use Rattle.host_folders.specs.Laws.{AreApart, IsEntry, IsNumber}
use Rattle.host_folders.specs.declared.entry.Naming.{Naming}
use Rattle.host_folders.specs.declared.entry.Naming.TheVariants.{Naps}
use Rattle.host_folders.proofs.Ends.{IsDigit, IsEnding, IsTail, no_tail, tail_of, tail_text, all_append, all_map, decimal_digits, digit_plain, end_ending, is_ending, number_more, number_one, tail_ending, tail_ends, tail_is}
use Rattle.host_folders.proofs.IsSafe.{entry_bytes, host_begins}
use Rattle.host_folders.proofs.Read.{folded_read, folded_stem, low_plain, piece_character}
use Rattle.host_folders.proofs.Spelled.{Spells, none, stands, escaped, marked, plain_no_percent, spelled_append, spelled_name, spelled_plain}
use Rattle.host_folders.proofs.Stems.{AreInStem, IsStem, empty, is_in_stem, or_percent_some, some, spelled_some, stem_characters}

-- ---- lists

-- no character of the text begins a number
abbrev NoNumber : List ℕ → Type 0
NoNumber text = AllByRecursion (λ c. c ≢ 126) text

-- two texts with a number
parts_same : (a b s t : List ℕ) → NoNumber a → NoNumber b → a ++ (126 ∷ s) ≡ b ++ (126 ∷ t) → (a ≡ b) × (s ≡ t)
parts_same [] [] s t h k e = (refl, cc)
parts_same [] (y ∷ b) s t h k e = let f : y ≡ 126 = cc in absurd (k.0 f)
parts_same (x ∷ a) [] s t h k e = let f : x ≡ 126 = cc in absurd (h.0 f)
parts_same (x ∷ a) (y ∷ b) s t h k e =
    let first : x ≡ y = cc in
    let rest : a ++ (126 ∷ s) ≡ b ++ (126 ∷ t) = cc in
    let same = parts_same a b s t h.1 k.1 rest in
    (ap₂ (λ (z : ℕ) (zs : List ℕ). z ∷ zs) first same.0, same.1)

-- one text with a number, and one without
no_part : (a s b : List ℕ) → NoNumber b → a ++ (126 ∷ s) ≡ b → ⊥
no_part [] s [] h e = cc
no_part [] s (y ∷ b) h e = let f : y ≡ 126 = cc in h.0 f
no_part (x ∷ a) s [] h e = cc
no_part (x ∷ a) s (y ∷ b) h e = let rest : a ++ (126 ∷ s) ≡ b = cc in no_part a s b h.1 rest

-- no digit goes on
abbrev Stops : List ℕ → Type 0
Stops [] = ⊤
Stops (c ∷ cs) = c < 48

digit_goes_on : (c : ℕ) (cs s : List ℕ) → IsDigit c → Stops s → s ≡ c ∷ cs → ⊥
digit_goes_on c cs [] h k e = cc
digit_goes_on c cs (d ∷ ds) h k e = let f : d ≡ c = cc in omega (arith, k, h.0, f)

digits_same : (a b s t : List ℕ) → AllByRecursion IsDigit a → AllByRecursion IsDigit b → Stops s → Stops t
    → a ++ s ≡ b ++ t → (a ≡ b) × (s ≡ t)
digits_same [] [] s t h k u v e = (refl, e)
digits_same [] (y ∷ b) s t h k u v e = absurd (digit_goes_on y (b ++ t) s k.0 u e)
digits_same (x ∷ a) [] s t h k u v e = absurd (digit_goes_on x (a ++ s) t h.0 v (sym e))
digits_same (x ∷ a) (y ∷ b) s t h k u v e =
    let first : x ≡ y = cc in
    let rest : a ++ s ≡ b ++ t = cc in
    let same = digits_same a b s t h.1 k.1 u v rest in
    (ap₂ (λ (z : ℕ) (zs : List ℕ). z ∷ zs) first same.0, same.1)

fronts_same : (a b s t : List ℕ) → length a ≡ length b → a ++ s ≡ b ++ t → (a ≡ b) × (s ≡ t)
fronts_same [] [] s t h e = (refl, e)
fronts_same [] (y ∷ b) s t h e = absurd (omega arith)
fronts_same (x ∷ a) [] s t h e = absurd (omega arith)
fronts_same (x ∷ a) (y ∷ b) s t h e =
    let first : x ≡ y = cc in
    let rest : a ++ s ≡ b ++ t = cc in
    let same = fronts_same a b s t (omega arith) rest in
    (ap₂ (λ (z : ℕ) (zs : List ℕ). z ∷ zs) first same.0, same.1)

pub ends_same : (a b s t : List ℕ) → length s ≡ length t → a ++ s ≡ b ++ t → (a ≡ b) × (s ≡ t)
ends_same a b s t h e =
    let whole : length a + length s ≡ length b + length t = sym (length-append a s) ∙ ap length e ∙ length-append b t in
    fronts_same a b s t (omega arith) e

-- ---- without regard to case

pub folded_append : (a b : List ℕ) → folded (a ++ b) ≡ folded a ++ folded b
folded_append a b = map-append to_ascii_lowercase a b

low_ending : (c : ℕ) → is_ending c ≡ true → to_ascii_lowercase c ≡ c
low_ending c h = grind (arith, common_steps)

folded_ending : (end : List ℕ) → IsEnding end → folded end ≡ end
folded_ending [] h = refl
folded_ending (c ∷ end) h = ap₂ (λ (z : ℕ) (zs : List ℕ). z ∷ zs) (low_ending c h.0) (folded_ending end h.1)

low_in_stem : (c : ℕ) → is_in_stem c ≡ true → to_ascii_lowercase c ≢ 126
low_in_stem c h e = grind (arith, common_steps)

folded_no_number : (text : List ℕ) → AreInStem text → NoNumber (folded text)
folded_no_number [] h = tt
folded_no_number (c ∷ text) h = (low_in_stem c h.0, folded_no_number text h.1)

-- ---- texts that spell names

same_bytes : (form : PlaceForm) (a s b t : List ℕ) → Spells form a s → Spells form b t → folded s ≡ folded t
    → folded_stem form a ≡ folded_stem form b
same_bytes form a s b t h k e =
    sym (folded_read form a s h) ∙ ap (λ (u : List ℕ). folded_stem form (name_read form u)) e ∙ folded_read form b t k

-- behind the `%` at the front of one stands a digit
abbrev HasDigit : List ℕ → Type 0
HasDigit [] = ⊥
HasDigit (c ∷ cs) = 48 ≤ c

digit_no_tail : (d : ℕ) → d < 16 → 48 ≤ to_ascii_lowercase (digit_char d)
digit_no_tail d h = grind arith

percent_digit : (form : PlaceForm) (bytes text cs : List ℕ) → Spells form bytes text → bytes ≢ []
    → folded text ≡ 37 ∷ cs → HasDigit cs
percent_digit form _ _ cs none h e = absurd (h refl)
percent_digit form _ _ cs (stands c bytes text k s) h e =
    let f : to_ascii_lowercase c ≡ 37 = cc in absurd (plain_no_percent (to_ascii_lowercase c) (low_plain c k) f)
percent_digit form _ _ cs (escaped n bytes text k l s) h e =
    let f : folded (digits n ++ text) ≡ cs = cc in subst HasDigit f (digit_no_tail (n / 16) (omega arith))
percent_digit form _ _ cs (marked b bytes text f k l s) h e =
    let g : folded (digits 127 ++ (escape b ++ text)) ≡ cs = cc in subst HasDigit g (digit_no_tail 7 (omega arith))

-- the stem of some bytes
abbrev stem_text : PlaceForm → List ℕ → List ℕ
stem_text form bytes = or_percent (flat_map (piece form) bytes)

abbrev AreBytes : List ℕ → Type 0
AreBytes bytes = AllByRecursion (λ b. b < 256) bytes

stem_of_some : (form : PlaceForm) (b : ℕ) (bytes : List ℕ) → AreBytes (b ∷ bytes)
    → folded (stem_text form (b ∷ bytes)) ≡ folded_stem form (b ∷ bytes)
stem_of_some form b bytes h =
    ap folded (or_percent_some _ (spelled_some form (b ∷ bytes) _ (spelled_name form (b ∷ bytes) h) (λ e. cc)))

same_stems : (form : PlaceForm) (a s b t : List ℕ) → AreBytes a → AreBytes b → IsStem form a s → IsStem form b t
    → folded s ≡ folded t → folded (stem_text form a) ≡ folded (stem_text form b)
same_stems form _ _ _ _ h k empty empty e = refl
same_stems form _ _ _ _ h k empty (some b bytes text s) e =
    absurd (percent_digit form _ _ [] s (λ f. cc) (sym e))
same_stems form _ _ _ _ h k (some b bytes text s) empty e =
    absurd (percent_digit form _ _ [] s (λ f. cc) e)
same_stems form _ _ _ _ h k (some b bytes text s) (some d more other t) e =
    stem_of_some form b bytes h ∙ same_bytes form _ _ _ _ s t e ∙ sym (stem_of_some form d more k)

-- ---- tails

tail_stops : (naming : Naming) (end : List ℕ) → IsTail naming end → Stops end
tail_stops _ _ (no_tail naming) = tt
tail_stops _ _ (tail_of type aux h k) = omega arith
tail_stops _ _ tail_text = omega arith

tail_plain : (type aux : ℕ) → type < 256 → aux < 65536 → AllByRecursion (λ c. is_plain c ≡ true) (told_tail type aux)
tail_plain type aux h k = (
  refl,
  (
    digit_plain (type / 16) (omega arith),
    (
      digit_plain (type % 16) (omega arith),
      (
        digit_plain (aux / 256 / 16) (omega arith),
        (
          digit_plain (aux / 256 % 16) (omega arith),
          (digit_plain (aux % 256 / 16) (omega arith), (digit_plain (aux % 256 % 16) (omega arith), tt)),
        ),
      ),
    ),
  ),
)

plain_no_number : (c : ℕ) → is_plain c ≡ true → c ≢ 126
plain_no_number c h e = grind (arith, common_steps)

-- a tail of plain characters that is no digit at its front
record IsMarked (end : List ℕ) : Type 0 where
  plain : AllByRecursion (λ c. is_plain c ≡ true) end
  ends : IsEnding end
  stops : Stops end
  long : 2 ≤ length end

type_marked : (type aux : ℕ) → type < 256 → aux < 65536 → IsMarked (told_tail type aux)
type_marked type aux h k = record {
  plain = tail_plain type aux h k;
  ends = tail_ends Naps (told_tail type aux) (tail_of type aux h k);
  stops = omega arith;
  long = omega arith;
}

text_marked : IsMarked (codes ".txt")
text_marked = record {
  plain = (refl, (refl, (refl, (refl, tt))));
  ends = (refl, (refl, (refl, (refl, tt))));
  stops = omega arith;
  long = omega arith;
}

plain_number : (end : List ℕ) → AllByRecursion (λ c. is_plain c ≡ true) end → NoNumber end
plain_number end plain = all_map (λ c. is_plain c ≡ true) (λ c. c ≢ 126) plain_no_number end plain

tail_no_number : (naming : Naming) (end : List ℕ) → IsTail naming end → NoNumber end
tail_no_number _ _ (no_tail naming) = tt
tail_no_number _ _ (tail_of type aux h k) = plain_number (told_tail type aux) (tail_plain type aux h k)
tail_no_number _ _ tail_text = plain_number (codes ".txt") text_marked.plain

-- plain characters, as bytes of a name, have them as their stem
plain_stem : (form : PlaceForm) (text : List ℕ) → AllByRecursion (λ c. is_plain c ≡ true) text
    → flat_map (piece form) (map (character_byte form) text) ≡ text
plain_stem form [] h = refl
plain_stem form (c ∷ text) h =
    ap₂ (λ (front rest : List ℕ). front ++ rest) (piece_character form c h.0) (plain_stem form text h.1)

pub folded_end : (front end : List ℕ) → IsEnding end → folded (front ++ end) ≡ folded front ++ end
folded_end front end h = folded_append front end ∙ ap (λ (t : List ℕ). folded front ++ t) (folded_ending end h)

no_digit_stops : (end : List ℕ) → HasDigit end → Stops end → ⊥
no_digit_stops [] digit stops = digit
no_digit_stops (c ∷ cs) digit stops = omega (arith, digit, stops)

-- a stem alone that is told as another with a tail
tail_against : (form : PlaceForm) (a s b t end : List ℕ) → AreBytes a → AreBytes b
    → IsStem form a s → IsStem form b t → IsMarked end → folded s ≡ folded t ++ end
    → folded (stem_text form a) ≡ folded (stem_text form b) ++ end
tail_against form _ _ b t end h k empty r marked_end e =
    let long = length-append (folded t) end in
    let one : 1 ≡ length (folded t ++ end) = ap length e in
    absurd (omega (arith, long, one, marked_end.long))
tail_against form _ _ _ _ end h k (some x bytes text s) empty marked_end e =
    absurd (no_digit_stops end (percent_digit form _ _ end s (λ f. cc) e) marked_end.stops)
tail_against form _ _ _ _ end h k (some x bytes text s) (some y more other t) marked_end e =
    let tail_bytes = map (character_byte form) end in
    let whole = spelled_append form (y ∷ more) other tail_bytes end t (spelled_plain form end marked_end.plain) in
    let goes = folded_end other end marked_end.ends in
    stem_of_some form x bytes h
    ∙ same_bytes form _ _ _ _ s whole (e ∙ sym goes)
    ∙ ap folded (flat_map-append (piece form) (y ∷ more) tail_bytes)
    ∙ ap (λ (u : List ℕ). folded (flat_map (piece form) (y ∷ more) ++ u)) (plain_stem form end marked_end.plain)
    ∙ folded_end (flat_map (piece form) (y ∷ more)) end marked_end.ends
    ∙ ap (λ (u : List ℕ). u ++ end) (sym (stem_of_some form y more k))

-- ---- names without a number

-- which tails two names have in one way of naming
data AreTails : List ℕ → List ℕ → Type 0 where
  neither : AreTails [] []
  second : (end : List ℕ) → IsMarked end → AreTails [] end
  first : (end : List ℕ) → IsMarked end → AreTails end []
  both : (end other : List ℕ) → length end ≡ length other → AreTails end other

are_tails : (naming : Naming) (end other : List ℕ) → IsTail naming end → IsTail naming other → AreTails end other
are_tails _ _ _ (no_tail naming) (no_tail _) = neither
are_tails _ _ _ (no_tail _) (tail_of type aux h k) = second (told_tail type aux) (type_marked type aux h k)
are_tails _ _ _ (no_tail _) tail_text = second (codes ".txt") text_marked
are_tails _ _ _ (tail_of type aux h k) (no_tail _) = first (told_tail type aux) (type_marked type aux h k)
are_tails _ _ _ (tail_of type aux h k) (tail_of type' aux' h' k') = both (told_tail type aux) (told_tail type' aux') refl
are_tails _ _ _ tail_text (no_tail _) = first (codes ".txt") text_marked
are_tails _ _ _ tail_text tail_text = both (codes ".txt") (codes ".txt") refl

bare_same : (form : PlaceForm) (a s b t end other : List ℕ) → AreBytes a → AreBytes b
    → IsStem form a s → IsStem form b t → AreTails end other → folded s ++ end ≡ folded t ++ other
    → folded (stem_text form a) ++ end ≡ folded (stem_text form b) ++ other
bare_same form a s b t _ _ h k p q neither e =
    let same = ends_same (folded s) (folded t) [] [] refl e in
    ap (λ (u : List ℕ). u ++ []) (same_stems form a s b t h k p q same.0)
bare_same form a s b t _ _ h k p q (second end marked_end) e =
    append-nil (folded (stem_text form a))
    ∙ tail_against form a s b t end h k p q marked_end (sym (append-nil (folded s)) ∙ e)
bare_same form a s b t _ _ h k p q (first end marked_end) e =
    sym (append-nil (folded (stem_text form b))
    ∙ tail_against form b t a s end k h q p marked_end (sym (append-nil (folded t)) ∙ sym e))
bare_same form a s b t _ _ h k p q (both end other long) e =
    let same = ends_same (folded s) (folded t) end other long e in
    ap₂ (λ (front end : List ℕ). front ++ end) (same_stems form a s b t h k p q same.0) same.1

-- ---- all names

is_one : (n : ℕ) → (n == 1) ≡ true → n ≡ 1
is_one n h = grind arith

both_numbers : (naming : Naming) (form : PlaceForm) (a s b t end other : List ℕ) (m n : ℕ) → AreBytes a → AreBytes b
    → IsStem form a s → IsStem form b t → IsTail naming end → IsTail naming other → m < 2 ^ 32 → n < 2 ^ 32
    → folded s ++ (126 ∷ (decimal m ++ end)) ≡ folded t ++ (126 ∷ (decimal n ++ other))
    → (folded (stem_text form a) ++ end ≡ folded (stem_text form b) ++ other) × (m ≡ n)
both_numbers naming form a s b t end other m n h k p q v w i j e =
    let front = folded_no_number s (stem_characters form a s p) in
    let front_too = folded_no_number t (stem_characters form b t q) in
    let parts = parts_same (folded s) (folded t) (decimal m ++ end) (decimal n ++ other) front front_too e in
    let one = decimal_digits m (omega arith) in
    let two = decimal_digits n (omega arith) in
    let numbers = digits_same (decimal m) (decimal n) end other one two
    (tail_stops naming end v) (tail_stops naming other w) parts.1 in (
      ap₂ (λ (u z : List ℕ). u ++ z) (same_stems form a s b t h k p q parts.0) numbers.1,
      decimal_injective m n (omega arith) (omega arith) numbers.0,
    )

no_number_here : (naming : Naming) (form : PlaceForm) (bytes text end : List ℕ) → IsStem form bytes text
    → IsTail naming end → NoNumber (folded text ++ end)
no_number_here naming form bytes text end s v =
    let front = folded_no_number text (stem_characters form bytes text s) in
    all_append (λ c. c ≢ 126) (folded text) end front (tail_no_number naming end v)

stems_apart : (naming : Naming) (form : PlaceForm) (a s b t end other : List ℕ) (m n : ℕ) → AreBytes a → AreBytes b
    → IsStem form a s → IsStem form b t → IsTail naming end → IsTail naming other → m < 2 ^ 32 → n < 2 ^ 32
    → folded s ++ (told_number m ++ end) ≡ folded t ++ (told_number n ++ other)
    → (folded (stem_text form a) ++ end ≡ folded (stem_text form b) ++ other) × (m ≡ n)
stems_apart naming form a s b t end other m n h k p q v w i j e = elim (cases_Bool (m == 1)) [
  | inl one ↦ elim (cases_Bool (n == 1)) [
    | inl one_too ↦
        let f : folded s ++ end ≡ folded t ++ other =
        sym (ap (λ (u : List ℕ). folded s ++ (u ++ end)) (number_one m one)) ∙ e
        ∙ ap (λ (u : List ℕ). folded t ++ (u ++ other)) (number_one n one_too) in
        (bare_same form a s b t end other h k p q (are_tails naming end other v w) f, is_one m one ∙ sym (is_one n one_too))
    | inr more ↦
        let f : folded t ++ (126 ∷ (decimal n ++ other)) ≡ folded s ++ end =
        sym (ap (λ (u : List ℕ). folded t ++ (u ++ other)) (number_more n more)) ∙ sym e
        ∙ ap (λ (u : List ℕ). folded s ++ (u ++ end)) (number_one m one) in
        absurd (no_part (folded t) _ _ (no_number_here naming form a s end p v) f)
  ]
  | inr more ↦ elim (cases_Bool (n == 1)) [
    | inl one ↦
        let f : folded s ++ (126 ∷ (decimal m ++ end)) ≡ folded t ++ other =
        sym (ap (λ (u : List ℕ). folded s ++ (u ++ end)) (number_more m more)) ∙ e
        ∙ ap (λ (u : List ℕ). folded t ++ (u ++ other)) (number_one n one) in
        absurd (no_part (folded s) _ _ (no_number_here naming form b t other q w) f)
    | inr more_too ↦
        let f : folded s ++ (126 ∷ (decimal m ++ end)) ≡ folded t ++ (126 ∷ (decimal n ++ other)) =
        sym (ap (λ (u : List ℕ). folded s ++ (u ++ end)) (number_more m more)) ∙ e
        ∙ ap (λ (u : List ℕ). folded t ++ (u ++ other)) (number_more n more_too) in
        both_numbers naming form a s b t end other m n h k p q v w i j f
  ]
]

pub names_apart : (naming : Naming) (one other : Entry) (m n : ℕ) → one.form ≡ other.form → IsEntry one → IsEntry other
    → IsNumber m → IsNumber n → AreApart naming one other m n
names_apart naming one other m n same h k i j e =
    let first = host_begins naming one m h i in
    let second = host_begins naming other n k j in
    let first_end = end_ending naming one m h i in
    let second_end = end_ending naming other n k j in
    let parts : folded first.text ++ ending naming one m ≡ folded second.text ++ ending naming other n =
    sym (ap folded first.is ∙ folded_end first.text _ first_end) ∙ e
    ∙ ap folded second.is ∙ folded_end second.text _ second_end in
    let stem_too = subst (λ (f : PlaceForm). IsStem f (name_bytes f other.name) second.text) (sym same) second.stem in
    let bytes_too = subst (λ (f : PlaceForm). AreBytes (name_bytes f other.name)) (sym same) (entry_bytes other k) in
    let apart = stems_apart naming one.form (name_bytes one.form one.name) first.text
    (name_bytes one.form other.name) second.text (tail naming one) (tail naming other) m n (entry_bytes one h)
    bytes_too first.stem stem_too
    (tail_is naming one h) (tail_is naming other k) i.fits j.fits parts in
    let told = folded (stem one.form one.name) ++ tail naming one in
    let bare = subst (λ (f : PlaceForm). told ≡ folded (stem f other.name) ++ tail naming other) same apart.0 in (
      folded_end (stem one.form one.name) (tail naming one) (tail_ending naming one h) ∙ bare
          ∙ sym (folded_end (stem other.form other.name) (tail naming other) (tail_ending naming other k)),
      apart.1,
    )
