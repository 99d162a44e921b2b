-- A name on the host says its entry.
use Rattle.std.proofs.Common.{◌≡◌, ℕ, ◌+◌, ◌-◌, ◌/◌, ◌%◌, ◌<◌, Bool, true, false, not, if◌then◌else◌, Option, Some, None, List, [], ◌∷◌, ◌++◌, arith, refl, sym, ap, ap₂, ◌∙◌, subst, inl, inr, decimal, take, drop, length, length-append, append_assoc}
use Rattle.std.specs.Prelude.{◌==◌, slice_range}
use Rattle.std.specs.List.{before_first}
use Rattle.std.specs.Str.Parse.{digits_value}
use Rattle.std.proofs.Math.Seq.{drop-append-add, take-append_seam}
use Rattle.std.proofs.lemmas.Grind.{common_steps}
use Rattle.std.proofs.lemmas.Bool.{cases_Bool}
use Rattle.std.proofs.lemmas.List.{append-nil}
use Rattle.std.proofs.lemmas.List.Sums.{take_while-cons}
use Rattle.std.proofs.lemmas.Str.{digit_value-digit_char}
use Rattle.vol_layout.specs.declared.form.PlaceForm.{PlaceForm}
use Rattle.vol_layout.specs.declared.form.PlaceForm.TheVariants.{Sector, Block}
use Rattle.host_folders.specs.HostNames.{Entry, Said, aux_in, aux_of, before_number, digits, dos_aux, dos_kind, dos_type, ending, entry_named, has_tail, kind_of, name_bytes, name_read, read_with_tail, text_tail, told_number, told_tail, type_in, type_of}
use Rattle.host_folders.specs.Laws.{IsEntry, IsNumber, SaysEntry, SaysKind}
use Rattle.host_folders.specs.declared.entry.Naming.{Naming}
use Rattle.host_folders.proofs.Ends.{aux_fits, number_more, number_one, tail_none, tail_some, type_fits}
use Rattle.host_folders.proofs.IsSafe.{host_begins}
use Rattle.host_folders.proofs.Read.{read_spelled}
use Rattle.host_folders.proofs.Stems.{AreInStem, IsStem, empty, is_in_stem, some, stem_characters}

-- ---- the name

pub before_more : (p : ℕ → Bool) (c : ℕ) (text : List ℕ) → p c ≡ false → before_first p (c ∷ text) ≡ c ∷ before_first p text
before_more p c text h = take_while-cons (λ x. not (p x)) c text ∙ rw (h) refl

pub before_end : (p : ℕ → Bool) (c : ℕ) (text : List ℕ) → p c ≡ true → before_first p (c ∷ text) ≡ []
before_end p c text h = take_while-cons (λ x. not (p x)) c text ∙ rw (h) refl

no_number : (c : ℕ) → is_in_stem c ≡ true → (c == 126) ≡ false
no_number c h = grind (arith, common_steps)

stem_before : (text end : List ℕ) → AreInStem text → before_number (text ++ end) ≡ text ++ before_number end
stem_before [] end h = refl
stem_before (c ∷ text) end h =
    before_more (λ d. d == 126) c (text ++ end) (no_number c h.0)
    ∙ ap (λ (t : List ℕ). c ∷ t) (stem_before text end h.1)

number_before : (n : ℕ) → before_number (told_number n) ≡ []
number_before n = elim (cases_Bool (n == 1)) [
  | inl one ↦ ap before_number (number_one n one)
  | inr more ↦ ap before_number (number_more n more) ∙ before_end (λ d. d == 126) 126 (decimal n) refl
]

stem_read : (form : PlaceForm) (bytes text : List ℕ) → IsStem form bytes text → name_read form text ≡ bytes
stem_read Sector _ _ empty = refl
stem_read Block _ _ empty = refl
stem_read form _ _ (some b bytes text s) = read_spelled form _ _ s

name_before : (form : PlaceForm) (bytes text : List ℕ) (n : ℕ) → IsStem form bytes text
    → name_read form (before_number (text ++ told_number n)) ≡ bytes
name_before form bytes text n s =
    let before = stem_before text (told_number n) (stem_characters form bytes text s) in
    ap (name_read form) (before ∙ ap (λ (t : List ℕ). text ++ t) (number_before n) ∙ append-nil text)
    ∙ stem_read form bytes text s

-- ---- the tail

digits_read : (n : ℕ) → n < 256 → digits_value 16 (digits n) ≡ n
digits_read n h =
    let high = digit_value-digit_char (n / 16) (omega arith) in
    let low = digit_value-digit_char (n % 16) (omega arith) in
    rw (high) (rw (low) (omega arith))

four_read : (n : ℕ) → n < 65536 → digits_value 16 (digits (n / 256) ++ digits (n % 256)) ≡ n
four_read n h =
    let first = digit_value-digit_char (n / 256 / 16) (omega arith) in
    let second = digit_value-digit_char (n / 256 % 16) (omega arith) in
    let third = digit_value-digit_char (n % 256 / 16) (omega arith) in
    let fourth = digit_value-digit_char (n % 256 % 16) (omega arith) in
    rw (first) (rw (second) (rw (third) (rw (fourth) (omega arith))))

front_of : (front end : List ℕ) → length end ≡ 7 → take (length (front ++ end) - 7) (front ++ end) ≡ front
front_of front end h =
    let place : length (front ++ end) - 7 ≡ length front = rw (length-append) (omega arith) in
    ap (λ (k : ℕ). take k (front ++ end)) place ∙ take-append_seam front end

type_digits : (front end : List ℕ) → length end ≡ 7
    → slice_range (front ++ end) (length (front ++ end) - 6) (length (front ++ end) - 4) ≡ take 2 (drop 1 end)
type_digits front end h =
    let place : length (front ++ end) - 6 ≡ length front + 1 = rw (length-append) (omega arith) in
    let count : length (front ++ end) - 4 - (length (front ++ end) - 6) ≡ 2 = rw (length-append) (omega arith) in
    ap₂ (λ (k m : ℕ). take k (drop m (front ++ end))) count place ∙ ap (take 2) (drop-append-add front end 1)

aux_digits : (front end : List ℕ) → length end ≡ 7 → drop (length (front ++ end) - 4) (front ++ end) ≡ drop 3 end
aux_digits front end h =
    let place : length (front ++ end) - 4 ≡ length front + 3 = rw (length-append) (omega arith) in
    ap (λ (k : ℕ). drop k (front ++ end)) place ∙ drop-append-add front end 3

-- ---- the entry

abbrev said : List ℕ → Option (ℕ × ℕ) → Said
said name told = record { name = name; type_and_aux = told }

abbrev told : ℕ → ℕ → Option (ℕ × ℕ)
told type aux = Some (type, aux)

chosen : {A : Type 0} (b : Bool) (x y : A) → b ≡ true → (if b then x else y) ≡ x
chosen b x y h = rw (h) refl

other : {A : Type 0} (b : Bool) (x y : A) → b ≡ false → (if b then x else y) ≡ y
other b x y h = rw (h) refl

tail_read : (form : PlaceForm) (bytes text : List ℕ) (n type aux : ℕ) → IsStem form bytes text
    → type < 256 → aux < 65536
    → read_with_tail form ((text ++ told_number n) ++ told_tail type aux) ≡ said bytes (told type aux)
tail_read form bytes text n type aux s k l =
    let front = text ++ told_number n in
    let end = told_tail type aux in
    let name = ap (λ (t : List ℕ). name_read form (before_number t)) (front_of front end refl)
    ∙ name_before form bytes text n s in
    let kind = ap (digits_value 16) (type_digits front end refl) ∙ digits_read type k in
    let more = ap (digits_value 16) (aux_digits front end refl) ∙ four_read aux l in
    ap₂ said name (ap₂ told kind more)

-- what the name of an entry with a tail says, and of one without
abbrev Says : Naming → Entry → List ℕ → Type 0
Says naming e text = entry_named e.form naming e.directory e.text text
    ≡ said (name_bytes e.form e.name) (if has_tail naming e.directory then told (type_of e) (aux_of e) else None)

with_tail : (naming : Naming) (e : Entry) (n : ℕ) (text : List ℕ) → IsEntry e
    → IsStem e.form (name_bytes e.form e.name) text → has_tail naming e.directory ≡ true
    → Says naming e (text ++ (told_number n ++ told_tail (type_of e) (aux_of e)))
with_tail naming e n text fits s h =
    let whole = append_assoc text (told_number n) (told_tail (type_of e) (aux_of e)) in
    subst (Says naming e) whole
    (chosen (has_tail naming e.directory) _ _ h
    ∙ tail_read e.form (name_bytes e.form e.name) text n (type_of e) (aux_of e) s (type_fits e fits) (aux_fits e fits)
    ∙ ap (said (name_bytes e.form e.name)) (sym (chosen (has_tail naming e.directory) _ _ h)))

without_end : (front end : List ℕ) → take (length (front ++ end) - length end) (front ++ end) ≡ front
without_end front end =
    let place : length (front ++ end) - length end ≡ length front = rw (length-append) (omega arith) in
    ap (λ (k : ℕ). take k (front ++ end)) place ∙ take-append_seam front end

without_tail : (naming : Naming) (e : Entry) (n : ℕ) (text : List ℕ) → IsStem e.form (name_bytes e.form e.name) text
    → has_tail naming e.directory ≡ false → Says naming e (text ++ (told_number n ++ text_tail naming e.text))
without_tail naming e n text s h =
    subst (Says naming e) (append_assoc text (told_number n) (text_tail naming e.text))
    (other (has_tail naming e.directory) _ _ h
    ∙ ap (λ (t : List ℕ). said (name_read e.form (before_number t)) None)
    (without_end (text ++ told_number n) (text_tail naming e.text))
    ∙ ap (λ (t : List ℕ). said t None) (name_before e.form (name_bytes e.form e.name) text n s)
    ∙ ap (said (name_bytes e.form e.name)) (sym (other (has_tail naming e.directory) _ _ h)))

-- what it says where the tail is this
abbrev AsEnd : Naming → Entry → ℕ → List ℕ → List ℕ → Type 0
AsEnd naming e n text end = Says naming e (text ++ (told_number n ++ end))

stem_says : (naming : Naming) (e : Entry) (n : ℕ) (text : List ℕ) → IsEntry e
    → IsStem e.form (name_bytes e.form e.name) text → Says naming e (text ++ ending naming e n)
stem_says naming e n text fits s = elim (cases_Bool (has_tail naming e.directory)) [
  | inl has ↦ subst (AsEnd naming e n text) (sym (tail_some naming e has))
      (with_tail naming e n text fits s has)
  | inr has_none ↦ subst (AsEnd naming e n text) (sym (tail_none naming e has_none))
      (without_tail naming e n text s has_none)
]

pub says_entry : (naming : Naming) (e : Entry) (number : ℕ) → IsEntry e → IsNumber number → SaysEntry naming e number
says_entry naming e number fits counts =
    let begins = host_begins naming e number fits counts in
    subst (Says naming e) (sym begins.is) (stem_says naming e number begins.text fits begins.stem)

-- ---- the kind

dos_kind_read : (kind aux : ℕ) → dos_kind (dos_type kind) (dos_aux kind aux) ≡ kind
dos_kind_read kind aux = grind arith

kind_read : (form : PlaceForm) (kind aux : ℕ) → kind_of form (type_in form kind) (aux_in form kind aux) ≡ kind
kind_read Sector kind aux = dos_kind_read kind aux
kind_read Block kind aux = refl

pub says_kind : (e : Entry) → SaysKind e
says_kind e = kind_read e.form e.kind e.aux
