-- The number and the tail of a name: which characters they have.
use Rattle.std.proofs.Common.{◌≡◌, ◌≢◌, ℕ, zero, suc, ◌/◌, ◌%◌, ◌^◌, ◌<◌, ◌≤◌, Bool, true, false, List, [], ◌∷◌, ◌++◌, arith, refl, sym, subst, inl, inr, codes, decimal, take}
use Rattle.std.specs.Prelude.{◌==◌, ◌||◌, ◌&&◌, nat_le, nat_lt, All}
use Rattle.std.specs.List.{AllByRecursion}
use Rattle.std.specs.Char.{digit_char}
use Rattle.std.proofs.lemmas.Grind.{common_steps}
use Rattle.std.proofs.lemmas.Bool.{agree_below, agree_below_at, cases_Bool}
use Rattle.std.proofs.lemmas.Fmt.{decimal_by_steps}
use Rattle.vol_layout.specs.declared.form.PlaceForm.{PlaceForm}
use Rattle.vol_layout.specs.declared.form.PlaceForm.TheVariants.{Sector, Block}
use Rattle.host_folders.specs.HostNames.{Entry, aux_in, aux_of, digits, ending, dos_aux, dos_type, has_tail, is_bad_last, is_plain, safe_last, tail, text_tail, told_number, told_tail, type_in, type_of}
use Rattle.host_folders.specs.Laws.{IsEntry, IsNumber}
use Rattle.host_folders.specs.declared.entry.Naming.{Naming}
use Rattle.host_folders.specs.declared.entry.Naming.TheVariants.{Naps, Plain}
use Rattle.host_folders.proofs.Last.{safe_last_append, safe_last_good}

-- ---- lists

pub all_append : (P : ℕ → Type 0) (xs ys : List ℕ) → AllByRecursion P xs → AllByRecursion P ys
    → AllByRecursion P (xs ++ ys)
all_append P [] ys h k = k
all_append P (x ∷ xs) ys h k = (h.0, all_append P xs ys h.1 k)

pub all_map : (P Q : ℕ → Type 0) → ((x : ℕ) → P x → Q x) → (xs : List ℕ) → AllByRecursion P xs → AllByRecursion Q xs
all_map P Q f [] h = tt
all_map P Q f (x ∷ xs) h = (f x h.0, all_map P Q f xs h.1)

pub all_take : (P : ℕ → Type 0) (n : ℕ) (xs : List ℕ) → AllByRecursion P xs → AllByRecursion P (take n xs)
all_take P zero xs h = tt
all_take P (suc n) [] h = tt
all_take P (suc n) (x ∷ xs) h = (h.0, all_take P n xs h.1)

pub by_recursion : (P : ℕ → Type 0) (xs : List ℕ) → All P xs → AllByRecursion P xs
by_recursion P [] h = tt
by_recursion P (x ∷ xs) h = (h 0 x (omega arith), by_recursion P xs (λ k d l. h (suc k) d (omega arith)))

pub by_place : (P : ℕ → Type 0) (xs : List ℕ) → AllByRecursion P xs → All P xs
by_place P [] h k d l = absurd (omega arith)
by_place P (x ∷ xs) h zero d l = h.0
by_place P (x ∷ xs) h (suc k) d l = by_place P xs h.1 k d (omega arith)

-- ---- characters

second : (a b : Bool) → a ≡ true → (a && b) ≡ false → b ≡ false
second true b h e = e
second false b h e = absurd cc

-- what passes the first test fails the second, where that holds of each number below n
pub settled : (p q : ℕ → Bool) (n c : ℕ) → agree_below (λ k. p k && q k) (λ k. false) n ≡ true → c < n
    → p c ≡ true → q c ≡ false
settled p q n c all l h = second (p c) (q c) h (agree_below_at (λ k. p k && q k) (λ k. false) n c all l)

-- the characters of numbers, types and aux types
abbrev pub is_told : ℕ → Bool
is_told c = c == 35 || c == 126 || (nat_le 48 c && nat_lt c 58) || (nat_le 97 c && nat_lt c 103)

abbrev IsTold : List ℕ → Type 0
IsTold text = AllByRecursion (λ c. is_told c ≡ true) text

-- the characters of numbers and tails
abbrev pub is_ending : ℕ → Bool
is_ending c = is_told c || c == 46 || c == 116 || c == 120

-- a text of these
abbrev pub IsEnding : List ℕ → Type 0
IsEnding text = AllByRecursion (λ c. is_ending c ≡ true) text

pub ending_append : (xs ys : List ℕ) → IsEnding xs → IsEnding ys → IsEnding (xs ++ ys)
ending_append xs ys h k = all_append (λ c. is_ending c ≡ true) xs ys h k

abbrev pub IsDigit : ℕ → Type 0
IsDigit c = (48 ≤ c) × (c < 58)

digit_told : (d : ℕ) → d < 16 → is_told (digit_char d) ≡ true
digit_told d h = grind arith

decimal_told : (c : ℕ) → IsDigit c → is_told c ≡ true
decimal_told c h = grind arith

told_ending : (c : ℕ) → is_told c ≡ true → is_ending c ≡ true
told_ending c h = rw (h) refl

told_last : (c : ℕ) → is_told c ≡ true → is_bad_last c ≡ false
told_last c h = grind (arith, common_steps)

ending_of : (text : List ℕ) → IsTold text → IsEnding text
ending_of text h = all_map (λ c. is_told c ≡ true) (λ c. is_ending c ≡ true) told_ending text h

pub digit_plain : (d : ℕ) → d < 16 → is_plain (digit_char d) ≡ true
digit_plain d h = agree_below_at (λ k. is_plain (digit_char k)) (λ k. true) 16 d refl h

-- ---- numbers

pub decimal_digits : (n : ℕ) → n < 2 ^ 64 → AllByRecursion IsDigit (decimal n)
decimal_digits =
    decimal_by_steps (λ n ds. AllByRecursion IsDigit ds) (λ n h. ((omega arith, omega arith), tt))
    (λ n ds many front. all_append IsDigit ds _ front ((omega arith, omega arith), tt))

number_not : (n : ℕ) → n ≢ 1 → (n == 1) ≡ false
number_not n h = grind arith

pub number_one : (n : ℕ) → (n == 1) ≡ true → told_number n ≡ []
number_one n h = rw (h) refl

pub number_more : (n : ℕ) → (n == 1) ≡ false → told_number n ≡ 126 ∷ decimal n
number_more n h = rw (h) refl

pub number_some : (n : ℕ) → n ≢ 1 → told_number n ≡ 126 ∷ decimal n
number_some n h = number_more n (number_not n h)

number_told : (n : ℕ) → n < 2 ^ 32 → IsTold (told_number n)
number_told n h = elim (cases_Bool (n == 1)) [
  | inl one ↦ subst IsTold (sym (number_one n one)) tt
  | inr more ↦ let ends = all_map _ _ decimal_told _ (decimal_digits n (omega arith)) in
      subst IsTold (sym (number_more n more)) (refl, ends)
]

-- ---- tails

dos_type_fits : (kind : ℕ) → dos_type kind < 256
dos_type_fits kind = grind arith

dos_aux_fits : (kind aux : ℕ) → kind < 256 → aux < 65536 → dos_aux kind aux < 65536
dos_aux_fits kind aux h k = grind arith

type_in_fits : (form : PlaceForm) (kind : ℕ) → kind < 256 → type_in form kind < 256
type_in_fits Sector kind h = dos_type_fits kind
type_in_fits Block kind h = h

aux_in_fits : (form : PlaceForm) (kind aux : ℕ) → kind < 256 → aux < 65536 → aux_in form kind aux < 65536
aux_in_fits Sector kind aux h k = dos_aux_fits kind aux h k
aux_in_fits Block kind aux h k = k

pub type_fits : (e : Entry) → IsEntry e → type_of e < 256
type_fits e h = type_in_fits e.form e.kind h.kind

pub aux_fits : (e : Entry) → IsEntry e → aux_of e < 65536
aux_fits e h = aux_in_fits e.form e.kind e.aux h.kind h.aux

digits_told : (n : ℕ) → n < 256 → IsTold (digits n)
digits_told n h = (digit_told (n / 16) (omega arith), (digit_told (n % 16) (omega arith), tt))

tail_told : (type aux : ℕ) → type < 256 → aux < 65536 → IsTold (told_tail type aux)
tail_told type aux h k =
    let high = digits_told (aux / 256) (omega arith) in
    let low = digits_told (aux % 256) (omega arith) in
    let four = all_append (λ c. is_told c ≡ true) (digits (aux / 256)) (digits (aux % 256)) high low in
    (refl, all_append (λ c. is_told c ≡ true) (digits type) (digits (aux / 256) ++ digits (aux % 256)) (digits_told type h) four)

pub tail_some : (naming : Naming) (e : Entry) → has_tail naming e.directory ≡ true
    → tail naming e ≡ told_tail (type_of e) (aux_of e)
tail_some naming e h = rw (h) refl

pub tail_none : (naming : Naming) (e : Entry) → has_tail naming e.directory ≡ false
    → tail naming e ≡ text_tail naming e.text
tail_none naming e h = rw (h) refl

-- a tail: nothing, a type and an aux type, or `.txt`
pub data IsTail : Naming → List ℕ → Type 0 where
  no_tail : (naming : Naming) → IsTail naming []
  tail_of : (type aux : ℕ) → type < 256 → aux < 65536 → IsTail Naps (told_tail type aux)
  tail_text : IsTail Plain (codes ".txt")

text_is : (naming : Naming) (text : Bool) → IsTail naming (text_tail naming text)
text_is Naps text = no_tail Naps
text_is Plain true = tail_text
text_is Plain false = no_tail Plain

type_is : (naming : Naming) (directory : Bool) (type aux : ℕ) → has_tail naming directory ≡ true → type < 256 → aux < 65536
    → IsTail naming (told_tail type aux)
type_is Naps directory type aux has h k = tail_of type aux h k
type_is Plain directory type aux has h k = absurd cc

pub tail_is : (naming : Naming) (e : Entry) → IsEntry e → IsTail naming (tail naming e)
tail_is naming e h = elim (cases_Bool (has_tail naming e.directory)) [
  | inl has ↦ subst (IsTail naming) (sym (tail_some naming e has))
      (type_is naming e.directory _ _ has (type_fits e h) (aux_fits e h))
  | inr has_none ↦ subst (IsTail naming) (sym (tail_none naming e has_none)) (text_is naming e.text)
]

pub tail_ends : (naming : Naming) (end : List ℕ) → IsTail naming end → IsEnding end
tail_ends _ _ (no_tail naming) = tt
tail_ends _ _ (tail_of type aux h k) = ending_of (told_tail type aux) (tail_told type aux h k)
tail_ends _ _ tail_text = (refl, (refl, (refl, (refl, tt))))

pub tail_ending : (naming : Naming) (e : Entry) → IsEntry e → IsEnding (tail naming e)
tail_ending naming e h = tail_ends naming (tail naming e) (tail_is naming e h)

-- number and tail
pub end_ending : (naming : Naming) (e : Entry) (number : ℕ) → IsEntry e → IsNumber number
    → IsEnding (ending naming e number)
end_ending naming e number h k =
    ending_append (told_number number) _ (ending_of (told_number number) (number_told number k.fits)) (tail_ending naming e h)

-- these end as a name may
last_told : (text : List ℕ) → IsTold text → safe_last text ≡ text
last_told text h = safe_last_good text (all_map (λ c. is_told c ≡ true) (λ c. is_bad_last c ≡ false) told_last text h)

good_tail : (naming : Naming) (front end : List ℕ) → IsTold front → IsTail naming end → safe_last (front ++ end) ≡ front ++ end
good_tail _ front _ h (no_tail naming) = last_told (front ++ []) (all_append (λ c. is_told c ≡ true) front [] h tt)
good_tail _ front _ h (tail_of type aux k l) =
    last_told (front ++ told_tail type aux) (all_append (λ c. is_told c ≡ true) front _ h (tail_told type aux k l))
good_tail _ front _ h tail_text = safe_last_append front 46 (codes "txt")

pub good_end : (naming : Naming) (e : Entry) (number : ℕ) → IsEntry e → IsNumber number
    → safe_last (ending naming e number) ≡ ending naming e number
good_end naming e number h k =
    good_tail naming (told_number number) (tail naming e) (number_told number k.fits) (tail_is naming e h)
