-- The items of a line, one after another.
use Rattle.std.proofs.Common.{◌≡◌, ◌≢◌, ◌⊎◌, ℕ, ◌<◌, ◌≤◌, ◌==◌, Bool, true, false, List, [], ◌∷◌, ◌++◌, Option, Some, None, length, take, drop, arith, refl, sym, ap, ◌∙◌, subst, inl, inr, append_assoc, append-nil, length-drop}
use Rattle.std.proofs.lemmas.Grind.{common_steps}
use Rattle.std.proofs.lemmas.Bool.{cases_eq}
use Rattle.applesoft.specs.Scan.{CanBeScanned, Found, IsScanned, Item, data_length, first_item, first_word, is_taken_alone, item, nothing, string_length, token_item, without_space, word_item}
use Rattle.applesoft.proofs.Standing.{found_in}

-- what the first item of some characters is
pub data IsItem (begins : Bool) (c : ℕ) (cs : List ℕ) (read : Item) : Type 0 where
  space : c ≡ 32 → read ≡ record { bytes = []; rest = cs; begins = begins } → IsItem begins c cs read
  string : c ≡ 34 → read ≡ record { bytes = 34 ∷ take (string_length cs) cs; rest = drop (string_length cs) cs; begins = false } → IsItem begins c cs read
  question : c ≡ 63 → begins ≡ true → read ≡ record { bytes = 0xba ∷ []; rest = cs; begins = false } → IsItem begins c cs read
  alone : c ≢ 32 → c ≢ 34 → c ≢ 63 → is_taken_alone c ≡ true → read ≡ record { bytes = c ∷ []; rest = cs; begins = c == 58 } → IsItem begins c cs read
  word : c ≢ 32 → c ≢ 34 → c ≢ 63 → is_taken_alone c ≡ false → read ≡ word_item (first_word (c ∷ cs)) c cs → IsItem begins c cs read

same_item : {a b : Item} → Some a ≡ Some b → b ≡ a
same_item e = cc

at_space : (begins : Bool) (c : ℕ) (cs : List ℕ) → c ≡ 32 → first_item begins (c ∷ cs) ≡ Some (record { bytes = []; rest = cs; begins = begins })
at_space begins c cs is = grind (arith, common_steps)

pub at_string : (begins : Bool) (c : ℕ) (cs : List ℕ) → c ≡ 34
    → first_item begins (c ∷ cs) ≡ Some (record { bytes = 34 ∷ take (string_length cs) cs; rest = drop (string_length cs) cs; begins = false })
at_string begins c cs is = ap (λ d. first_item begins (d ∷ cs)) is

pub at_question : (c : ℕ) (cs : List ℕ) → c ≡ 63 → first_item true (c ∷ cs) ≡ Some (record { bytes = 0xba ∷ []; rest = cs; begins = false })
at_question c cs is = ap (λ d. first_item true (d ∷ cs)) is

at_no_question : (c : ℕ) (cs : List ℕ) → c ≡ 63 → first_item false (c ∷ cs) ≡ None
at_no_question c cs is = ap (λ d. first_item false (d ∷ cs)) is

pub at_alone : (begins : Bool) (c : ℕ) (cs : List ℕ) → c ≢ 32 → c ≢ 34 → c ≢ 63 → is_taken_alone c ≡ true
    → first_item begins (c ∷ cs) ≡ Some (record { bytes = c ∷ []; rest = cs; begins = c == 58 })
at_alone begins c cs a b d is = grind (arith, common_steps)

pub at_word : (begins : Bool) (c : ℕ) (cs : List ℕ) → c ≢ 32 → c ≢ 34 → c ≢ 63 → is_taken_alone c ≡ false
    → first_item begins (c ∷ cs) ≡ Some (word_item (first_word (c ∷ cs)) c cs)
at_word begins c cs a b d is = grind (arith, common_steps)

pub space_read : (begins : Bool) (c : ℕ) (cs : List ℕ) (read : Item) → c ≡ 32 → first_item begins (c ∷ cs) ≡ Some read
    → read ≡ record { bytes = []; rest = cs; begins = begins }
space_read begins c cs read is e = same_item (sym (at_space begins c cs is) ∙ e)

tested : (b : Bool) → (b ≡ true) ⊎ (b ≡ false)
tested true = inl refl
tested false = inr refl

item_at_question : (begins : Bool) (c : ℕ) (cs : List ℕ) (read : Item) → c ≡ 63 → first_item begins (c ∷ cs) ≡ Some read → IsItem begins c cs read
item_at_question true c cs read is e = question is refl (same_item (sym (at_question c cs is) ∙ e))
item_at_question false c cs read is e = absurd (let none : None ≡ Some read = sym (at_no_question c cs is) ∙ e in cc)

pub item_at : (begins : Bool) (c : ℕ) (cs : List ℕ) (read : Item) → first_item begins (c ∷ cs) ≡ Some read → IsItem begins c cs read
item_at begins c cs read e = elim (cases_eq c 32) [
  | inl is ↦ space is (same_item (sym (at_space begins c cs is) ∙ e))
  | inr a ↦ elim (cases_eq c 34) [
    | inl is ↦ string is (same_item (sym (at_string begins c cs is) ∙ e))
    | inr b ↦ elim (cases_eq c 63) [
      | inl is ↦ item_at_question begins c cs read is e
      | inr d ↦ elim (tested (is_taken_alone c)) [
        | inl is ↦ alone a b d is (same_item (sym (at_alone begins c cs a b d is) ∙ e))
        | inr is ↦ word a b d is (same_item (sym (at_word begins c cs a b d is) ∙ e))
      ]
    ]
  ]
]

-- ---- an item leaves less

space_less : (cs : List ℕ) → length (without_space cs) ≤ length cs
space_less [] = omega arith
space_less (c ∷ cs) = grind (arith, common_steps)

token_less : (token : ℕ) (rest : List ℕ) → length (token_item token rest).rest ≤ length rest
token_less token rest = elim (cases_eq token 0x32) [
  | inl is ↦ ap_length (ap (λ t. (token_item t rest).rest) is) (omega arith)
  | inr other ↦ elim (cases_eq token 0x03) [
    | inl is ↦ ap_length (ap (λ t. (token_item t rest).rest) is)
        (omega (arith, length-drop (data_length false (without_space rest)) (without_space rest), space_less rest))
    | inr other' ↦ ap_length (plain other other') (omega arith)
  ]
]
  where
    ap_length : {a b : List ℕ} {n : ℕ} → a ≡ b → length b ≤ n → length a ≤ n
    ap_length e less = omega (arith, ap length e, less)

    plain : token ≢ 0x32 → token ≢ 0x03 → (token_item token rest).rest ≡ rest
    plain other other' = grind (arith, common_steps)

word_less : (r : Option Found) (c : ℕ) (cs : List ℕ) → first_word (c ∷ cs) ≡ r → length (word_item r c cs).rest < length (c ∷ cs)
word_less None c cs is = omega arith
word_less (Some f) c cs is = omega (arith, token_less f.token f.rest, (found_in (c ∷ cs) f is).shorter)

less_of : (begins : Bool) (c : ℕ) (cs : List ℕ) (read : Item) → IsItem begins c cs read → length read.rest < length (c ∷ cs)
less_of begins c cs read (space is e) = omega (arith, ap (λ (r : Item). length r.rest) e)
less_of begins c cs read (string is e) = omega (arith, ap (λ (r : Item). length r.rest) e, length-drop (string_length cs) cs)
less_of begins c cs read (question is b e) = omega (arith, ap (λ (r : Item). length r.rest) e)
less_of begins c cs read (alone x y z is e) = omega (arith, ap (λ (r : Item). length r.rest) e)
less_of begins c cs read (word x y z is e) = omega (arith, ap (λ (r : Item). length r.rest) e, word_less (first_word (c ∷ cs)) c cs refl)

pub item_less : (begins : Bool) (codes : List ℕ) (read : Item) → first_item begins codes ≡ Some read → length read.rest < length codes
item_less begins [] read e = absurd (let none : None ≡ Some read = e in cc)
item_less begins (c ∷ cs) read e = less_of begins c cs read (item_at begins c cs read e)

-- ---- how far a line is read

-- the first item of a line that is read
pub read_on : (begins : Bool) (codes bytes : List ℕ) → IsScanned begins codes bytes → (read : Item) → first_item begins codes ≡ Some read
    → (more : List ℕ) × IsScanned read.begins read.rest more × (bytes ≡ read.bytes ++ more)
read_on begins codes bytes (nothing b) read e = absurd (let none : None ≡ Some read = e in cc)
read_on begins codes bytes (item b cs read' more is scanned) read e =
    let same : read' ≡ read = let both : Some read' ≡ Some read = sym is ∙ e in cc in
    (more, subst (λ (r : Item). IsScanned r.begins r.rest more) same scanned, ap (λ (r : Item). r.bytes ++ more) same)

pub not_read : (begins : Bool) (codes bytes : List ℕ) → codes ≢ [] → first_item begins codes ≡ None → IsScanned begins codes bytes → ⊥
not_read begins codes bytes some none (nothing b) = some refl
not_read begins codes bytes some none (item b cs read more is scanned) = let no' : None ≡ Some read = sym none ∙ is in cc

pub record SoFar (codes bytes rest : List ℕ) (begins : Bool) : Type 0 where
  pub taken : (more : List ℕ) → IsScanned begins rest more → IsScanned true codes (bytes ++ more)
  pub back : CanBeScanned true codes → CanBeScanned begins rest

pub at_start : (codes : List ℕ) → SoFar codes [] codes true
at_start codes = record { taken = λ more scanned. scanned; back = λ can. can }

pub step : (codes bytes rest : List ℕ) (begins : Bool) (read : Item) → SoFar codes bytes rest begins → first_item begins rest ≡ Some read
    → SoFar codes (bytes ++ read.bytes) read.rest read.begins
step codes bytes rest begins read so_far is = record {
  taken = λ more scanned. subst (IsScanned true codes) (sym (append_assoc bytes read.bytes more))
      (so_far.taken (read.bytes ++ more) (item begins rest read more is scanned));
  back = λ can. let could = so_far.back can in let on = read_on begins rest could.0 could.1 read is in (on.0, on.1);
}

pub at_end : (codes bytes rest : List ℕ) (begins : Bool) → SoFar codes bytes rest begins → rest ≡ [] → IsScanned true codes bytes
at_end codes bytes rest begins so_far none =
    subst (IsScanned true codes) (append-nil bytes) (so_far.taken [] (subst (λ r. IsScanned begins r []) (sym none) (nothing begins)))

pub not_scanned : (codes bytes rest : List ℕ) (begins : Bool) → SoFar codes bytes rest begins → rest ≢ [] → first_item begins rest ≡ None
    → ¬ CanBeScanned true codes
not_scanned codes bytes rest begins so_far some none can = let could = so_far.back can in not_read begins rest could.0 some none could.1

pub none_left : (begins : Bool) (codes b : List ℕ) → codes ≡ [] → IsScanned begins codes b → [] ≡ b
none_left begins codes b none (nothing c) = refl
none_left begins codes b none (item c cs read more is scanned) =
    absurd (let no' : None ≡ Some read = sym (ap (first_item c) none) ∙ is in cc)

-- characters are read in one way
pub one_way : (begins : Bool) (codes a b : List ℕ) → IsScanned begins codes a → IsScanned begins codes b → a ≡ b
one_way begins codes a b (nothing c) other = none_left begins [] b refl other
one_way begins codes a b (item c cs read more is scanned) other =
    let on = read_on begins codes b other read is in
    ap (λ m. read.bytes ++ m) (one_way read.begins read.rest more on.0 scanned on.1) ∙ sym on.2
