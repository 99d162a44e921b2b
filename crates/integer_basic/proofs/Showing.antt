-- The items of a body, one after another.
use Rattle.std.proofs.Common.{◌≡◌, ◌≢◌, ℕ, suc, ◌+◌, ◌<◌, ◌≤◌, ◌==◌, ◌||◌, Bool, true, false, cond, List, [], ◌∷◌, ◌++◌, Option, Some, None, length, drop, arith, refl, sym, ap, ◌∙◌, subst, append_assoc, append-nil, length-drop}
use Rattle.std.proofs.lemmas.Grind.{common_steps}
use Rattle.apple_text.specs.Shown.{Text}
use Rattle.integer_basic.specs.Items.{CanBeShown, IsShown, Item, end_of_string, first_item, is_digit, is_letter, item, length_of_name, name_item, nothing, number_item, remark_text, string_item, word_item}
use Rattle.integer_basic.specs.Reading.{IsPut}
use Rattle.integer_basic.specs.Words.{word_text}

-- ---- an item leaves less

same_rest : {a b : Item} → Some a ≡ Some b → length b.rest ≡ length a.rest
same_rest {a} {b} e = let same : b ≡ a = cc in ap (λ (r : Item). length r.rest) same

string_less : (end : Option ℕ) (bytes : List ℕ) (read : Item) → string_item end bytes ≡ Some read → length read.rest ≤ length bytes
string_less None bytes read e = absurd (let none : None ≡ Some read = e in cc)
string_less (Some end) bytes read e = omega (arith, same_rest e, length-drop (suc end) bytes)

number_less : (bytes : List ℕ) (read : Item) → number_item bytes ≡ Some read → length read.rest ≤ length bytes
number_less [] read e = absurd (let none : None ≡ Some read = e in cc)
number_less (a ∷ []) read e = absurd (let none : None ≡ Some read = e in cc)
number_less (a ∷ b ∷ bytes) read e = omega (arith, same_rest e)

word_less : (word : Text) (bytes : List ℕ) (read : Item) → word_item word bytes ≡ Some read → length read.rest ≤ length bytes
word_less [] bytes read e = absurd (let none : None ≡ Some read = e in cc)
word_less (c ∷ cs) bytes read e = omega (arith, same_rest e)

-- a name that begins with a letter leaves less
name_less : (byte : ℕ) (bytes : List ℕ) → is_letter byte ≡ true → length (name_item (byte ∷ bytes)).rest ≤ length bytes
name_less byte bytes is = by (is_letter byte) is
  where
    by : (letter : Bool) → letter ≡ true
        → length (drop (cond (letter || is_digit byte) (1 + length_of_name bytes) 0) (byte ∷ bytes)) ≤ length bytes
    by true is = omega (arith, length-drop (1 + length_of_name bytes) (byte ∷ bytes))
    by false is = absurd (let no' : false ≡ true = is in cc)

module _ (byte : ℕ) (bytes : List ℕ) (read : Item) where
  less_by : (string remark digit letter : Bool) → is_letter byte ≡ letter
      → cond string (string_item (end_of_string bytes) bytes)
      (cond remark (Some (record { text = remark_text bytes; rest = [] }))
      (cond digit (number_item bytes) (cond letter (Some (name_item (byte ∷ bytes))) (word_item (word_text byte) bytes)))) ≡ Some read
      → length read.rest ≤ length bytes
  less_by true remark digit letter is e = string_less (end_of_string bytes) bytes read e
  less_by false true digit letter is e = omega (arith, same_rest e)
  less_by false false true letter is e = number_less bytes read e
  less_by false false false true is e = omega (arith, same_rest e, name_less byte bytes is)
  less_by false false false false is e = word_less (word_text byte) bytes read e

pub item_less : (body : List ℕ) (read : Item) → first_item body ≡ Some read → length read.rest < length body
item_less [] read e = absurd (let none : None ≡ Some read = e in cc)
item_less (byte ∷ bytes) read e =
    omega (arith, less_by byte bytes read (byte == 0x28) (byte == 0x5d) (is_digit byte) (is_letter byte) refl e)

-- ---- a body is shown in one way

pub read_on : (body : List ℕ) (text : Text) → IsShown body text → (read : Item) → first_item body ≡ Some read
    → (more : Text) × IsShown read.rest more × (text ≡ read.text ++ more)
read_on body text nothing read e = absurd (let none : None ≡ Some read = e in cc)
read_on body text (item bytes read' more is shown) read e =
    let same : read' ≡ read = let both : Some read' ≡ Some read = sym is ∙ e in cc in
    (more, subst (λ (r : Item). IsShown r.rest more) same shown, ap (λ (r : Item). r.text ++ more) same)

not_read : (body : List ℕ) (text : Text) → body ≢ [] → first_item body ≡ None → IsShown body text → ⊥
not_read body text some none nothing = some refl
not_read body text some none (item bytes read more is shown) = let no' : None ≡ Some read = sym none ∙ is in cc

no_text : (body : List ℕ) (text : Text) → body ≡ [] → IsShown body text → [] ≡ text
no_text body text none nothing = refl
no_text body text none (item bytes read more is shown) =
    absurd (let no' : None ≡ Some read = sym (ap first_item none) ∙ is in cc)

pub one_way : (body : List ℕ) (a b : Text) → IsShown body a → IsShown body b → a ≡ b
one_way body a b nothing other = no_text [] b refl other
one_way body a b (item bytes read more is shown) other =
    let on = read_on bytes b other read is in
    ap (λ m. read.text ++ m) (one_way read.rest more on.0 shown on.1) ∙ sym on.2

-- ---- how far a body is shown

pub record SoFar (before : Text) (body : List ℕ) (text : Text) (rest : List ℕ) : Type 0 where
  pub front : Text
  pub text_is : text ≡ before ++ front
  pub taken : (more : Text) → IsShown rest more → IsShown body (front ++ more)
  pub back : CanBeShown body → CanBeShown rest

pub at_start : (before : Text) (body : List ℕ) → SoFar before body before body
at_start before body = record {
  front = [];
  text_is = sym (append-nil before);
  taken = λ more shown. shown;
  back = λ can. can;
}

pub step : (before : Text) (body : List ℕ) (text : Text) (rest : List ℕ) (read : Item) → SoFar before body text rest → first_item rest ≡ Some read
    → SoFar before body (text ++ read.text) read.rest
step before body text rest read so_far is = record {
  front = so_far.front ++ read.text;
  text_is = ap (λ t. t ++ read.text) so_far.text_is ∙ append_assoc before so_far.front read.text;
  taken = λ more shown. subst (IsShown body) (sym (append_assoc so_far.front read.text more))
      (so_far.taken (read.text ++ more) (item rest read more is shown));
  back = λ can. let could = so_far.back can in let on = read_on rest could.0 could.1 read is in (on.0, on.1);
}

pub at_end : (before : Text) (body : List ℕ) (text : Text) (rest : List ℕ) → SoFar before body text rest → rest ≡ [] → IsPut before body text
at_end before body text rest so_far none = record {
  text = so_far.front;
  shown = subst (IsShown body) (append-nil so_far.front) (so_far.taken [] (subst (λ r. IsShown r []) (sym none) nothing));
  after_is = so_far.text_is;
}

pub not_shown : (before : Text) (body : List ℕ) (text : Text) (rest : List ℕ) → SoFar before body text rest → rest ≢ [] → first_item rest ≡ None
    → ¬ CanBeShown body
not_shown before body text rest so_far some none can =
    let could = so_far.back can in not_read rest could.0 some none could.1

-- what a test for an empty list answers
pub none_left : (rest : List ℕ) (test : Bool) → test ≡ (length rest == 0) → test ≡ true → rest ≡ []
none_left [] test is yes' = refl
none_left (c ∷ cs) test is yes' = grind (arith, common_steps)

pub some_left : (rest : List ℕ) (test : Bool) → test ≡ (length rest == 0) → test ≡ false → rest ≢ []
some_left [] test is no' = grind (arith, common_steps)
some_left (c ∷ cs) test is no' = λ e. cc
