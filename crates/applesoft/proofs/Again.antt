-- A listing is scanned as what was scanned.
use Rattle.std.proofs.Common.{◌≡◌, ◌≢◌, ◌⊎◌, ℕ, suc, ◌+◌, ◌<◌, ◌==◌, Bool, true, false, not, cond, List, [], ◌∷◌, ◌++◌, Option, Some, None, All, take, drop, arith, refl, sym, ap, ◌∙◌, subst, inl, inr, append_assoc, append-nil, codes}
use Rattle.std.specs.Option.{option_and_then}
use Rattle.std.specs.Char.{to_ascii_uppercase}
use Rattle.std.proofs.lemmas.Grind.{common_steps}
use Rattle.std.proofs.lemmas.Bool.{cases_eq}
use Rattle.std.proofs.lemmas.List.{take-append-drop}
use Rattle.std.proofs.lemmas.List.Elements.{All-append, All-cons, All-nil, All-head, All-tail, All-take, All-drop, All-weaker}
use Rattle.apple_text.specs.Shown.{Text}
use Rattle.applesoft.specs.Words.{word_of, words}
use Rattle.applesoft.specs.Scan.{Found, IsScanned, Item, begins_with_n_or_o, behind_word, data_length, first_item, first_word, is_taken_alone, item, nothing, standing, string_length, token_item, without_space, word_item}
use Rattle.applesoft.specs.Program.{IsCode}
use Rattle.applesoft.specs.Tokens.{IsAllowed}
use Rattle.applesoft.specs.Reading.{found}
use Rattle.applesoft.proofs.Standing.{first_of, is_first, is_none, none_of, refused, standing_is, stands_before_space}
use Rattle.applesoft.proofs.Scanning.{IsItem, alone, at_alone, at_string, at_word, item_at, none_left, question, read_on, space, space_read, string, word}
use Rattle.applesoft.proofs.Table.{AreLetters, first_letter, is_word, later_letters, none_before_print, only_atn, only_to, upper_letter}
use Rattle.applesoft.proofs.Squeezed.{at_other, at_space, letter_hit, squeezed, squeezed-append, squeezed_word, word_all, word_squeezed}
use Rattle.applesoft.proofs.Ahead.{Ahead, ahead_of, ahead_of_ends, character_listed, characters_listed, ends_colon, ends_then, letters_squeezed, listed, now, same, stood, token_listed}

-- ---- words

word_there : (w t : Text) → AreLetters w → behind_word w (w ++ t) ≡ Some t
word_there [] t are = refl
word_there (c ∷ w) t are =
    let letter = first_letter c w are in
    ap (option_and_then (behind_word w)) (letter_hit c c (w ++ t) (λ e. omega (arith, letter.more, e)) (upper_letter c letter))
    ∙ word_there w t (later_letters c w are)

-- what was found at some characters
pub record WasFound (codes : List ℕ) (f : Found) : Type 0 where
  pub small : f.token < 107
  pub squeezed_is : squeezed codes ≡ word_of f.token ++ squeezed f.rest
  pub behind : behind_word (word_of f.token) codes ≡ Some f.rest
  pub earlier : (k : ℕ) → k < f.token → standing k (behind_word (word_of k) codes) ≡ None

pub was_found : (codes : List ℕ) (f : Found) → first_word codes ≡ Some f → WasFound codes f
unfolding first_word
was_found codes f e =
    let first = first_of 0 words codes f e in
    let place : first.place ≡ f.token = omega (arith, first.token_is) in
    let stands = standing_is (0 + first.place) (word_of first.place) codes f first.stands in
    let behind : behind_word (word_of f.token) codes ≡ Some f.rest = subst (λ k. behind_word (word_of k) codes ≡ Some f.rest) place stands.1 in
    record {
      small = omega (arith, first.within, place);
      squeezed_is = word_squeezed (word_of f.token) codes f.rest behind;
      behind = behind;
      earlier = λ k less.
          let moved : 0 + k ≡ k = omega arith in
          subst (λ t. standing t (behind_word (word_of k) codes) ≡ None) moved (first.earlier k (omega (arith, less, place)));
    }

-- a word is found again where none before it stands
found_where : (k : ℕ) (rest : List ℕ) → k < 107
    → ((j : ℕ) → j < k → (g : Found) → standing j (behind_word (word_of j) (word_of k ++ 32 ∷ rest)) ≡ Some g → ⊥)
    → first_word (word_of k ++ 32 ∷ rest) ≡ Some (found k (32 ∷ rest))
unfolding first_word
found_where k rest within none = is_first 0 words (word_of k ++ 32 ∷ rest) (found k (32 ∷ rest)) (record {
  place = k;
  token_is = omega arith;
  within = omega (arith, within);
  stands =
      let moved : k ≡ 0 + k = omega arith in
      subst (λ t. standing t (behind_word (word_of k) (word_of k ++ 32 ∷ rest)) ≡ Some (found k (32 ∷ rest))) moved
      (ap (standing k) (word_there (word_of k) (32 ∷ rest) (is_word k within).letters) ∙ stands_before_space k rest);
  earlier = λ j less. not_some (standing (0 + j) (behind_word (word_of j) (word_of k ++ 32 ∷ rest))) (λ g e.
      let moved : 0 + j ≡ j = omega arith in
      none j less g (subst (λ t. standing t (behind_word (word_of j) (word_of k ++ 32 ∷ rest)) ≡ Some g) moved e));
})
  where
    not_some : (r : Option Found) → ((g : Found) → r ≡ Some g → ⊥) → r ≡ None
    not_some None no' = refl
    not_some (Some g) no' = absurd (no' g refl)

-- where a word stands in a listing, it stood before, and was refused only as AT before N or O
was_refused : (j : ℕ) (begins : Bool) (old listing : List ℕ) (g : Found) → j < 107 → Ahead begins (squeezed old) (squeezed listing)
    → ((u' : List ℕ) → squeezed old ≡ 63 ∷ u' → ⊥) → standing j (behind_word (word_of j) listing) ≡ Some g → standing j (behind_word (word_of j) old) ≡ None
    → (j ≡ 0x45) × (rest : List ℕ) × (behind_word (word_of j) old ≡ Some rest) × (begins_with_n_or_o rest ≡ true)
was_refused j begins old listing g within ahead other stands none =
    let is = standing_is j (word_of j) listing g stands in
    let before = stood j begins (squeezed old) (squeezed listing) (squeezed g.rest) within ahead other (word_squeezed (word_of j) listing g.rest is.1) in
    let there = squeezed_word (word_of j) old before.0 before.1 in
    let why = refused j there.0 (ap (standing j) (sym there.1) ∙ none) in
    (why.0, there.0, there.1, why.1)

at_before_n : (j k : ℕ) (rest : List ℕ) (g : Found) → j ≡ 0x45 → k ≡ 0x61 → standing j (behind_word (word_of j) (word_of k ++ 32 ∷ rest)) ≡ Some g → ⊥
at_before_n j k rest g is is' e =
    let none : standing 0x45 (behind_word (word_of 0x45) (word_of 0x61 ++ 32 ∷ rest)) ≡ None = refl in
    let some : standing 0x45 (behind_word (word_of 0x45) (word_of 0x61 ++ 32 ∷ rest)) ≡ Some g
    = subst (λ t. standing t (behind_word (word_of t) (word_of 0x61 ++ 32 ∷ rest)) ≡ Some g) is
    (subst (λ t. standing j (behind_word (word_of j) (word_of t ++ 32 ∷ rest)) ≡ Some g) is' e) in
    let no' : None ≡ Some g = sym none ∙ some in cc

-- a token is found again in what it is listed as
pub found_again : (old : List ℕ) (f : Found) (more : List ℕ) → first_word old ≡ Some f → ((u' : List ℕ) → squeezed old ≡ 63 ∷ u' → ⊥)
    → Ahead false (squeezed old) (squeezed (word_of f.token ++ 32 ∷ more))
    → first_word (word_of f.token ++ 32 ∷ more) ≡ Some (found f.token (32 ∷ more))
found_again old f more e other ahead =
    let was = was_found old f e in
    found_where f.token more was.small (λ j less g stands.
    let why = was_refused j false old (word_of f.token ++ 32 ∷ more) g (omega (arith, less, was.small)) ahead other stands (was.earlier j less) in
    let first : squeezed old ≡ word_of j ++ squeezed why.1 = word_squeezed (word_of j) old why.1 why.2 in
    let as_at : word_of f.token ++ squeezed f.rest ≡ word_of 0x45 ++ squeezed why.1
    = sym was.squeezed_is ∙ first ∙ ap (λ t. word_of t ++ squeezed why.1) why.0 in
    at_before_n j f.token more g why.0
    (only_atn f.token (squeezed f.rest) (squeezed why.1) (omega (arith, less, why.0)) was.small as_at) stands)

-- and so is PRINT
pub print_again : (more : List ℕ) → first_word (word_of 0x3a ++ 32 ∷ more) ≡ Some (found 0x3a (32 ∷ more))
print_again more = found_where 0x3a more (omega arith) (λ j less g stands.
    let is = standing_is j (word_of j) (word_of 0x3a ++ 32 ∷ more) g stands in
    let begins : squeezed (word_of 0x3a ++ 32 ∷ more) ≡ word_of j ++ squeezed g.rest = word_squeezed (word_of j) (word_of 0x3a ++ 32 ∷ more) g.rest is.1 in
    none_before_print j (squeezed g.rest) (squeezed more) less (sym begins))

-- ---- a character that begins no word

none_at : (codes : List ℕ) → first_word codes ≡ None → (k : ℕ) → k < 107 → standing k (behind_word (word_of k) codes) ≡ None
unfolding first_word
none_at codes e k within =
    let moved : 0 + k ≡ k = omega arith in
    subst (λ t. standing t (behind_word (word_of k) codes) ≡ None) moved (none_of 0 words codes e k (omega (arith, within)))

none_where : (codes : List ℕ) → ((k : ℕ) → k < 107 → (g : Found) → standing k (behind_word (word_of k) codes) ≡ Some g → ⊥) → first_word codes ≡ None
unfolding first_word
none_where codes none = is_none 0 words codes (λ k within. not_some (standing (0 + k) (behind_word (word_of k) codes)) (λ g e.
    let moved : 0 + k ≡ k = omega arith in
    none k (omega (arith, within)) g (subst (λ t. standing t (behind_word (word_of k) codes) ≡ Some g) moved e)))
  where
    not_some : (r : Option Found) → ((g : Found) → r ≡ Some g → ⊥) → r ≡ None
    not_some None no' = refl
    not_some (Some g) no' = absurd (no' g refl)

-- the very next character, where it is N or O
n_or_o : (rest : List ℕ) → begins_with_n_or_o rest ≡ true
    → (n : ℕ) × (more : List ℕ) × (rest ≡ n ∷ more) × ((to_ascii_uppercase n ≡ 78) ⊎ (to_ascii_uppercase n ≡ 79))
n_or_o [] e = absurd (let no' : false ≡ true = e in cc)
n_or_o (n ∷ more) e = (
  n,
  more,
  refl,
  elim (cases_eq (to_ascii_uppercase n) 78) [
    | inl is ↦ inl is
    | inr other ↦ inr (grind (arith, common_steps))
  ],
)

no_space : (n : ℕ) → (to_ascii_uppercase n ≡ 78) ⊎ (to_ascii_uppercase n ≡ 79) → n ≢ 32
no_space n which is = elim which [
  | inl e ↦ let up : to_ascii_uppercase n ≡ 32 = ap to_ascii_uppercase is in omega (arith, e, up)
  | inr e ↦ let up : to_ascii_uppercase n ≡ 32 = ap to_ascii_uppercase is in omega (arith, e, up)
]

-- where N comes behind AT, ATN stands
atn_stands : (codes rest more : List ℕ) (n : ℕ) → behind_word (word_of 0x45) codes ≡ Some rest → rest ≡ n ∷ more → to_ascii_uppercase n ≡ 78
    → first_word codes ≡ None → ⊥
atn_stands codes rest more n behind is up none =
    let tail : squeezed rest ≡ 78 ∷ squeezed more = ap squeezed is ∙ at_other n more (no_space n (inl up)) ∙ ap (λ c. c ∷ squeezed more) up in
    let whole : squeezed codes ≡ word_of 0x61 ++ squeezed more = word_squeezed (word_of 0x45) codes rest behind ∙ ap (λ s. word_of 0x45 ++ s) tail in
    let there = squeezed_word (word_of 0x61) codes (squeezed more) whole in
    let refused' : standing 0x61 (Some there.0) ≡ None = ap (standing 0x61) (sym there.1) ∙ none_at codes none 0x61 (omega arith) in
    let stands : standing 0x61 (Some there.0) ≡ Some (found 0x61 there.0) = refl in
    let no' : None ≡ Some (found 0x61 there.0) = sym refused' ∙ stands in cc

-- where TO stands, TO is found
to_found : (codes more : List ℕ) (r : Option Found) → squeezed codes ≡ word_of 0x41 ++ squeezed more → first_word codes ≡ r
    → (f : Found) × (r ≡ Some f) × (f.token ≡ 0x41)
to_found codes more None whole e =
    let there = squeezed_word (word_of 0x41) codes (squeezed more) whole in
    let refused' : standing 0x41 (Some there.0) ≡ None = ap (standing 0x41) (sym there.1) ∙ none_at codes e 0x41 (omega arith) in
    let stands : standing 0x41 (Some there.0) ≡ Some (found 0x41 there.0) = refl in
    absurd (let no' : None ≡ Some (found 0x41 there.0) = sym refused' ∙ stands in cc)
to_found codes more (Some f) whole e =
    let was = was_found codes f e in
    (f, refl, only_to f.token (squeezed f.rest) (squeezed more) was.small (sym was.squeezed_is ∙ whole))

to_bytes : (token : ℕ) (rest : List ℕ) → token ≡ 0x41 → (token_item token rest).bytes ≡ 0xc1 ∷ []
to_bytes token rest is = ap (λ t. (token_item t rest).bytes) is

-- no T stands there
not_t : (c : ℕ) (cs rest : List ℕ) → c ≢ 32 → squeezed (c ∷ cs) ≡ word_of 0x41 ++ squeezed rest → to_ascii_uppercase c ≢ 84 → ⊥
not_t c cs rest other whole differs =
    let both : to_ascii_uppercase c ∷ squeezed cs ≡ 84 ∷ 79 ∷ squeezed rest = sym (at_other c cs other) ∙ whole in
    differs cc

not_alone : (c : ℕ) → is_taken_alone c ≡ true → to_ascii_uppercase c ≢ 84
not_alone c is up = grind (arith, common_steps)

-- the bytes that are read where TO stands
to_item : (begins : Bool) (c : ℕ) (cs rest : List ℕ) (read : Item) → IsItem begins c cs read → c ≢ 32 → squeezed (c ∷ cs) ≡ word_of 0x41 ++ squeezed rest
    → read.bytes ≡ 0xc1 ∷ []
to_item begins c cs rest read (space is e) other whole = absurd (other is)
to_item begins c cs rest read (string is e) other whole = absurd (not_t c cs rest other whole (λ up. omega (arith, ap to_ascii_uppercase is, up)))
to_item begins c cs rest read (question is b e) other whole = absurd (not_t c cs rest other whole (λ up. omega (arith, ap to_ascii_uppercase is, up)))
to_item begins c cs rest read (alone a b d is e) other whole = absurd (not_t c cs rest other whole (not_alone c is))
to_item begins c cs rest read (word a b d is e) other whole =
    let f = to_found (c ∷ cs) rest (first_word (c ∷ cs)) whole refl in
    ap (λ (r : Item). r.bytes) e ∙ ap (λ r. (word_item r c cs).bytes) f.1 ∙ to_bytes f.0.token f.0.rest f.2

to_first : (begins : Bool) (codes bytes rest : List ℕ) → IsScanned begins codes bytes → squeezed codes ≡ word_of 0x41 ++ squeezed rest
    → (more : List ℕ) × (bytes ≡ 0xc1 ∷ more)
to_first begins codes bytes rest (nothing b) whole = absurd (let no' : [] ≡ 84 ∷ 79 ∷ squeezed rest = whole in cc)
to_first begins codes bytes rest (item b [] read more is scanned) whole = absurd (let no' : None ≡ Some read = is in cc)
to_first begins codes bytes rest (item b (c ∷ cs) read more is scanned) whole = elim (cases_eq c 32) [
  | inl space' ↦
      let passed = space_read b c cs read space' is in
      let later = to_first read.begins read.rest more rest scanned (ap (λ (r : Item). squeezed r.rest) passed ∙ sym (at_space c cs space') ∙ whole) in
      (later.0, ap (λ (r : Item). r.bytes ++ more) passed ∙ later.1)
  | inr other ↦ (more, ap (λ b. b ++ more) (to_item b c cs rest read (item_at b c cs read is) other whole))
]

at_before_o : (k : ℕ) (c : ℕ) (bytes more : List ℕ) (g : Found) → k ≡ 0x45 → to_ascii_uppercase c ≡ 65 → bytes ≡ 0xc1 ∷ more
    → standing k (behind_word (word_of k) (to_ascii_uppercase c ∷ listed bytes)) ≡ Some g → ⊥
at_before_o k c bytes more g is up listed_is e =
    let none : standing 0x45 (behind_word (word_of 0x45) (65 ∷ listed (0xc1 ∷ more))) ≡ None = refl in
    let whole : to_ascii_uppercase c ∷ listed bytes ≡ 65 ∷ listed (0xc1 ∷ more) = ap (λ d. d ∷ listed bytes) up ∙ ap (λ b. 65 ∷ listed b) listed_is in
    let some : standing 0x45 (behind_word (word_of 0x45) (65 ∷ listed (0xc1 ∷ more))) ≡ Some g
    = subst (λ s. standing 0x45 (behind_word (word_of 0x45) s) ≡ Some g) whole
    (subst (λ t. standing t (behind_word (word_of t) (to_ascii_uppercase c ∷ listed bytes)) ≡ Some g) is e) in
    let no' : None ≡ Some g = sym none ∙ some in cc

-- a character that began no word begins none in the listing
pub none_again : (c : ℕ) (cs more : List ℕ) → c ≢ 32 → ((u' : List ℕ) → squeezed (c ∷ cs) ≡ 63 ∷ u' → ⊥) → first_word (c ∷ cs) ≡ None → IsScanned false cs more
    → Ahead false (squeezed (c ∷ cs)) (squeezed (to_ascii_uppercase c ∷ listed more)) → first_word (to_ascii_uppercase c ∷ listed more) ≡ None
none_again c cs more other unmarked none scanned ahead = none_where (to_ascii_uppercase c ∷ listed more) (λ k within g stands.
    let why = was_refused k false (c ∷ cs) (to_ascii_uppercase c ∷ listed more) g within ahead unmarked stands (none_at (c ∷ cs) none k within) in
    let behind : behind_word (word_of 0x45) (c ∷ cs) ≡ Some why.1 = subst (λ t. behind_word (word_of t) (c ∷ cs) ≡ Some why.1) why.0 why.2 in
    let next = n_or_o why.1 why.3 in
    elim next.3 [
      | inl n ↦ atn_stands (c ∷ cs) why.1 next.1 next.0 behind next.2 n none
      | inr o ↦
          let tail : squeezed why.1 ≡ 79 ∷ squeezed next.1
          = ap squeezed next.2 ∙ at_other next.0 next.1 (no_space next.0 (inr o)) ∙ ap (λ d. d ∷ squeezed next.1) o in
          let whole : to_ascii_uppercase c ∷ squeezed cs ≡ 65 ∷ 84 ∷ 79 ∷ squeezed next.1
          = sym (at_other c cs other) ∙ word_squeezed (word_of 0x45) (c ∷ cs) why.1 behind ∙ ap (λ s. word_of 0x45 ++ s) tail in
          let up : to_ascii_uppercase c ≡ 65 = cc in
          let rest : squeezed cs ≡ 84 ∷ 79 ∷ squeezed next.1 = cc in
          let to = to_first false cs more next.1 scanned rest in
          at_before_o k c more to.0 g why.0 up to.1 stands
    ])

-- ---- strings and DATA

string_at_end : (c : ℕ) (cs : List ℕ) → c ≡ 34 → string_length (c ∷ cs) ≡ 1
string_at_end c cs is = ap (λ d. cond (d == 34) 1 (suc (string_length cs))) is

string_within : (c : ℕ) (cs : List ℕ) → c ≢ 34 → string_length (c ∷ cs) ≡ suc (string_length cs)
string_within c cs other = grind (arith, common_steps)

-- a string that is cut out and put before something else is cut out again
record IsCut (n : ℕ) (front t : List ℕ) : Type 0 where
  pub front_is : take n (front ++ t) ≡ front
  pub rest_is : drop n (front ++ t) ≡ t

cut_more : (c n m : ℕ) (front t : List ℕ) → m ≡ suc n → IsCut n front t → IsCut m (c ∷ front) t
cut_more c n m front t is cut = record {
  front_is = ap (λ k. take k (c ∷ (front ++ t))) is ∙ ap (λ s. c ∷ s) cut.front_is;
  rest_is = ap (λ k. drop k (c ∷ (front ++ t))) is ∙ cut.rest_is;
}

string_cut : (cs t : List ℕ) → (drop (string_length cs) cs ≡ [] → t ≡ []) → IsCut (string_length (take (string_length cs) cs ++ t)) (take (string_length cs) cs) t
string_cut [] t ends =
    let none = ends refl in
    subst (λ t. IsCut (string_length t) [] t) (sym none) (record { front_is = refl; rest_is = refl })
string_cut (c ∷ cs) t ends = elim (cases_eq c 34) [
  | inl is ↦
      subst (λ n. IsCut (string_length (take n (c ∷ cs) ++ t)) (take n (c ∷ cs)) t) (sym (string_at_end c cs is))
      (record { front_is = ap (λ n. take n (c ∷ t)) (string_at_end c t is); rest_is = ap (λ n. drop n (c ∷ t)) (string_at_end c t is) })
  | inr other ↦
      let n = string_length cs in
      let later = string_cut cs t (λ e. ends (ap (λ m. drop m (c ∷ cs)) (string_within c cs other) ∙ e)) in
      subst (λ m. IsCut (string_length (take m (c ∷ cs) ++ t)) (take m (c ∷ cs)) t) (sym (string_within c cs other))
      (cut_more c (string_length (take (string_length cs) cs ++ t)) (string_length (c ∷ (take (string_length cs) cs ++ t))) (take (string_length cs) cs) t
      (string_within c (take (string_length cs) cs ++ t) other) later)
]

data_at_end : (q : Bool) (c : ℕ) (cs : List ℕ) → c ≡ 58 → q ≡ false → data_length q (c ∷ cs) ≡ 0
data_at_end q c cs is is' = grind (arith, common_steps)

quoted_next : Bool → ℕ → Bool
quoted_next q c = cond (c == 34) (not q) q

data_within : (q : Bool) (c : ℕ) (cs : List ℕ) → (c ≢ 58) ⊎ (q ≡ true) → data_length q (c ∷ cs) ≡ suc (data_length (quoted_next q c) cs)
unfolding quoted_next
data_within true c cs which = grind (arith, common_steps)
data_within false c cs (inl other) = grind (arith, common_steps)
data_within false c cs (inr e) = absurd (let no' : false ≡ true = e in cc)

data_ends : (q : Bool) (c : ℕ) → ((c ≡ 58) × (q ≡ false)) ⊎ ((c ≢ 58) ⊎ (q ≡ true))
data_ends true c = inr (inr refl)
data_ends false c = elim (cases_eq c 58) [
  | inl is ↦ inl (is, refl)
  | inr other ↦ inr (inl other)
]

data_cut : (q : Bool) (cs t : List ℕ) → (drop (data_length q cs) cs ≡ [] → t ≡ []) → (t ≡ []) ⊎ ((t' : List ℕ) × (t ≡ 58 ∷ t'))
    → IsCut (data_length q (take (data_length q cs) cs ++ t)) (take (data_length q cs) cs) t
data_cut q [] t ends which =
    let none = ends refl in
    subst (λ t. IsCut (data_length q t) [] t) (sym none) (record { front_is = refl; rest_is = refl })
data_cut q (c ∷ cs) t ends which = elim (data_ends q c) [
  | inl (is, is') ↦
      subst (λ n. IsCut (data_length q (take n (c ∷ cs) ++ t)) (take n (c ∷ cs)) t) (sym (data_at_end q c cs is is')) (none_cut q t is' which)
  | inr within ↦
      let later = data_cut (quoted_next q c) cs t (λ e. ends (ap (λ m. drop m (c ∷ cs)) (data_within q c cs within) ∙ e)) which in
      subst (λ m. IsCut (data_length q (take m (c ∷ cs) ++ t)) (take m (c ∷ cs)) t) (sym (data_within q c cs within))
      (cut_more c (data_length (quoted_next q c) (take (data_length (quoted_next q c) cs) cs ++ t))
      (data_length q (c ∷ (take (data_length (quoted_next q c) cs) cs ++ t))) (take (data_length (quoted_next q c) cs) cs) t
      (data_within q c (take (data_length (quoted_next q c) cs) cs ++ t) within) later)
]
  where
    none_cut : (q : Bool) (t : List ℕ) → q ≡ false → (t ≡ []) ⊎ ((t' : List ℕ) × (t ≡ 58 ∷ t')) → IsCut (data_length q t) [] t
    none_cut q t is' (inl e) = subst (λ t. IsCut (data_length q t) [] t) (sym e) (record { front_is = refl; rest_is = refl })
    none_cut q t is' (inr (t', e)) =
        subst (λ t. IsCut (data_length q t) [] t) (sym e)
        (subst (λ n. IsCut n [] (58 ∷ t')) (sym (data_at_end q 58 t' refl is')) (record { front_is = refl; rest_is = refl }))

-- what is left of a DATA begins with a colon
data_rest : (q : Bool) (cs : List ℕ) → (drop (data_length q cs) cs ≡ []) ⊎ ((rest : List ℕ) × (drop (data_length q cs) cs ≡ 58 ∷ rest))
data_rest q [] = inl refl
data_rest q (c ∷ cs) = elim (data_ends q c) [
  | inl (is, is') ↦ inr (cs, ap (λ n. drop n (c ∷ cs)) (data_at_end q c cs is is') ∙ ap (λ d. d ∷ cs) is)
  | inr within ↦
      let e : drop (data_length q (c ∷ cs)) (c ∷ cs) ≡ drop (data_length (quoted_next q c) cs) cs = ap (λ n. drop n (c ∷ cs)) (data_within q c cs within) in
      elim (data_rest (quoted_next q c) cs) [
        | inl none ↦ inl (e ∙ none)
        | inr (rest, some) ↦ inr (rest, e ∙ some)
      ]
]

-- ---- the whole

-- the listing goes on as what was there, and is read as the same bytes
pub record IsAgain (begins : Bool) (codes bytes : List ℕ) : Type 0 where
  pub ahead : Ahead begins (squeezed codes) (squeezed (listed bytes))
  pub scanned : IsScanned begins (listed bytes) bytes

-- one more item
Adds : (begins : Bool) (codes : List ℕ) (read : Item) (more : List ℕ) → Type 0
Adds begins codes read more = IsScanned read.begins read.rest more → IsAgain read.begins read.rest more → IsAgain begins codes (read.bytes ++ more)

adds_space : (begins : Bool) (c : ℕ) (cs more : List ℕ) → c ≡ 32 → Adds begins (c ∷ cs) (record { bytes = []; rest = cs; begins = begins }) more
unfolding Adds
adds_space begins c cs more is scanned again = record {
  ahead = subst (λ s. Ahead begins s (squeezed (listed more))) (sym (at_space c cs is)) again.ahead;
  scanned = again.scanned;
}

-- an item of one byte that is listed as itself
adds_byte : (begins next : Bool) (c d : ℕ) (cs more : List ℕ) → d < 128 → Ahead begins (squeezed (c ∷ cs)) (squeezed (d ∷ listed more))
    → first_item begins (d ∷ listed more) ≡ Some (record { bytes = d ∷ []; rest = listed more; begins = next })
    → IsScanned next (listed more) more → IsAgain begins (c ∷ cs) (d ∷ more)
adds_byte begins next c d cs more small ahead is scanned =
    let whole : listed (d ∷ more) ≡ d ∷ listed more = ap (λ s. s ++ listed more) (character_listed d small) in record {
      ahead = subst (λ s. Ahead begins (squeezed (c ∷ cs)) (squeezed s)) (sym whole) ahead;
      scanned = subst (λ s. IsScanned begins s (d ∷ more)) (sym whole)
          (item begins (d ∷ listed more) (record { bytes = d ∷ []; rest = listed more; begins = next }) more is scanned);
    }

stays : (c : ℕ) → is_taken_alone c ≡ true → to_ascii_uppercase c ≡ c
stays c is = grind (arith, common_steps)

not_colon : (c : ℕ) → c ≢ 58 → (c == 58) ≡ false
not_colon c other = grind (arith, common_steps)

ahead_colon : (begins : Bool) (c : ℕ) (u v : List ℕ) → Ahead (c == 58) u v → Ahead begins (c ∷ u) (c ∷ v)
ahead_colon begins c u v ahead = elim (cases_eq c 58) [
  | inl is ↦ subst (λ d. Ahead begins (d ∷ u) (d ∷ v)) (sym is) (ahead_of_ends begins (58 ∷ []) u v ends_colon (subst (λ d. Ahead (d == 58) u v) is ahead))
  | inr other ↦ ahead_of begins (c ∷ []) u v (subst (λ b. Ahead b u v) (not_colon c other) ahead)
]

adds_alone : (begins : Bool) (c : ℕ) (cs more : List ℕ) → c < 128 → c ≢ 32 → c ≢ 34 → c ≢ 63 → is_taken_alone c ≡ true
    → Adds begins (c ∷ cs) (record { bytes = c ∷ []; rest = cs; begins = c == 58 }) more
unfolding Adds
adds_alone begins c cs more small a b d is scanned again =
    adds_byte begins (c == 58) c c cs more small
    (subst (λ s. Ahead begins s (squeezed (c ∷ listed more))) (sym (at_other c cs a ∙ ap (λ e. e ∷ squeezed cs) (stays c is)))
    (subst (Ahead begins (c ∷ squeezed cs)) (sym (at_other c (listed more) a ∙ ap (λ e. e ∷ squeezed (listed more)) (stays c is)))
    (ahead_colon begins c (squeezed cs) (squeezed (listed more)) again.ahead)))
    (at_alone begins c (listed more) a b d is) again.scanned

upper_twice : (c : ℕ) → to_ascii_uppercase (to_ascii_uppercase c) ≡ to_ascii_uppercase c
upper_twice c = grind (arith, common_steps)

upper_other : (c n : ℕ) → c ≢ n → n < 65 → to_ascii_uppercase c ≢ n
upper_other c n other small e = grind (arith, common_steps)

upper_alone : (c : ℕ) → is_taken_alone c ≡ false → is_taken_alone (to_ascii_uppercase c) ≡ false
upper_alone c e = grind (arith, common_steps)

upper_small : (c : ℕ) → c < 128 → to_ascii_uppercase c < 128
upper_small c small = grind (arith, common_steps)

no_question : (c : ℕ) (cs : List ℕ) → c ≢ 32 → c ≢ 63 → (u' : List ℕ) → squeezed (c ∷ cs) ≡ 63 ∷ u' → ⊥
no_question c cs a d u' e =
    let both : to_ascii_uppercase c ∷ squeezed cs ≡ 63 ∷ u' = sym (at_other c cs a) ∙ e in
    let up : to_ascii_uppercase c ≡ 63 = cc in
    upper_other c 63 d (omega arith) up

adds_letter : (begins : Bool) (c : ℕ) (cs more : List ℕ) → c < 128 → c ≢ 32 → c ≢ 34 → c ≢ 63 → is_taken_alone c ≡ false → first_word (c ∷ cs) ≡ None
    → Adds begins (c ∷ cs) (record { bytes = to_ascii_uppercase c ∷ []; rest = cs; begins = false }) more
unfolding Adds
adds_letter begins c cs more small a b d is none scanned again =
    let up = to_ascii_uppercase c in
    let no_space' : up ≢ 32 = upper_other c 32 a (omega arith) in
    let before : (start : Bool) → Ahead start (squeezed (c ∷ cs)) (squeezed (up ∷ listed more))
    = λ start. subst (λ s. Ahead start s (squeezed (up ∷ listed more))) (sym (at_other c cs a))
    (subst (Ahead start (up ∷ squeezed cs)) (sym (at_other up (listed more) no_space' ∙ ap (λ e. e ∷ squeezed (listed more)) (upper_twice c)))
    (ahead_of start (up ∷ []) (squeezed cs) (squeezed (listed more)) again.ahead)) in
    let none' : first_word (up ∷ listed more) ≡ None = none_again c cs more a (no_question c cs a d) none scanned (before false) in
    adds_byte begins false c up cs more (upper_small c small) (before begins)
    (at_word begins up (listed more) no_space' (upper_other c 34 b (omega arith)) (upper_other c 63 d (omega arith)) (upper_alone c is)
    ∙ ap (λ r. Some (word_item r up (listed more))) none' ∙ ap (λ e. Some (record { bytes = e ∷ []; rest = listed more; begins = false })) (upper_twice c))
    again.scanned

-- a token that is listed is scanned again, where it is found again
word_item_there : (begins : Bool) (k : ℕ) (rest : List ℕ) → k < 107 → first_word (word_of k ++ 32 ∷ rest) ≡ Some (found k (32 ∷ rest))
    → first_item begins (word_of k ++ 32 ∷ rest) ≡ Some (token_item k (32 ∷ rest))
word_item_there begins k rest within found_is =
    let w = is_word k within in
    let letter = first_letter w.first w.later (subst AreLetters w.split w.letters) in
    let whole : word_of k ++ 32 ∷ rest ≡ w.first ∷ (w.later ++ 32 ∷ rest) = ap (λ t. t ++ 32 ∷ rest) w.split in
    ap (first_item begins) whole
    ∙ at_word begins w.first (w.later ++ 32 ∷ rest) (λ e. omega (arith, letter.more, e)) letter.no_quote letter.no_question w.not_alone
    ∙ ap (λ s. Some (word_item (first_word s) w.first (w.later ++ 32 ∷ rest))) (sym whole)
    ∙ ap (λ r. Some (word_item r w.first (w.later ++ 32 ∷ rest))) found_is

-- a token, and characters behind it, before other bytes
token_whole : (k : ℕ) (characters more : List ℕ) → All (λ d. d < 128) characters
    → listed (((0x80 + k) ∷ characters) ++ more) ≡ 32 ∷ (word_of k ++ 32 ∷ (characters ++ listed more))
token_whole k characters more small =
    ap (λ s. s ++ listed (characters ++ more)) (token_listed k)
    ∙ ap (λ s. 32 ∷ s) (append_assoc (word_of k) (32 ∷ []) (listed (characters ++ more)))
    ∙ ap (λ s. 32 ∷ (word_of k ++ 32 ∷ s)) (characters_listed characters more small)

token_again : (begins next : Bool) (k : ℕ) (characters rest more : List ℕ) → k < 107 → All (λ d. d < 128) characters
    → first_word (word_of k ++ 32 ∷ (characters ++ listed more)) ≡ Some (found k (32 ∷ (characters ++ listed more)))
    → token_item k (32 ∷ (characters ++ listed more)) ≡ record { bytes = (0x80 + k) ∷ characters; rest = rest; begins = next }
    → IsScanned next rest more → IsScanned begins (listed (((0x80 + k) ∷ characters) ++ more)) (((0x80 + k) ∷ characters) ++ more)
token_again begins next k characters rest more within small found_is item_is scanned =
    subst (λ s. IsScanned begins s (((0x80 + k) ∷ characters) ++ more)) (sym (token_whole k characters more small))
    (item begins (32 ∷ (word_of k ++ 32 ∷ (characters ++ listed more)))
    (record { bytes = []; rest = word_of k ++ 32 ∷ (characters ++ listed more); begins = begins }) (((0x80 + k) ∷ characters) ++ more) refl
    (item begins (word_of k ++ 32 ∷ (characters ++ listed more)) (record { bytes = (0x80 + k) ∷ characters; rest = rest; begins = next }) more
    (word_item_there begins k (characters ++ listed more) within found_is ∙ ap (λ r. Some r) item_is) scanned))

-- a space before what is read
pub after_space : (begins : Bool) (codes bytes : List ℕ) → IsScanned begins codes bytes → IsScanned begins (32 ∷ codes) bytes
after_space begins codes bytes scanned = item begins (32 ∷ codes) (record { bytes = []; rest = codes; begins = begins }) bytes refl scanned

-- a `?` is listed as PRINT
adds_question : (begins : Bool) (c : ℕ) (cs more : List ℕ) → c ≡ 63 → begins ≡ true → Adds begins (c ∷ cs) (record { bytes = 0xba ∷ []; rest = cs; begins = false }) more
unfolding Adds
adds_question begins c cs more is start scanned again = record {
  ahead = now (squeezed cs) (codes "RINT" ++ squeezed (listed more)) start (ap (λ d. squeezed (d ∷ cs)) is) refl;
  scanned = token_again begins false 0x3a [] (32 ∷ listed more) more (omega arith) (All-nil (λ d. d < 128)) (print_again (listed more)) refl
      (after_space false (listed more) more again.scanned);
}

-- a string
adds_string : (begins : Bool) (c : ℕ) (cs more : List ℕ) → All (λ d. d < 128) cs → c ≡ 34
    → Adds begins (c ∷ cs) (record { bytes = 34 ∷ take (string_length cs) cs; rest = drop (string_length cs) cs; begins = false }) more
unfolding Adds
adds_string begins c cs more small is scanned again =
    let none : drop (string_length cs) cs ≡ [] → listed more ≡ [] = λ e. ap listed (sym (none_left false (drop (string_length cs) cs) more e scanned)) in
    let cut = string_cut cs (listed more) none in
    let whole : listed ((34 ∷ take (string_length cs) cs) ++ more) ≡ (34 ∷ take (string_length cs) cs) ++ listed more
    = characters_listed (34 ∷ take (string_length cs) cs) more
    (All-cons (λ d. d < 128) 34 (take (string_length cs) cs) (omega arith) (All-take (λ d. d < 128) (string_length cs) cs small)) in
    let old : squeezed (c ∷ cs) ≡ squeezed (34 ∷ take (string_length cs) cs) ++ squeezed (drop (string_length cs) cs)
    = ap (λ d. squeezed (d ∷ cs)) is ∙ ap (λ s. squeezed (34 ∷ s)) (sym (take-append-drop (string_length cs) cs))
    ∙ squeezed-append (34 ∷ take (string_length cs) cs) (drop (string_length cs) cs) in
    let new : squeezed (listed ((34 ∷ take (string_length cs) cs) ++ more)) ≡ squeezed (34 ∷ take (string_length cs) cs) ++ squeezed (listed more)
    = ap squeezed whole ∙ squeezed-append (34 ∷ take (string_length cs) cs) (listed more) in
    record {
      ahead = subst (λ s. Ahead begins s (squeezed (listed ((34 ∷ take (string_length cs) cs) ++ more)))) (sym old)
          (subst (Ahead begins (squeezed (34 ∷ take (string_length cs) cs) ++ squeezed (drop (string_length cs) cs))) (sym new)
          (ahead_of begins (squeezed (34 ∷ take (string_length cs) cs)) (squeezed (drop (string_length cs) cs)) (squeezed (listed more)) again.ahead));
      scanned = subst (λ s. IsScanned begins s ((34 ∷ take (string_length cs) cs) ++ more)) (sym whole)
          (item begins (34 ∷ (take (string_length cs) cs ++ listed more))
          (record { bytes = 34 ∷ take (string_length cs) cs; rest = listed more; begins = false }) more
          (at_string begins 34 (take (string_length cs) cs ++ listed more) refl
          ∙ ap (λ f. Some (record { bytes = 34 ∷ f; rest = drop (string_length (take (string_length cs) cs ++ listed more)) (take (string_length cs) cs ++ listed more); begins = false })) cut.front_is
          ∙ ap (λ r. Some (record { bytes = 34 ∷ take (string_length cs) cs; rest = r; begins = false })) cut.rest_is)
          again.scanned);
    }

-- ---- tokens

-- what a token that was found is listed as is found again
again_found : (old : List ℕ) (f : Found) (tail : List ℕ) (next : Bool) → first_word old ≡ Some f → ((u' : List ℕ) → squeezed old ≡ 63 ∷ u' → ⊥)
    → Ahead false (squeezed old) (word_of f.token ++ squeezed tail) → first_word (word_of f.token ++ 32 ∷ tail) ≡ Some (found f.token (32 ∷ tail))
again_found old f tail next e other ahead =
    let within = (was_found old f e).small in
    let new : squeezed (word_of f.token ++ 32 ∷ tail) ≡ word_of f.token ++ squeezed tail
    = squeezed-append (word_of f.token) (32 ∷ tail) ∙ ap (λ w. w ++ squeezed tail) (letters_squeezed (word_of f.token) (is_word f.token within).letters) in
    found_again old f tail e other (subst (Ahead false (squeezed old)) (sym new) ahead)

-- the listing of a token goes on as what was there
ahead_token : (begins : Bool) (k : ℕ) (characters more u : List ℕ) → k < 107 → All (λ d. d < 128) characters
    → Ahead begins u (word_of k ++ squeezed (characters ++ listed more)) → Ahead begins u (squeezed (listed (((0x80 + k) ∷ characters) ++ more)))
ahead_token begins k characters more u within small ahead =
    subst (Ahead begins u) (sym (ap squeezed (token_whole k characters more small)
    ∙ squeezed-append (word_of k) (32 ∷ (characters ++ listed more))
    ∙ ap (λ w. w ++ squeezed (characters ++ listed more)) (letters_squeezed (word_of k) (is_word k within).letters))) ahead

not_then : (k : ℕ) → k ≢ 0x44 → (k == 0x44) ≡ false
not_then k other = grind (arith, common_steps)

ahead_then : (start : Bool) (k : ℕ) (u v : List ℕ) → Ahead (k == 0x44) u v → Ahead start (word_of k ++ u) (word_of k ++ v)
ahead_then start k u v ahead = elim (cases_eq k 0x44) [
  | inl is ↦ subst (λ j. Ahead start (word_of j ++ u) (word_of j ++ v)) (sym is)
      (ahead_of_ends start (word_of 0x44) u v ends_then (subst (λ j. Ahead (j == 0x44) u v) is ahead))
  | inr other ↦ ahead_of start (word_of k) u v (subst (λ b. Ahead b u v) (not_then k other) ahead)
]

plain_item : (k : ℕ) (rest : List ℕ) → k ≢ 0x32 → k ≢ 0x03 → token_item k rest ≡ record { bytes = (0x80 + k) ∷ []; rest = rest; begins = k == 0x44 }
plain_item k rest no_rem no_data = grind (arith, common_steps)

-- a token that takes no characters
adds_plain : (begins : Bool) (c : ℕ) (cs more : List ℕ) (f : Found) → first_word (c ∷ cs) ≡ Some f → ((u' : List ℕ) → squeezed (c ∷ cs) ≡ 63 ∷ u' → ⊥)
    → f.token ≢ 0x32 → f.token ≢ 0x03 → Adds begins (c ∷ cs) (record { bytes = (0x80 + f.token) ∷ []; rest = f.rest; begins = f.token == 0x44 }) more
unfolding Adds
adds_plain begins c cs more f e other no_rem no_data scanned again =
    let was = was_found (c ∷ cs) f e in
    let before : (start : Bool) → Ahead start (squeezed (c ∷ cs)) (word_of f.token ++ squeezed (listed more))
    = λ start. subst (λ s. Ahead start s (word_of f.token ++ squeezed (listed more))) (sym was.squeezed_is) (ahead_then start f.token (squeezed f.rest) (squeezed (listed more)) again.ahead) in
    record {
      ahead = ahead_token begins f.token [] more (squeezed (c ∷ cs)) was.small (All-nil (λ d. d < 128)) (before begins);
      scanned = token_again begins (f.token == 0x44) f.token [] (32 ∷ listed more) more was.small (All-nil (λ d. d < 128))
          (again_found (c ∷ cs) f (listed more) false e other (before false)) (plain_item f.token (32 ∷ listed more) no_rem no_data)
          (after_space (f.token == 0x44) (listed more) more again.scanned);
    }

-- a space or none
squeezed_space : (cs : List ℕ) → squeezed (without_space cs) ≡ squeezed cs
squeezed_space [] = refl
squeezed_space (c ∷ cs) = elim (cases_eq c 32) [
  | inl is ↦ dropped c cs is ∙ sym (at_space c cs is)
  | inr other ↦ kept c cs other
]
  where
    dropped : (c : ℕ) (cs : List ℕ) → c ≡ 32 → squeezed (without_space (c ∷ cs)) ≡ squeezed cs
    dropped c cs is = ap (λ d. squeezed (cond (d == 32) cs (d ∷ cs))) is

    kept : (c : ℕ) (cs : List ℕ) → c ≢ 32 → squeezed (without_space (c ∷ cs)) ≡ squeezed (c ∷ cs)
    kept c cs other = let same' : without_space (c ∷ cs) ≡ c ∷ cs = grind (arith, common_steps) in ap squeezed same'

small_space : (cs : List ℕ) → All (λ d. d < 128) cs → All (λ d. d < 128) (without_space cs)
small_space [] small = small
small_space (c ∷ cs) small = pick (c == 32)
  where
    pick : (b : Bool) → All (λ d. d < 128) (cond b cs (c ∷ cs))
    pick true = All-tail (λ d. d < 128) c cs small
    pick false = small

-- REM, with all that is left
adds_rem : (begins : Bool) (c : ℕ) (cs more : List ℕ) (f : Found) → All (λ d. d < 128) f.rest → first_word (c ∷ cs) ≡ Some f
    → ((u' : List ℕ) → squeezed (c ∷ cs) ≡ 63 ∷ u' → ⊥) → f.token ≡ 0x32
    → Adds begins (c ∷ cs) (record { bytes = (0x80 + f.token) ∷ without_space f.rest; rest = []; begins = false }) more
unfolding Adds
adds_rem begins c cs more f small e other is scanned again =
    let was = was_found (c ∷ cs) f e in
    let small' = small_space f.rest small in
    let none : [] ≡ more = none_left false [] more refl scanned in
    let alone' : without_space f.rest ++ listed more ≡ without_space f.rest
    = ap (λ m. without_space f.rest ++ listed m) (sym none) ∙ append-nil (without_space f.rest) in
    let goes_on : squeezed (c ∷ cs) ≡ word_of f.token ++ squeezed (without_space f.rest ++ listed more)
    = was.squeezed_is ∙ ap (λ s. word_of f.token ++ s) (sym (squeezed_space f.rest) ∙ ap squeezed (sym alone')) in
    record {
      ahead = ahead_token begins f.token (without_space f.rest) more (squeezed (c ∷ cs)) was.small small' (same goes_on);
      scanned = token_again begins false f.token (without_space f.rest) [] more was.small small'
          (again_found (c ∷ cs) f (without_space f.rest ++ listed more) false e other (same goes_on))
          (ap (λ t. token_item t (32 ∷ (without_space f.rest ++ listed more))) is
          ∙ ap (λ b. record { bytes = 0xb2 ∷ b; rest = []; begins = false }) alone'
          ∙ ap (λ t. record { bytes = (0x80 + t) ∷ without_space f.rest; rest = []; begins = false }) (sym is))
          scanned;
    }

-- what is listed behind a DATA is nothing, or begins with a colon
listed_behind : (q : Bool) (cs more : List ℕ) → IsScanned false (drop (data_length q cs) cs) more
    → (listed more ≡ []) ⊎ ((rest : List ℕ) × (listed more ≡ 58 ∷ rest))
listed_behind q cs more scanned = elim (data_rest q cs) [
  | inl none ↦ inl (ap listed (sym (none_left false (drop (data_length q cs) cs) more none scanned)))
  | inr (rest, some) ↦
      let colon : first_item false (drop (data_length q cs) cs) ≡ Some (record { bytes = 58 ∷ []; rest = rest; begins = true }) = ap (first_item false) some in
      let on = read_on false (drop (data_length q cs) cs) more scanned (record { bytes = 58 ∷ []; rest = rest; begins = true }) colon in
      inr (listed on.0, ap listed on.2)
]

-- DATA, with what belongs to it
adds_data : (begins : Bool) (c : ℕ) (cs more : List ℕ) (f : Found) (ws d r : List ℕ) → All (λ d. d < 128) f.rest → first_word (c ∷ cs) ≡ Some f
    → ((u' : List ℕ) → squeezed (c ∷ cs) ≡ 63 ∷ u' → ⊥) → f.token ≡ 0x03
    → ws ≡ without_space f.rest → d ≡ take (data_length false ws) ws → r ≡ drop (data_length false ws) ws
    → Adds begins (c ∷ cs) (record { bytes = (0x80 + f.token) ∷ d; rest = r; begins = false }) more
unfolding Adds
adds_data begins c cs more f ws d r small e other is ws_is d_is r_is scanned again =
    let was = was_found (c ∷ cs) f e in
    let small_ws : All (λ d. d < 128) ws = subst (All (λ d. d < 128)) (sym ws_is) (small_space f.rest small) in
    let small' : All (λ d. d < 128) d = subst (All (λ d. d < 128)) (sym d_is) (All-take (λ d. d < 128) (data_length false ws) ws small_ws) in
    let scanned' : IsScanned false (drop (data_length false ws) ws) more = subst (λ r. IsScanned false r more) r_is scanned in
    let none : drop (data_length false ws) ws ≡ [] → listed more ≡ []
    = λ none'. ap listed (sym (none_left false (drop (data_length false ws) ws) more none' scanned')) in
    let cut' : IsCut (data_length false (take (data_length false ws) ws ++ listed more)) (take (data_length false ws) ws) (listed more)
    = data_cut false ws (listed more) none (listed_behind false ws more scanned') in
    let cut : IsCut (data_length false (d ++ listed more)) d (listed more)
    = subst (λ d. IsCut (data_length false (d ++ listed more)) d (listed more)) (sym d_is) cut' in
    let pieces : squeezed f.rest ≡ squeezed d ++ squeezed r
    = sym (squeezed_space f.rest) ∙ ap squeezed (sym ws_is ∙ sym (take-append-drop (data_length false ws) ws) ∙ ap (λ t. t ++ drop (data_length false ws) ws) (sym d_is) ∙ ap (λ t. d ++ t) (sym r_is))
    ∙ squeezed-append d r in
    let goes_on : (start : Bool) → Ahead start (squeezed (c ∷ cs)) (word_of f.token ++ squeezed (d ++ listed more)) = λ start.
    subst (λ s. Ahead start s (word_of f.token ++ squeezed (d ++ listed more))) (sym (was.squeezed_is ∙ ap (λ s. word_of f.token ++ s) pieces))
    (subst (λ s. Ahead start (word_of f.token ++ (squeezed d ++ squeezed r)) (word_of f.token ++ s)) (sym (squeezed-append d (listed more)))
    (ahead_of start (word_of f.token) (squeezed d ++ squeezed r) (squeezed d ++ squeezed (listed more))
    (ahead_of false (squeezed d) (squeezed r) (squeezed (listed more)) again.ahead))) in
    record {
      ahead = ahead_token begins f.token d more (squeezed (c ∷ cs)) was.small small' (goes_on begins);
      scanned = token_again begins false f.token d (listed more) more was.small small'
          (again_found (c ∷ cs) f (d ++ listed more) false e other (goes_on false))
          (ap (λ t. token_item t (32 ∷ (d ++ listed more))) is
          ∙ ap (λ b. record { bytes = 0x83 ∷ b; rest = drop (data_length false (d ++ listed more)) (d ++ listed more); begins = false }) cut.front_is
          ∙ ap (λ b. record { bytes = 0x83 ∷ d; rest = b; begins = false }) cut.rest_is
          ∙ ap (λ t. record { bytes = (0x80 + t) ∷ d; rest = listed more; begins = false }) (sym is))
          again.scanned;
    }

adds_token : (begins : Bool) (c : ℕ) (cs more : List ℕ) (f : Found) → All (λ d. d < 128) f.rest → first_word (c ∷ cs) ≡ Some f
    → ((u' : List ℕ) → squeezed (c ∷ cs) ≡ 63 ∷ u' → ⊥) → Adds begins (c ∷ cs) (token_item f.token f.rest) more
adds_token begins c cs more f small e other = elim (cases_eq f.token 0x32) [
  | inl is ↦ subst (λ (r : Item). Adds begins (c ∷ cs) r more) (sym (rem_item f.token f.rest is)) (adds_rem begins c cs more f small e other is)
  | inr no_rem ↦ elim (cases_eq f.token 0x03) [
    | inl is ↦ subst (λ (r : Item). Adds begins (c ∷ cs) r more) (sym (data_item f.token f.rest is))
        (adds_data begins c cs more f (without_space f.rest) (take (data_length false (without_space f.rest)) (without_space f.rest))
        (drop (data_length false (without_space f.rest)) (without_space f.rest)) small e other is refl refl refl)
    | inr no_data ↦ subst (λ (r : Item). Adds begins (c ∷ cs) r more) (sym (other_item f.token f.rest no_rem no_data))
        (adds_plain begins c cs more f e other no_rem no_data)
  ]
]
  where
    rem_item : (k : ℕ) (rest : List ℕ) → k ≡ 0x32 → token_item k rest ≡ record { bytes = (0x80 + k) ∷ without_space rest; rest = []; begins = false }
    rem_item k rest is = ap (λ t. token_item t rest) is ∙ ap (λ t. record { bytes = (0x80 + t) ∷ without_space rest; rest = []; begins = false }) (sym is)

    data_item : (k : ℕ) (rest : List ℕ) → k ≡ 0x03 → token_item k rest ≡ record {
      bytes = (0x80 + k) ∷ take (data_length false (without_space rest)) (without_space rest);
      rest = drop (data_length false (without_space rest)) (without_space rest);
      begins = false;
    }
    data_item k rest is = ap (λ t. token_item t rest) is ∙ ap (λ t. record {
      bytes = (0x80 + t) ∷ take (data_length false (without_space rest)) (without_space rest);
      rest = drop (data_length false (without_space rest)) (without_space rest);
      begins = false;
    }) (sym is)

    other_item : (k : ℕ) (rest : List ℕ) → k ≢ 0x32 → k ≢ 0x03 → token_item k rest ≡ record { bytes = (0x80 + k) ∷ []; rest = rest; begins = k == 0x44 }
    other_item k rest no_rem no_data = grind (arith, common_steps)

-- ---- one item after another

adds_word : (begins : Bool) (c : ℕ) (cs more : List ℕ) (r : Option Found) → All (λ d. d < 128) (c ∷ cs) → c ≢ 32 → c ≢ 34 → c ≢ 63 → is_taken_alone c ≡ false
    → first_word (c ∷ cs) ≡ r → Adds begins (c ∷ cs) (word_item r c cs) more
adds_word begins c cs more None small a b d is e = adds_letter begins c cs more (All-head (λ d. d < 128) c cs small) a b d is e
adds_word begins c cs more (Some f) small a b d is e =
    adds_token begins c cs more f (word_all (λ d. d < 128) (word_of f.token) (c ∷ cs) f.rest (was_found (c ∷ cs) f e).behind small) e (no_question c cs a d)

adds : (begins : Bool) (c : ℕ) (cs : List ℕ) (read : Item) (more : List ℕ) → All (λ d. d < 128) (c ∷ cs) → IsItem begins c cs read → Adds begins (c ∷ cs) read more
adds begins c cs read more small (space is e) = subst (λ (r : Item). Adds begins (c ∷ cs) r more) (sym e) (adds_space begins c cs more is)
adds begins c cs read more small (string is e) =
    subst (λ (r : Item). Adds begins (c ∷ cs) r more) (sym e) (adds_string begins c cs more (All-tail (λ d. d < 128) c cs small) is)
adds begins c cs read more small (question is b e) = subst (λ (r : Item). Adds begins (c ∷ cs) r more) (sym e) (adds_question begins c cs more is b)
adds begins c cs read more small (alone a b d is e) =
    subst (λ (r : Item). Adds begins (c ∷ cs) r more) (sym e) (adds_alone begins c cs more (All-head (λ d. d < 128) c cs small) a b d is)
adds begins c cs read more small (word a b d is e) =
    subst (λ (r : Item). Adds begins (c ∷ cs) r more) (sym e) (adds_word begins c cs more (first_word (c ∷ cs)) small a b d is refl)

abbrev LeavesSmall : Item → Type 0
LeavesSmall read = All (λ d. d < 128) read.rest

small_token : (k : ℕ) (rest : List ℕ) → All (λ d. d < 128) rest → LeavesSmall (token_item k rest)
small_token k rest small = pick (k == 0x32) (k == 0x03)
  where
    pick : (a b : Bool) → LeavesSmall (cond a (record { bytes = 0xb2 ∷ without_space rest; rest = []; begins = false })
        (cond b (record { bytes = 0x83 ∷ take (data_length false (without_space rest)) (without_space rest); rest = drop (data_length false (without_space rest)) (without_space rest); begins = false })
        (record { bytes = (0x80 + k) ∷ []; rest = rest; begins = k == 0x44 })))
    pick true b = All-nil (λ d. d < 128)
    pick false true = All-drop (λ d. d < 128) (data_length false (without_space rest)) (without_space rest) (small_space rest small)
    pick false false = small

small_word : (c : ℕ) (cs : List ℕ) (r : Option Found) → All (λ d. d < 128) (c ∷ cs) → first_word (c ∷ cs) ≡ r → All (λ d. d < 128) (word_item r c cs).rest
small_word c cs None small e = All-tail (λ d. d < 128) c cs small
small_word c cs (Some f) small e = small_token f.token f.rest (word_all (λ d. d < 128) (word_of f.token) (c ∷ cs) f.rest (was_found (c ∷ cs) f e).behind small)

small_rest : (begins : Bool) (c : ℕ) (cs : List ℕ) (read : Item) → All (λ d. d < 128) (c ∷ cs) → IsItem begins c cs read → All (λ d. d < 128) read.rest
small_rest begins c cs read small (space is e) = subst (λ (r : Item). All (λ d. d < 128) r.rest) (sym e) (All-tail (λ d. d < 128) c cs small)
small_rest begins c cs read small (string is e) =
    subst (λ (r : Item). All (λ d. d < 128) r.rest) (sym e) (All-drop (λ d. d < 128) (string_length cs) cs (All-tail (λ d. d < 128) c cs small))
small_rest begins c cs read small (question is b e) = subst (λ (r : Item). All (λ d. d < 128) r.rest) (sym e) (All-tail (λ d. d < 128) c cs small)
small_rest begins c cs read small (alone a b d is e) = subst (λ (r : Item). All (λ d. d < 128) r.rest) (sym e) (All-tail (λ d. d < 128) c cs small)
small_rest begins c cs read small (word a b d is e) =
    subst (λ (r : Item). All (λ d. d < 128) r.rest) (sym e) (small_word c cs (first_word (c ∷ cs)) small refl)

adds_item : (begins : Bool) (c : ℕ) (cs : List ℕ) (read : Item) (more : List ℕ) → All (λ d. d < 128) (c ∷ cs) → IsItem begins c cs read
    → IsScanned read.begins read.rest more → IsAgain read.begins read.rest more → IsAgain begins (c ∷ cs) (read.bytes ++ more)
unfolding Adds
adds_item begins c cs read more small it = adds begins c cs read more small it

pub is_again : (begins : Bool) (codes bytes : List ℕ) → All (λ d. d < 128) codes → IsScanned begins codes bytes → IsAgain begins codes bytes
is_again begins codes bytes small (nothing b) = record { ahead = same refl; scanned = nothing b }
is_again begins codes bytes small (item b [] read more is scanned) = absurd (let no' : None ≡ Some read = is in cc)
is_again begins codes bytes small (item b (c ∷ cs) read more is scanned) =
    let it = item_at b c cs read is in
    adds_item b c cs read more small it scanned (is_again read.begins read.rest more (small_rest b c cs read small it) scanned)

-- ---- what is read are characters and tokens

codes_of_small : (cs : List ℕ) → All IsAllowed cs → All IsCode cs
codes_of_small cs all = All-weaker IsAllowed IsCode (λ c is. record { some = is.some; token = omega (arith, is.small) }) cs all

upper_some : (c : ℕ) → c ≢ 0 → to_ascii_uppercase c ≢ 0
upper_some c some e = grind (arith, common_steps)

space_allowed : (cs : List ℕ) → All IsAllowed cs → All IsAllowed (without_space cs)
space_allowed [] all = all
space_allowed (c ∷ cs) all = pick (c == 32)
  where
    pick : (b : Bool) → All IsAllowed (cond b cs (c ∷ cs))
    pick true = All-tail IsAllowed c cs all
    pick false = all

-- the bytes of an item, and what it leaves
record IsSound (read : Item) : Type 0 where
  pub bytes : All IsCode read.bytes
  pub rest : All IsAllowed read.rest

sound_token : (k : ℕ) (rest : List ℕ) → k < 107 → All IsAllowed rest → IsSound (token_item k rest)
sound_token k rest within all = pick (k == 0x32) (k == 0x03)
  where
    code : (n : ℕ) → 0 < n → n < 0xeb → IsCode n
    code n some less = record { some = λ e. omega (arith, some, e); token = less }

    pick : (a b : Bool) → IsSound (cond a (record { bytes = 0xb2 ∷ without_space rest; rest = []; begins = false })
        (cond b (record { bytes = 0x83 ∷ take (data_length false (without_space rest)) (without_space rest); rest = drop (data_length false (without_space rest)) (without_space rest); begins = false })
        (record { bytes = (0x80 + k) ∷ []; rest = rest; begins = k == 0x44 })))
    pick true b = record {
      bytes = All-cons IsCode 0xb2 (without_space rest) (code 0xb2 (omega arith) (omega arith)) (codes_of_small (without_space rest) (space_allowed rest all));
      rest = All-nil IsAllowed;
    }
    pick false true = record {
      bytes = All-cons IsCode 0x83 (take (data_length false (without_space rest)) (without_space rest)) (code 0x83 (omega arith) (omega arith))
          (codes_of_small (take (data_length false (without_space rest)) (without_space rest))
          (All-take IsAllowed (data_length false (without_space rest)) (without_space rest) (space_allowed rest all)));
      rest = All-drop IsAllowed (data_length false (without_space rest)) (without_space rest) (space_allowed rest all);
    }
    pick false false = record {
      bytes = All-cons IsCode (0x80 + k) [] (code (0x80 + k) (omega arith) (omega (arith, within))) (All-nil IsCode);
      rest = all;
    }

sound_byte : (d : ℕ) (cs : List ℕ) (next : Bool) → IsCode d → All IsAllowed cs → IsSound (record { bytes = d ∷ []; rest = cs; begins = next })
sound_byte d cs next code all = record { bytes = All-cons IsCode d [] code (All-nil IsCode); rest = all }

sound_word : (c : ℕ) (cs : List ℕ) (r : Option Found) → All IsAllowed (c ∷ cs) → first_word (c ∷ cs) ≡ r → IsSound (word_item r c cs)
sound_word c cs None all e =
    let first = All-head IsAllowed c cs all in
    sound_byte (to_ascii_uppercase c) cs false (record { some = upper_some c first.some; token = omega (arith, upper_small c first.small) }) (All-tail IsAllowed c cs all)
sound_word c cs (Some f) all e =
    let was = was_found (c ∷ cs) f e in
    sound_token f.token f.rest was.small (word_all IsAllowed (word_of f.token) (c ∷ cs) f.rest was.behind all)

sound : (begins : Bool) (c : ℕ) (cs : List ℕ) (read : Item) → All IsAllowed (c ∷ cs) → IsItem begins c cs read → IsSound read
sound begins c cs read all (space is e) = subst IsSound (sym e) (record { bytes = All-nil IsCode; rest = All-tail IsAllowed c cs all })
sound begins c cs read all (string is e) = subst IsSound (sym e) (record {
  bytes = All-cons IsCode 34 (take (string_length cs) cs) (record { some = λ z. omega arith; token = omega arith })
      (codes_of_small (take (string_length cs) cs) (All-take IsAllowed (string_length cs) cs (All-tail IsAllowed c cs all)));
  rest = All-drop IsAllowed (string_length cs) cs (All-tail IsAllowed c cs all);
})
sound begins c cs read all (question is b e) = subst IsSound (sym e)
    (sound_byte 0xba cs false (record { some = λ z. omega arith; token = omega arith }) (All-tail IsAllowed c cs all))
sound begins c cs read all (alone a b d is e) =
    let first = All-head IsAllowed c cs all in
    subst IsSound (sym e) (sound_byte c cs (c == 58) (record { some = first.some; token = omega (arith, first.small) }) (All-tail IsAllowed c cs all))
sound begins c cs read all (word a b d is e) = subst IsSound (sym e) (sound_word c cs (first_word (c ∷ cs)) all refl)

pub codes_read : (begins : Bool) (codes bytes : List ℕ) → All IsAllowed codes → IsScanned begins codes bytes → All IsCode bytes
codes_read begins codes bytes all (nothing b) = All-nil IsCode
codes_read begins codes bytes all (item b [] read more is scanned) = absurd (let no' : None ≡ Some read = is in cc)
codes_read begins codes bytes all (item b (c ∷ cs) read more is scanned) =
    let it = sound b c cs read all (item_at b c cs read is) in
    All-append IsCode read.bytes more it.bytes (codes_read read.begins read.rest more it.rest scanned)
