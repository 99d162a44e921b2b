-- Words that stand at a place.
use Rattle.std.proofs.Common.{◌≡◌, ◌≢◌, ◌⊎◌, ℕ, zero, suc, ◌+◌, ◌<◌, ◌≤◌, nat_lt, cond, Bool, true, false, List, [], ◌∷◌, Option, Some, None, IfSome, length, get_or, Bor, arith, refl, sym, ap, ◌∙◌, subst, inl, inr}
use Rattle.std.specs.Option.{option_or}
use Rattle.std.specs.Char.{to_ascii_uppercase}
use Rattle.std.proofs.lemmas.Grind.{common_steps}
use Rattle.std.proofs.lemmas.Bool.{cases_eq}
use Rattle.std.proofs.lemmas.List.Sums.{AllPass-from_list_all}
use Rattle.apple_text.specs.Shown.{Text}
use Rattle.applesoft.specs.Words.{words}
use Rattle.applesoft.specs.Scan.{Found, begins_with_n_or_o, behind_letter, behind_word, first_standing, first_word, standing}
use Rattle.applesoft.specs.Reading.{found}
use Rattle.applesoft.proofs.Squeezed.{word_through}

pub letter_shorter : (letter : ℕ) (codes rest : List ℕ) → behind_letter letter codes ≡ Some rest → length rest < length codes
letter_shorter letter [] rest e = absurd (let no' : None ≡ Some rest = e in cc)
letter_shorter letter (c ∷ cs) rest e = elim (cases_eq c 32) [
  | inl is ↦
      let e' : behind_letter letter cs ≡ Some rest = sym (passed is) ∙ e in
      omega (arith, letter_shorter letter cs rest e')
  | inr other ↦ elim (cases_eq (to_ascii_uppercase c) letter) [
    | inl is ↦ let same : cs ≡ rest = hit other is in omega (arith, ap length same)
    | inr differs ↦ absurd (miss other differs)
  ]
]
  where
    passed : c ≡ 32 → behind_letter letter (c ∷ cs) ≡ behind_letter letter cs
    passed is = grind (arith, common_steps)

    hit : c ≢ 32 → to_ascii_uppercase c ≡ letter → cs ≡ rest
    hit other is = let here : behind_letter letter (c ∷ cs) ≡ Some cs = grind (arith, common_steps) in let both : Some cs ≡ Some rest = sym here ∙ e in cc

    miss : c ≢ 32 → to_ascii_uppercase c ≢ letter → ⊥
    miss other differs = let here : behind_letter letter (c ∷ cs) ≡ None = grind (arith, common_steps) in let both : None ≡ Some rest = sym here ∙ e in cc

pub word_shorter : (word : Text) (codes rest : List ℕ) → behind_word word codes ≡ Some rest → length rest + length word ≤ length codes
word_shorter [] codes rest e = let same : codes ≡ rest = cc in omega (arith, ap length same)
word_shorter (letter ∷ more) codes rest e =
    let next = word_through letter more codes rest (behind_letter letter codes) refl e in
    omega (arith, letter_shorter letter codes next.0 next.1, word_shorter more next.0 rest next.2)

standing_none : (token : ℕ) (rest : List ℕ) (f : Found) → standing token (Some rest) ≡ Some f → (f.token ≡ token) × (f.rest ≡ rest)
standing_none token rest f e = from (begins_with_n_or_o rest) refl
  where
    from : (b : Bool) → begins_with_n_or_o rest ≡ b → (f.token ≡ token) × (f.rest ≡ rest)
    from b is = grind (arith, common_steps)

-- a word that stands there stands there letter by letter
pub standing_is : (token : ℕ) (word : Text) (codes : List ℕ) (f : Found) → standing token (behind_word word codes) ≡ Some f
    → (f.token ≡ token) × (behind_word word codes ≡ Some f.rest)
standing_is token word codes f e = through (behind_word word codes) refl e
  where
    through : (r : Option (List ℕ)) → behind_word word codes ≡ r → standing token r ≡ Some f → (f.token ≡ token) × (behind_word word codes ≡ Some f.rest)
    through None is e' = absurd (let no' : None ≡ Some f = e' in cc)
    through (Some rest) is e' = let both = standing_none token rest f e' in (both.0, is ∙ ap (λ r. Some r) (sym both.1))

-- the first of some words that stands there, by its place among them
pub record IsFirst (token : ℕ) (ws : List Text) (codes : List ℕ) (f : Found) : Type 0 where
  pub place : ℕ
  pub token_is : f.token ≡ token + place
  pub within : place < length ws
  pub stands : standing (token + place) (behind_word (get_or ws place []) codes) ≡ Some f
  pub earlier : (k : ℕ) → k < place → standing (token + k) (behind_word (get_or ws k []) codes) ≡ None

earlier_more : (token : ℕ) (w : Text) (ws : List Text) (codes : List ℕ) (place : ℕ) → standing token (behind_word w codes) ≡ None
    → ((k : ℕ) → k < place → standing (suc token + k) (behind_word (get_or ws k []) codes) ≡ None)
    → (k : ℕ) → k < suc place → standing (token + k) (behind_word (get_or (w ∷ ws) k []) codes) ≡ None
earlier_more token w ws codes place none all zero less =
    let same : token ≡ token + 0 = omega arith in subst (λ t. standing t (behind_word w codes) ≡ None) same none
earlier_more token w ws codes place none all (suc k) less =
    let same : suc token + k ≡ token + suc k = omega arith in
    subst (λ t. standing t (behind_word (get_or ws k []) codes) ≡ None) same (all k (omega arith))

later_first : (token : ℕ) (w : Text) (ws : List Text) (codes : List ℕ) (f : Found) → standing token (behind_word w codes) ≡ None → IsFirst (suc token) ws codes f
    → IsFirst token (w ∷ ws) codes f
later_first token w ws codes f none later = record {
  place = suc later.place;
  token_is = omega (arith, later.token_is);
  within = omega (arith, later.within);
  stands = let moved : suc token + later.place ≡ token + suc later.place = omega arith in
      subst (λ t. standing t (behind_word (get_or ws later.place []) codes) ≡ Some f) moved later.stands;
  earlier = earlier_more token w ws codes later.place none later.earlier;
}

here_first : (token : ℕ) (w : Text) (ws : List Text) (codes : List ℕ) (f : Found) → standing token (behind_word w codes) ≡ Some f → IsFirst token (w ∷ ws) codes f
here_first token w ws codes f stands = record {
  place = 0;
  token_is = omega (arith, (standing_is token w codes f stands).0);
  within = omega arith;
  stands = let same : token ≡ token + 0 = omega arith in subst (λ t. standing t (behind_word w codes) ≡ Some f) same stands;
  earlier = λ k less. absurd (omega (arith, less));
}

-- the first of one more word
cases_first : (token : ℕ) (w : Text) (ws : List Text) (codes : List ℕ) (f : Found) (r : Option Found) → standing token (behind_word w codes) ≡ r
    → option_or r (first_standing (suc token) ws codes) ≡ Some f → (standing token (behind_word w codes) ≡ Some f)
    ⊎ ((standing token (behind_word w codes) ≡ None) × (first_standing (suc token) ws codes ≡ Some f))
cases_first token w ws codes f None is e = inr (is, e)
cases_first token w ws codes f (Some g) is e = inl (is ∙ e)

pub first_of : (token : ℕ) (ws : List Text) (codes : List ℕ) (f : Found) → first_standing token ws codes ≡ Some f → IsFirst token ws codes f
first_of token [] codes f e = absurd (let no' : None ≡ Some f = e in cc)
first_of token (w ∷ ws) codes f e = elim (cases_first token w ws codes f (standing token (behind_word w codes)) refl e) [
  | inl stands ↦ here_first token w ws codes f stands
  | inr (none, later) ↦ later_first token w ws codes f none (first_of (suc token) ws codes f later)
]

-- and the other way round
is_first_at : (token : ℕ) (ws : List Text) (codes : List ℕ) (f : Found) (place : ℕ) → place < length ws
    → standing (token + place) (behind_word (get_or ws place []) codes) ≡ Some f
    → ((k : ℕ) → k < place → standing (token + k) (behind_word (get_or ws k []) codes) ≡ None) → first_standing token ws codes ≡ Some f
is_first_at token [] codes f place within stands earlier = absurd (omega (arith, within))
is_first_at token (w ∷ ws) codes f zero within stands earlier =
    let same : token + 0 ≡ token = omega arith in
    let stands' : standing token (behind_word w codes) ≡ Some f = subst (λ t. standing t (behind_word w codes) ≡ Some f) same stands in
    ap (λ r. option_or r (first_standing (suc token) ws codes)) stands'
is_first_at token (w ∷ ws) codes f (suc place) within stands earlier =
    let same : token + 0 ≡ token = omega arith in
    let none : standing token (behind_word w codes) ≡ None
    = subst (λ t. standing t (behind_word w codes) ≡ None) same (earlier 0 (omega arith)) in
    let moved : (k : ℕ) → token + suc k ≡ suc token + k = λ k. omega arith in
    ap (λ r. option_or r (first_standing (suc token) ws codes)) none
    ∙ is_first_at (suc token) ws codes f place (omega (arith, within))
    (subst (λ t. standing t (behind_word (get_or ws place []) codes) ≡ Some f) (moved place) stands)
    (λ k less. subst (λ t. standing t (behind_word (get_or ws k []) codes) ≡ None) (moved k) (earlier (suc k) (omega (arith, less))))

pub is_first : (token : ℕ) (ws : List Text) (codes : List ℕ) (f : Found) → IsFirst token ws codes f → first_standing token ws codes ≡ Some f
is_first token ws codes f first = is_first_at token ws codes f first.place first.within first.stands first.earlier

-- ---- the table

-- no word is empty
some_words : (k : ℕ) → k < length words → 0 < length (get_or words k [])
some_words k within = from (get_or words k []) (AllPass-from_list_all (λ w. nat_lt 0 (length w)) words refl k [] within)
  where
    from : (w : Text) → nat_lt 0 (length w) ≡ true → 0 < length w
    from w e = grind arith

-- what is found: a token of the table, and less than there was
pub record IsFound (codes : List ℕ) (f : Found) : Type 0 where
  pub small : f.token < 107
  pub shorter : length f.rest < length codes

pub found_in : (codes : List ℕ) (f : Found) → first_word codes ≡ Some f → IsFound codes f
unfolding first_word
found_in codes f e =
    let first = first_of 0 words codes f e in
    let is = standing_is (0 + first.place) (get_or words first.place []) codes f first.stands in
    record {
      small = omega (arith, first.token_is, first.within);
      shorter = omega (arith, word_shorter (get_or words first.place []) codes f.rest is.1, some_words first.place first.within);
    }

pub small : (codes : List ℕ) (token : ℕ) (rest : List ℕ) → first_word codes ≡ Some (found token rest) → token < 107
small codes token rest e = (found_in codes (found token rest) e).small

-- ---- no word

pub none_of : (token : ℕ) (ws : List Text) (codes : List ℕ) → first_standing token ws codes ≡ None → (k : ℕ) → k < length ws
    → standing (token + k) (behind_word (get_or ws k []) codes) ≡ None
none_of token [] codes e k within = absurd (omega (arith, within))
none_of token (w ∷ ws) codes e k within = earlier_more token w ws codes (length ws) (none_through (standing token (behind_word w codes)) refl e).0
    (none_of (suc token) ws codes (none_through (standing token (behind_word w codes)) refl e).1) k within
  where
    none_through : (r : Option Found) → standing token (behind_word w codes) ≡ r → option_or r (first_standing (suc token) ws codes) ≡ None
        → (standing token (behind_word w codes) ≡ None) × (first_standing (suc token) ws codes ≡ None)
    none_through None is e' = (is, e')
    none_through (Some g) is e' = absurd (let no' : Some g ≡ None = e' in cc)

pub is_none : (token : ℕ) (ws : List Text) (codes : List ℕ) → ((k : ℕ) → k < length ws → standing (token + k) (behind_word (get_or ws k []) codes) ≡ None)
    → first_standing token ws codes ≡ None
is_none token [] codes all = refl
is_none token (w ∷ ws) codes all =
    let same : token + 0 ≡ token = omega arith in
    let none : standing token (behind_word w codes) ≡ None
    = subst (λ t. standing t (behind_word w codes) ≡ None) same (all 0 (omega arith)) in
    let moved : (k : ℕ) → token + suc k ≡ suc token + k = λ k. omega arith in
    ap (λ r. option_or r (first_standing (suc token) ws codes)) none
    ∙ is_none (suc token) ws codes (λ k within. subst (λ t. standing t (behind_word (get_or ws k []) codes) ≡ None) (moved k) (all (suc k) (omega (arith, within))))

-- where a word stands and is refused, it is AT before N or O
pub refused : (token : ℕ) (rest : List ℕ) → standing token (Some rest) ≡ None → (token ≡ 0x45) × (begins_with_n_or_o rest ≡ true)
refused token rest e = elim (cases_eq token 0x45) [
  | inl is ↦ (is, from (begins_with_n_or_o rest) (ap (λ t. standing t (Some rest)) (sym is) ∙ e))
  | inr other ↦ absurd (let stands : standing token (Some rest) ≡ Some (found token rest) = grind (arith, common_steps) in
      let no' : None ≡ Some (found token rest) = sym e ∙ stands in cc)
]
  where
    from : (b : Bool) → cond b None (Some (found 0x45 rest)) ≡ None → b ≡ true
    from true e' = refl
    from false e' = absurd (let no' : Some (found 0x45 rest) ≡ None = e' in cc)

-- behind a word a space comes, or another character that is no N and no O
pub stands_before_space : (token : ℕ) (rest : List ℕ) → standing token (Some (32 ∷ rest)) ≡ Some (found token (32 ∷ rest))
stands_before_space token rest = elim (cases_eq token 0x45) [
  | inl is ↦ ap (λ t. standing t (Some (32 ∷ rest))) is ∙ ap (λ t. Some (found t (32 ∷ rest))) (sym is)
  | inr other ↦ grind (arith, common_steps)
]

pub small_of : (codes : List ℕ) (r : Option (ℕ × Bor (List ℕ))) → IfSome r (λ first. first_word codes ≡ Some (found first.0 first.1.now))
    → IfSome r (λ first. first.0 < 107)
small_of codes None e = tt
small_of codes (Some first) e = small codes first.0 first.1.now e
