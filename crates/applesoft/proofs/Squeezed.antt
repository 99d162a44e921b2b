-- Characters without their spaces, as capitals: a word stands where they begin with it.
use Rattle.std.proofs.Common.{◌≡◌, ◌≢◌, ℕ, ◌==◌, cond, List, [], ◌∷◌, ◌++◌, Option, Some, None, All, arith, refl, sym, ap, ◌∙◌, subst, inl, inr}
use Rattle.std.specs.Option.{option_and_then}
use Rattle.std.specs.Char.{to_ascii_uppercase}
use Rattle.std.proofs.lemmas.Grind.{common_steps}
use Rattle.std.proofs.lemmas.Bool.{cases_eq}
use Rattle.std.proofs.lemmas.List.Elements.{All-tail}
use Rattle.apple_text.specs.Shown.{Text}
use Rattle.applesoft.specs.Scan.{behind_letter, behind_word}

abbrev pub squeezed : List ℕ → List ℕ
squeezed [] = []
squeezed (c ∷ cs) = cond (c == 32) (squeezed cs) (to_ascii_uppercase c ∷ squeezed cs)

pub at_space : (c : ℕ) (cs : List ℕ) → c ≡ 32 → squeezed (c ∷ cs) ≡ squeezed cs
at_space c cs is = ap (λ d. cond (d == 32) (squeezed cs) (to_ascii_uppercase d ∷ squeezed cs)) is

pub at_other : (c : ℕ) (cs : List ℕ) → c ≢ 32 → squeezed (c ∷ cs) ≡ to_ascii_uppercase c ∷ squeezed cs
at_other c cs other = grind (arith, common_steps)

pub squeezed-append : (a b : List ℕ) → squeezed (a ++ b) ≡ squeezed a ++ squeezed b
squeezed-append [] b = refl
squeezed-append (c ∷ a) b = elim (cases_eq c 32) [
  | inl is ↦ at_space c (a ++ b) is ∙ squeezed-append a b ∙ sym (ap (λ s. s ++ squeezed b) (at_space c a is))
  | inr other ↦ at_other c (a ++ b) other ∙ ap (λ s. to_ascii_uppercase c ∷ s) (squeezed-append a b)
      ∙ sym (ap (λ s. s ++ squeezed b) (at_other c a other))
]

-- ---- a letter

letter_passed : (letter c : ℕ) (cs : List ℕ) → c ≡ 32 → behind_letter letter (c ∷ cs) ≡ behind_letter letter cs
letter_passed letter c cs is = grind (arith, common_steps)

pub letter_hit : (letter c : ℕ) (cs : List ℕ) → c ≢ 32 → to_ascii_uppercase c ≡ letter → behind_letter letter (c ∷ cs) ≡ Some cs
letter_hit letter c cs other is = grind (arith, common_steps)

letter_miss : (letter c : ℕ) (cs : List ℕ) → c ≢ 32 → to_ascii_uppercase c ≢ letter → behind_letter letter (c ∷ cs) ≡ None
letter_miss letter c cs other differs = grind (arith, common_steps)

pub letter_squeezed : (letter : ℕ) (codes rest : List ℕ) → behind_letter letter codes ≡ Some rest → squeezed codes ≡ letter ∷ squeezed rest
letter_squeezed letter [] rest e = absurd (let none : None ≡ Some rest = e in cc)
letter_squeezed letter (c ∷ cs) rest e = elim (cases_eq c 32) [
  | inl is ↦ at_space c cs is ∙ letter_squeezed letter cs rest (sym (letter_passed letter c cs is) ∙ e)
  | inr other ↦ elim (cases_eq (to_ascii_uppercase c) letter) [
    | inl is ↦
        let both : Some cs ≡ Some rest = sym (letter_hit letter c cs other is) ∙ e in
        let same : cs ≡ rest = cc in
        at_other c cs other ∙ ap (λ l. l ∷ squeezed cs) is ∙ ap (λ r. letter ∷ squeezed r) same
    | inr differs ↦ absurd (let both : None ≡ Some rest = sym (letter_miss letter c cs other differs) ∙ e in cc)
  ]
]

pub squeezed_letter : (letter : ℕ) (codes s : List ℕ) → squeezed codes ≡ letter ∷ s → (rest : List ℕ) × (behind_letter letter codes ≡ Some rest) × (squeezed rest ≡ s)
squeezed_letter letter [] s e = absurd (let none : [] ≡ letter ∷ s = e in cc)
squeezed_letter letter (c ∷ cs) s e = elim (cases_eq c 32) [
  | inl is ↦
      let later = squeezed_letter letter cs s (sym (at_space c cs is) ∙ e) in
      (later.0, letter_passed letter c cs is ∙ later.1, later.2)
  | inr other ↦
      let both : to_ascii_uppercase c ∷ squeezed cs ≡ letter ∷ s = sym (at_other c cs other) ∙ e in
      let first : to_ascii_uppercase c ≡ letter = cc in
      let later : squeezed cs ≡ s = cc in
      (cs, letter_hit letter c cs other first, later)
]

-- ---- a word

pub word_through : (letter : ℕ) (more : Text) (codes rest : List ℕ) (r : Option (List ℕ)) → behind_letter letter codes ≡ r
    → option_and_then (behind_word more) r ≡ Some rest → (next : List ℕ) × (behind_letter letter codes ≡ Some next) × (behind_word more next ≡ Some rest)
word_through letter more codes rest None is e = absurd (let none : None ≡ Some rest = e in cc)
word_through letter more codes rest (Some next) is e = (next, is, e)

pub word_squeezed : (word : Text) (codes rest : List ℕ) → behind_word word codes ≡ Some rest → squeezed codes ≡ word ++ squeezed rest
word_squeezed [] codes rest e = let same : codes ≡ rest = cc in ap squeezed same
word_squeezed (letter ∷ more) codes rest e =
    let first = word_through letter more codes rest (behind_letter letter codes) refl e in
    letter_squeezed letter codes first.0 first.1 ∙ ap (λ s. letter ∷ s) (word_squeezed more first.0 rest first.2)

letter_all : (P : ℕ → Type 0) (letter : ℕ) (codes rest : List ℕ) → behind_letter letter codes ≡ Some rest → All P codes → All P rest
letter_all P letter [] rest e all = absurd (let none : None ≡ Some rest = e in cc)
letter_all P letter (c ∷ cs) rest e all = elim (cases_eq c 32) [
  | inl is ↦ letter_all P letter cs rest (sym (letter_passed letter c cs is) ∙ e) (All-tail P c cs all)
  | inr other ↦ elim (cases_eq (to_ascii_uppercase c) letter) [
    | inl is ↦
        let both : Some cs ≡ Some rest = sym (letter_hit letter c cs other is) ∙ e in
        let same : cs ≡ rest = cc in
        subst (All P) same (All-tail P c cs all)
    | inr differs ↦ absurd (let both : None ≡ Some rest = sym (letter_miss letter c cs other differs) ∙ e in cc)
  ]
]

pub word_all : (P : ℕ → Type 0) (word : Text) (codes rest : List ℕ) → behind_word word codes ≡ Some rest → All P codes → All P rest
word_all P [] codes rest e all = let same : codes ≡ rest = cc in subst (All P) same all
word_all P (letter ∷ more) codes rest e all =
    let first = word_through letter more codes rest (behind_letter letter codes) refl e in
    word_all P more first.0 rest first.2 (letter_all P letter codes first.0 first.1 all)

pub squeezed_word : (word : Text) (codes s : List ℕ) → squeezed codes ≡ word ++ s → (rest : List ℕ) × (behind_word word codes ≡ Some rest) × (squeezed rest ≡ s)
squeezed_word [] codes s e = (codes, refl, e)
squeezed_word (letter ∷ more) codes s e =
    let first = squeezed_letter letter codes (more ++ s) e in
    let later = squeezed_word more first.0 s first.2 in
    (later.0, ap (option_and_then (behind_word more)) first.1 ∙ later.1, later.2)
