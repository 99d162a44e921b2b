-- What is listed is read as what was there: but for its spaces, it goes on as that did, with PRINT for a `?`.
use Rattle.std.proofs.Common.{◌≡◌, ◌⊎◌, ℕ, ◌+◌, ◌-◌, ◌<◌, nat_lt, Bool, true, false, cond, List, [], ◌∷◌, ◌++◌, All, arith, refl, sym, ap, ◌∙◌, inl, inr, append_assoc, codes}
use Rattle.std.specs.Prelude.{flat_map}
use Rattle.std.proofs.lemmas.Grind.{common_steps}
use Rattle.std.proofs.lemmas.List.Elements.{All-head, All-tail}
use Rattle.apple_text.specs.Shown.{Text}
use Rattle.applesoft.specs.Words.{word_of}
use Rattle.applesoft.proofs.Table.{AreLetters, first_letter, is_word, later_letters, no_colon, no_then, upper_letter}
use Rattle.applesoft.proofs.Squeezed.{at_other, squeezed, squeezed-append}

-- ---- the characters of a listing

abbrev pub byte_codes : ℕ → List ℕ
byte_codes byte = cond (nat_lt byte 0x80) (byte ∷ []) (32 ∷ word_of (byte - 0x80) ++ 32 ∷ [])

abbrev pub listed : List ℕ → List ℕ
listed bytes = flat_map byte_codes bytes

pub character_listed : (byte : ℕ) → byte < 128 → byte_codes byte ≡ byte ∷ []
character_listed byte small = grind (arith, common_steps)

pick : (b : Bool) (s t : List ℕ) → b ≡ false → cond b s t ≡ t
pick true s t e = absurd (let no' : true ≡ false = e in cc)
pick false s t e = refl

pub token_listed : (token : ℕ) → byte_codes (0x80 + token) ≡ 32 ∷ word_of token ++ 32 ∷ []
token_listed token =
    let same : (0x80 + token) - 0x80 ≡ token = omega arith in
    pick (nat_lt (0x80 + token) 0x80) ((0x80 + token) ∷ []) (32 ∷ word_of ((0x80 + token) - 0x80) ++ 32 ∷ []) (grind arith)
    ∙ ap (λ t. 32 ∷ word_of t ++ 32 ∷ []) same

pub listed_cons : (byte : ℕ) (bytes : List ℕ) → listed (byte ∷ bytes) ≡ byte_codes byte ++ listed bytes
listed_cons byte bytes = refl

-- characters are listed as they are
pub characters_listed : (cs bytes : List ℕ) → All (λ c. c < 128) cs → listed (cs ++ bytes) ≡ cs ++ listed bytes
characters_listed [] bytes small = refl
characters_listed (c ∷ cs) bytes small =
    ap (λ s. s ++ listed (cs ++ bytes)) (character_listed c (All-head (λ d. d < 128) c cs small))
    ∙ ap (λ s. c ∷ s) (characters_listed cs bytes (All-tail (λ d. d < 128) c cs small))

-- ---- words, squeezed

pub letters_squeezed : (w : Text) → AreLetters w → squeezed w ≡ w
letters_squeezed [] are = refl
letters_squeezed (c ∷ w) are =
    let letter = first_letter c w are in
    at_other c w (λ e. omega (arith, letter.more, e))
    ∙ ap (λ d. d ∷ squeezed w) (upper_letter c letter)
    ∙ ap (λ s. c ∷ s) (letters_squeezed w (later_letters c w are))

-- a word between spaces
pub token_squeezed : (token : ℕ) (s : List ℕ) → token < 107 → squeezed ((32 ∷ word_of token ++ 32 ∷ []) ++ s) ≡ word_of token ++ squeezed s
token_squeezed token s within =
    ap squeezed (append_assoc (word_of token) (32 ∷ []) s)
    ∙ squeezed-append (word_of token) (32 ∷ s)
    ∙ ap (λ w. w ++ squeezed s) (letters_squeezed (word_of token) (is_word token within).letters)

-- ---- what goes on alike

-- a statement may begin behind it
pub data Ends (p : List ℕ) : Type 0 where
  colon : (q : List ℕ) → p ≡ q ++ 58 ∷ [] → Ends p
  then : (q : List ℕ) → p ≡ q ++ codes "THEN" → Ends p

-- the same, or the same up to a `?` behind which the other goes on with a P
pub data Ahead (begins : Bool) (u v : List ℕ) : Type 0 where
  same : u ≡ v → Ahead begins u v
  now : (u' v' : List ℕ) → begins ≡ true → u ≡ 63 ∷ u' → v ≡ 80 ∷ v' → Ahead begins u v
  later : (p u' v' : List ℕ) → Ends p → u ≡ p ++ 63 ∷ u' → v ≡ p ++ 80 ∷ v' → Ahead begins u v

ends_more : (x p : List ℕ) → Ends p → Ends (x ++ p)
ends_more x p (colon q e) = colon (x ++ q) (ap (λ p. x ++ p) e ∙ sym (append_assoc x q (58 ∷ [])))
ends_more x p (then q e) = then (x ++ q) (ap (λ p. x ++ p) e ∙ sym (append_assoc x q (codes "THEN")))

-- something before both, behind which no statement may begin
pub ahead_of : (begins : Bool) (x u v : List ℕ) → Ahead false u v → Ahead begins (x ++ u) (x ++ v)
ahead_of begins x u v (same e) = same (ap (λ s. x ++ s) e)
ahead_of begins x u v (now u' v' is e e') = absurd (let no' : false ≡ true = is in cc)
ahead_of begins x u v (later p u' v' ends e e') =
    later (x ++ p) u' v' (ends_more x p ends) (ap (λ s. x ++ s) e ∙ sym (append_assoc x p (63 ∷ u'))) (ap (λ s. x ++ s) e' ∙ sym (append_assoc x p (80 ∷ v')))

-- something before both, behind which one may
pub ahead_of_ends : (begins : Bool) (x u v : List ℕ) → Ends x → Ahead true u v → Ahead begins (x ++ u) (x ++ v)
ahead_of_ends begins x u v ends (same e) = same (ap (λ s. x ++ s) e)
ahead_of_ends begins x u v ends (now u' v' is e e') = later x u' v' ends (ap (λ s. x ++ s) e) (ap (λ s. x ++ s) e')
ahead_of_ends begins x u v ends (later p u' v' ends' e e') =
    later (x ++ p) u' v' (ends_more x p ends') (ap (λ s. x ++ s) e ∙ sym (append_assoc x p (63 ∷ u'))) (ap (λ s. x ++ s) e' ∙ sym (append_assoc x p (80 ∷ v')))

pub ends_colon : Ends (58 ∷ [])
ends_colon = colon [] refl

pub ends_then : Ends (codes "THEN")
ends_then = then [] refl

-- ---- a word that stands in the listing stood there before

-- one of two texts that go on alike begins with the other
split_front : (w p s t : List ℕ) → w ++ s ≡ p ++ t → ((r : List ℕ) × (p ≡ w ++ r)) ⊎ ((c : ℕ) × (r : List ℕ) × (w ≡ p ++ c ∷ r) × (t ≡ c ∷ (r ++ s)))
split_front [] p s t e = inl (p, refl)
split_front (a ∷ w) [] s t e = inr (a, w, refl, sym e)
split_front (a ∷ w) (b ∷ p) s t e =
    let whole : a ∷ (w ++ s) ≡ b ∷ (p ++ t) = e in
    let first : a ≡ b = cc in
    let rest : w ++ s ≡ p ++ t = cc in
    elim (split_front w p s t rest) [
      | inl (r, e') ↦ inl (r, ap (λ c. c ∷ p) (sym first) ∙ ap (λ q. a ∷ q) e')
      | inr (c, r, e', e'') ↦ inr (c, r, ap (λ d. d ∷ w) first ∙ ap (λ q. b ∷ q) e', e'')
    ]

-- no word goes on over such an end
not_over : (k : ℕ) (p r : List ℕ) → k < 107 → Ends p → word_of k ≡ p ++ 80 ∷ r → ⊥
not_over k p r within (colon q e) is =
    no_colon k q r within (is ∙ ap (λ p. p ++ 80 ∷ r) e ∙ append_assoc q (58 ∷ []) (80 ∷ r))
not_over k p r within (then q e) is =
    no_then k q r within (is ∙ ap (λ p. p ++ 80 ∷ r) e ∙ append_assoc q (codes "THEN") (80 ∷ r))

stood_before : (k : ℕ) (p u' v' s : List ℕ) → k < 107 → Ends p → p ++ 80 ∷ v' ≡ word_of k ++ s → (s' : List ℕ) × (p ++ 63 ∷ u' ≡ word_of k ++ s')
stood_before k p u' v' s within ends e = elim (split_front (word_of k) p s (80 ∷ v') (sym e)) [
  | inl (r, is) ↦ (r ++ 63 ∷ u', ap (λ q. q ++ 63 ∷ u') is ∙ append_assoc (word_of k) r (63 ∷ u'))
  | inr (c, r, is, is') ↦
      let whole : 80 ∷ v' ≡ c ∷ (r ++ s) = is' in
      let first : c ≡ 80 = cc in
      absurd (not_over k p r within ends (is ∙ ap (λ d. p ++ d ∷ r) first))
]

pub stood : (k : ℕ) (begins : Bool) (u v s : List ℕ) → k < 107 → Ahead begins u v → ((u' : List ℕ) → u ≡ 63 ∷ u' → ⊥) → v ≡ word_of k ++ s
    → (s' : List ℕ) × (u ≡ word_of k ++ s')
stood k begins u v s within (same e) other is = (s, e ∙ is)
stood k begins u v s within (now u' v' b e e') other is = absurd (other u' e)
stood k begins u v s within (later p u' v' ends e e') other is =
    let before = stood_before k p u' v' s within ends (sym e' ∙ is) in
    (before.0, e ∙ before.1)
