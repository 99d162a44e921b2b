-- What is computed over the table of words.
use Rattle.std.proofs.Common.{◌≡◌, ◌≢◌, ℕ, zero, suc, ◌+◌, ◌<◌, ◌==◌, ◌&&◌, ◌||◌, not, nat_lt, Bool, true, false, List, [], ◌∷◌, ◌++◌, length, get_or, arith, refl, sym, ap, ◌∙◌, subst, codes}
use Rattle.std.specs.Char.{to_ascii_uppercase}
use Rattle.std.proofs.lemmas.Grind.{common_steps}
use Rattle.apple_text.specs.Shown.{Text}
use Rattle.applesoft.specs.Words.{word_of, words}
use Rattle.applesoft.specs.Scan.{is_taken_alone}

-- ---- a test of each word by its token

all_from : (ℕ → Text → Bool) → ℕ → List Text → Bool
all_from f token [] = true
all_from f token (w ∷ ws) = f token w && all_from f (suc token) ws

both : (a b : Bool) → (a && b) ≡ true → (a ≡ true) × (b ≡ true)
both true b e = (refl, e)
both false b e = absurd (let no' : false ≡ true = e in cc)

all_at : (f : ℕ → Text → Bool) (token : ℕ) (ws : List Text) (k : ℕ) → all_from f token ws ≡ true → k < length ws → f (token + k) (get_or ws k []) ≡ true
unfolding all_from
all_at f token [] k e within = absurd (omega (arith, within))
all_at f token (w ∷ ws) zero e within =
    let same : token ≡ token + 0 = omega arith in subst (λ t. f t w ≡ true) same (both (f token w) (all_from f (suc token) ws) e).0
all_at f token (w ∷ ws) (suc k) e within =
    let same : suc token + k ≡ token + suc k = omega arith in
    subst (λ t. f t (get_or ws k []) ≡ true) same (all_at f (suc token) ws k (both (f token w) (all_from f (suc token) ws) e).1 (omega (arith, within)))

negated : (a : Bool) → not a ≡ true → a ≡ false
negated true e = absurd (let no' : false ≡ true = e in cc)
negated false e = refl

-- ---- the letters of words

pub record IsLetter (c : ℕ) : Type 0 where
  pub more : 32 < c
  pub less : c < 97
  pub no_quote : c ≢ 34
  pub no_question : c ≢ 63

pub AreLetters : Text → Type 0
AreLetters [] = Unit {0}
AreLetters (c ∷ cs) = IsLetter c × AreLetters cs

pub no_letters : AreLetters []
unfolding AreLetters
no_letters = tt

pub first_letter : (c : ℕ) (cs : Text) → AreLetters (c ∷ cs) → IsLetter c
unfolding AreLetters
first_letter c cs are = are.0

pub later_letters : (c : ℕ) (cs : Text) → AreLetters (c ∷ cs) → AreLetters cs
unfolding AreLetters
later_letters c cs are = are.1

pub upper_letter : (c : ℕ) → IsLetter c → to_ascii_uppercase c ≡ c
upper_letter c is = let small : c < 97 = is.less in grind (arith, common_steps)

test_letter : ℕ → Bool
test_letter c = nat_lt 32 c && nat_lt c 97 && not (c == 34) && not (c == 63)

test_letters : Text → Bool
test_letters [] = true
test_letters (c ∷ cs) = test_letter c && test_letters cs

letter_of : (c : ℕ) → test_letter c ≡ true → IsLetter c
unfolding test_letter
letter_of c e = record { more = grind arith; less = grind arith; no_quote = grind arith; no_question = grind arith }

letters_of : (w : Text) → test_letters w ≡ true → AreLetters w
unfolding test_letters AreLetters
letters_of [] e = tt
letters_of (c ∷ cs) e =
    let p = both (test_letter c) (test_letters cs) e in (letter_of c p.0, letters_of cs p.1)

test_word : ℕ → Text → Bool
test_word token [] = false
test_word token (c ∷ cs) = not (is_taken_alone c) && test_letters (c ∷ cs)

-- a word: its first letter, which is not taken as it is, and others
pub record IsWord (w : Text) : Type 0 where
  pub first : ℕ
  pub later : Text
  pub split : w ≡ first ∷ later
  pub not_alone : is_taken_alone first ≡ false
  pub letters : AreLetters w

word_from : (token : ℕ) (w : Text) → test_word token w ≡ true → IsWord w
unfolding test_word
word_from token [] e = absurd (let no' : false ≡ true = e in cc)
word_from token (c ∷ cs) e =
    let p = both (not (is_taken_alone c)) (test_letters (c ∷ cs)) e in record {
      first = c;
      later = cs;
      split = refl;
      not_alone = negated (is_taken_alone c) p.0;
      letters = letters_of (c ∷ cs) p.1;
    }

all_words : all_from test_word 0 words ≡ true
unfolding all_from test_word test_letters test_letter
all_words = refl

pub is_word : (k : ℕ) → k < 107 → IsWord (word_of k)
is_word k within = word_from (0 + k) (word_of k) (all_at test_word 0 words k all_words (omega (arith, within)))

-- ---- fronts

-- whether one of two texts begins with the other
compatible : Text → Text → Bool
compatible [] p = true
compatible (a ∷ w) [] = true
compatible (a ∷ w) (b ∷ p) = (a == b) && compatible w p

compatible_of : (w p s t : Text) → w ++ s ≡ p ++ t → compatible w p ≡ true
unfolding compatible
compatible_of [] p s t e = refl
compatible_of (a ∷ w) [] s t e = refl
compatible_of (a ∷ w) (b ∷ p) s t e =
    let whole : a ∷ (w ++ s) ≡ b ∷ (p ++ t) = e in
    let first : a ≡ b = cc in
    let later : w ++ s ≡ p ++ t = cc in
    let rest : compatible w p ≡ true = compatible_of w p s t later in
    grind (arith, common_steps)

test_print : ℕ → Text → Bool
test_print token w = not (nat_lt token 0x3a && compatible w (codes "PRINT"))

all_print : all_from test_print 0 words ≡ true
unfolding all_from test_print compatible
all_print = refl

print_test : (k : ℕ) (w : Text) → k < 0x3a → test_print (0 + k) w ≡ true → compatible w (codes "PRINT") ≡ true → ⊥
unfolding test_print
print_test k w less test fits = grind (arith, common_steps)

-- no word before PRINT stands where PRINT does
pub none_before_print : (k : ℕ) (s t : Text) → k < 0x3a → word_of k ++ s ≡ codes "PRINT" ++ t → ⊥
none_before_print k s t less e =
    print_test k (word_of k) less (all_at test_print 0 words k all_print (omega (arith, less))) (compatible_of (word_of k) (codes "PRINT") s t e)

test_at : ℕ → Text → Bool
test_at token w = not (nat_lt 0x45 token && compatible w (codes "AT") && not (token == 0x61))

all_at_words : all_from test_at 0 words ≡ true
unfolding all_from test_at compatible
all_at_words = refl

at_test : (k : ℕ) (w : Text) → 0x45 < k → test_at (0 + k) w ≡ true → compatible w (codes "AT") ≡ true → k ≡ 0x61
unfolding test_at
at_test k w more test fits = grind (arith, common_steps)

-- behind AT in the table only ATN stands where AT does
pub only_atn : (k : ℕ) (s t : Text) → 0x45 < k → k < 107 → word_of k ++ s ≡ codes "AT" ++ t → k ≡ 0x61
only_atn k s t more within e =
    at_test k (word_of k) more (all_at test_at 0 words k all_at_words (omega (arith, within))) (compatible_of (word_of k) (codes "AT") s t e)

test_to : ℕ → Text → Bool
test_to token w = not (compatible w (codes "TO") && not (token == 0x41))

all_to : all_from test_to 0 words ≡ true
unfolding all_from test_to compatible
all_to = refl

to_test : (k : ℕ) (w : Text) → test_to (0 + k) w ≡ true → compatible w (codes "TO") ≡ true → k ≡ 0x41
unfolding test_to
to_test k w test fits = grind (arith, common_steps)

-- only TO stands where TO does
pub only_to : (k : ℕ) (s t : Text) → k < 107 → word_of k ++ s ≡ codes "TO" ++ t → k ≡ 0x41
only_to k s t within e =
    to_test k (word_of k) (all_at test_to 0 words k all_to (omega (arith, within))) (compatible_of (word_of k) (codes "TO") s t e)

-- ---- parts of words

begins : Text → Text → Bool
begins [] w = true
begins (a ∷ p) [] = false
begins (a ∷ p) (b ∷ w) = (a == b) && begins p w

occurs : Text → Text → Bool
occurs p [] = begins p []
occurs p (b ∷ w) = begins p (b ∷ w) || occurs p w

begins_front : (p z : Text) → begins p (p ++ z) ≡ true
unfolding begins
begins_front [] z = refl
begins_front (a ∷ p) z = let rest : begins p (p ++ z) ≡ true = begins_front p z in grind (arith, common_steps)

occurs_begins : (p w : Text) → begins p w ≡ true → occurs p w ≡ true
unfolding occurs
occurs_begins p [] e = e
occurs_begins p (b ∷ w) e = grind (arith, common_steps)

occurs_within : (q p z : Text) → occurs p (q ++ (p ++ z)) ≡ true
unfolding occurs
occurs_within [] p z = occurs_begins p (p ++ z) (begins_front p z)
occurs_within (b ∷ q) p z = let rest : occurs p (q ++ (p ++ z)) ≡ true = occurs_within q p z in grind (arith, common_steps)

test_inside : ℕ → Text → Bool
test_inside token w = not (occurs (codes "THENP") w) && not (occurs (codes ":P") w)

all_inside : all_from test_inside 0 words ≡ true
unfolding all_from test_inside occurs begins
all_inside = refl

inside : (k : ℕ) → k < 107 → (occurs (codes "THENP") (word_of k) ≡ false) × (occurs (codes ":P") (word_of k) ≡ false)
unfolding test_inside
inside k within =
    let p = both (not (occurs (codes "THENP") (word_of k))) (not (occurs (codes ":P") (word_of k))) (all_at test_inside 0 words k all_inside (omega (arith, within))) in
    (negated (occurs (codes "THENP") (word_of k)) p.0, negated (occurs (codes ":P") (word_of k)) p.1)

-- no word goes on with a P behind THEN or a colon
pub no_then : (k : ℕ) (q z : Text) → k < 107 → word_of k ≡ q ++ (codes "THENP" ++ z) → ⊥
no_then k q z within e =
    let yes' : occurs (codes "THENP") (word_of k) ≡ true = ap (occurs (codes "THENP")) e ∙ occurs_within q (codes "THENP") z in
    let no' = (inside k within).0 in
    let clash : false ≡ true = sym no' ∙ yes' in cc

pub no_colon : (k : ℕ) (q z : Text) → k < 107 → word_of k ≡ q ++ (codes ":P" ++ z) → ⊥
no_colon k q z within e =
    let yes' : occurs (codes ":P") (word_of k) ≡ true = ap (occurs (codes ":P")) e ∙ occurs_within q (codes ":P") z in
    let no' = (inside k within).1 in
    let clash : false ≡ true = sym no' ∙ yes' in cc
