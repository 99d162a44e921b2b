-- A path is split at its last slash in one way.
use Rattle.std.proofs.Common.{◌≡◌, ◌≢◌, ◌∙◌, ◌==◌, ◌&&◌, ◌<◌, ℕ, suc, Bool, true, false, not, [], ◌∷◌, ◌++◌, Some, None, T, length, get_or, take, drop, refl, ap, sym, subst, ⊎_elim, arith, eqb-true, ne_eqb, append_assoc, take-append-drop}
use Rattle.std.specs.Path.{HasNoSlash, has_no_slash}
use Rattle.std.specs.Str.Pattern.{RFindsChar}
use Rattle.std.proofs.lemmas.Str.Pattern.{NoCharPasses-char, drop_at_char}
use Rattle.shop_host.specs.State.{Path}
use Rattle.shop_host.specs.Paths.{IsIn}

-- a path with a slash has one
has_slash : (front rest : Path) → has_no_slash (front ++ (47 ∷ rest)) ≡ false
has_slash [] rest = refl
has_slash (b ∷ front) rest = and_none (not (b == 47)) (has_no_slash (front ++ (47 ∷ rest))) (has_slash front rest)
  where
    and_none : (x y : Bool) → y ≡ false → (x && y) ≡ false
    and_none true y e = e
    and_none false y e = refl

-- so it is none without
clash : (path front rest : Path) → HasNoSlash path → path ≡ front ++ (47 ∷ rest) → ⊥
clash path front rest none e = subst T (ap has_no_slash e ∙ has_slash front rest) none

unique : (a b c d : Path) → a ++ (47 ∷ b) ≡ c ++ (47 ∷ d) → HasNoSlash b → HasNoSlash d → (a ≡ c) × (b ≡ d)
unique [] b [] d e nb nd = (refl, cc)
unique [] b (y ∷ c) d e nb nd =
    let tail : b ≡ c ++ (47 ∷ d) = cc in absurd (clash b c d nb tail)
unique (x ∷ a) b [] d e nb nd =
    let tail : d ≡ a ++ (47 ∷ b) = cc in absurd (clash d a b nd tail)
unique (x ∷ a) b (y ∷ c) d e nb nd =
    let tail : a ++ (47 ∷ b) ≡ c ++ (47 ∷ d) = cc in
    let more = unique a b c d tail nb nd in
    let head : x ≡ y = cc in
    (cc (more.0), more.1)

no_slash : (bs : Path) → ((i : ℕ) → i < length bs → get_or bs i 0 ≢ 47) → HasNoSlash bs
no_slash [] each = tt
no_slash (b ∷ bs) each =
    both (not (b == 47)) (has_no_slash bs) (subst (λ x. T (not x)) (sym (ne_eqb b 47 (each 0 (omega arith)))) tt)
    (no_slash bs (λ i below. each (suc i) (omega arith)))
  where
    both : (x y : Bool) → T x → T y → T (x && y)
    both true y one other = other
    both false y one other = one

-- a path without a slash is a name
pub in_none : (path : Path) → HasNoSlash path → (folder name : Path) → IsIn folder name path
    → (folder ≡ 46 ∷ []) × (name ≡ path)
in_none path none folder name is =
    ⊎_elim (λ plain. (plain.1, sym plain.0))
    (λ other. absurd (⊎_elim (λ root. clash path [] name none root.0) (λ below. clash path folder name none (below.0 ∙ append_assoc folder (47 ∷ []) name)) other))
    is.1

-- a path with one slash, at its front, is that of a name in the root
pub in_root : (path front rest : Path) → HasNoSlash rest × (path ≡ front ++ (47 ∷ rest)) → front ≡ []
    → (folder name : Path) → IsIn folder name path → (folder ≡ 47 ∷ []) × (name ≡ rest)
in_root path front rest parts empty folder name is =
    ⊎_elim (λ plain. absurd (clash name front rest is.0 (sym plain.0 ∙ parts.1)))
    (λ other. ⊎_elim
    (λ root. (root.1, sym (unique front rest [] name (sym parts.1 ∙ root.0) parts.0 is.0).1))
    (λ below. absurd (below.1 (sym (unique front rest folder name (sym parts.1 ∙ (below.0 ∙ append_assoc folder (47 ∷ []) name)) parts.0 is.0).0 ∙ empty)))
    other)
    is.1

-- any other is that of a name in the folder before its last slash
pub in_below : (path front rest : Path) → HasNoSlash rest × (path ≡ front ++ (47 ∷ rest)) → front ≢ []
    → (folder name : Path) → IsIn folder name path → (folder ≡ front) × (name ≡ rest)
in_below path front rest parts some folder name is =
    ⊎_elim (λ plain. absurd (clash name front rest is.0 (sym plain.0 ∙ parts.1)))
    (λ other. ⊎_elim
    (λ root. absurd (some (unique front rest [] name (sym parts.1 ∙ root.0) parts.0 is.0).0))
    (λ below. let same = unique front rest folder name (sym parts.1 ∙ (below.0 ∙ append_assoc folder (47 ∷ []) name)) parts.0 is.0 in (sym same.0, sym same.1))
    other)
    is.1

pub none_of : (path : Path) → RFindsChar 47 path None → HasNoSlash path
none_of path none = no_slash path (λ i below. NoCharPasses-char 47 path i none (omega arith) below)

-- what stands before and behind the last slash
pub parts_of : (path front rest : Path) (i j : ℕ) → RFindsChar 47 path (Some (i, j)) → front ≡ take i path
    → rest ≡ drop j path → HasNoSlash rest × (path ≡ front ++ (47 ∷ rest))
parts_of path front rest i j finds before after = (
  subst HasNoSlash (sym after) (no_slash (drop j path) (λ k below. NoCharPasses-char 47 (drop j path) k finds.0 (omega arith) below)),
  sym (take-append-drop i path) ∙ ap (λ t. take i path ++ t) (drop_at_char 47 path i j finds.1 (omega arith))
      ∙ ap (λ f. f ++ (47 ∷ drop j path)) (sym before) ∙ ap (λ r. front ++ (47 ∷ r)) (sym after),
)

-- what `is_empty` tells
pub empty : (xs : Path) (is : Bool) → is ≡ (length xs == 0) → is ≡ true → xs ≡ []
empty [] is e yes_it_is = refl
empty (x ∷ xs) is e yes_it_is = let none = eqb-true (length (x ∷ xs)) 0 (sym e ∙ yes_it_is) in absurd (omega arith)

pub not_empty : (xs : Path) (is : Bool) → is ≡ (length xs == 0) → is ≡ false → xs ≢ []
not_empty [] is e no_it_is_not = let never : false ≡ true = sym no_it_is_not ∙ e in cc
not_empty (x ∷ xs) is e no_it_is_not = λ same. cc
