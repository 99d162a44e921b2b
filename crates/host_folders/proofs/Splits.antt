-- A path as what stands before its last slash, and the name behind it.
use Rattle.std.proofs.Common.{◌≡◌, ◌↔◌, ℕ, List, [], ◌∷◌, ◌++◌, Some, None, length, take, drop, Contains, refl, sym, ap, subst, ◌∙◌, arith, lit<}
use Rattle.std.specs.Prelude.{◌==◌, Option, MatchOption, codes}
use Rattle.std.specs.Str.{NoCharPasses}
use Rattle.std.specs.Str.Pattern.{RFindsChar, SplitsAroundMatch}
use Rattle.std.proofs.Math.Seq.{get_or-append_seam}
use Rattle.std.proofs.lemmas.Grind.{get_or_default_zero}
use Rattle.std.proofs.lemmas.List.{append_assoc, length-append, take-append-drop}
use Rattle.std.proofs.lemmas.Str.Pattern.{NoCharPasses-char, drop_at_char}
use denote.Ref.{Bor}
use Rattle.host_folders.specs.Path.{IsSafeName, IsSafePath, only, below}
use Rattle.host_folders.specs.lemmas.Paths.{safe_path-below, safe_path-name}

-- two parts of a path round its last slash
abbrev pub IsSplit : List ℕ → List ℕ → List ℕ → Type 0
IsSplit path parent name = (path ≡ parent ++ codes "/" ++ name) × (¬ Contains name 47)

lacks_slash : (text : List ℕ) → NoCharPasses (λ c. c == 47) text → ¬ Contains text 47
lacks_slash text none has = NoCharPasses-char 47 text has.0 none (lit< tt) has.1 (sym (get_or_default_zero text has.0 47 has.1) ∙ has.2)

-- what `rsplit_once` gives at a slash
pub split_once : (path : List ℕ) (result : Option (Bor (List ℕ) × Bor (List ℕ)))
    → MatchOption result (RFindsChar 47 path None) (λ split. SplitsAroundMatch (RFindsChar 47) path split.0.now split.1.now)
    → MatchOption result (¬ Contains path 47) (λ split. IsSplit path split.0.now split.1.now)
split_once path None none = lacks_slash path none
split_once path (Some split) (i, j, found, front, back, order, front_length, back_length) = (
  sym (take-append-drop i path)
      ∙ ap (λ l. take i path ++ l) (drop_at_char 47 path i j found.1 (lit< tt))
      ∙ ap (λ l. l ++ 47 ∷ drop j path) (sym front)
      ∙ ap (λ l. split.0.now ++ 47 ∷ l) (sym back)
      ∙ sym (append_assoc split.0.now (codes "/") split.1.now),
  subst (λ l. ¬ Contains l 47) (sym back) (lacks_slash (drop j path) found.0),
)

has_slash : (front rest : List ℕ) → Contains (front ++ 47 ∷ rest) 47
has_slash front rest = (length front, omega (arith, length-append front (47 ∷ rest)), get_or-append_seam front 47 rest 47)

-- a list is split in one way at its last slash
one_split : (p n q m : List ℕ) → p ++ 47 ∷ n ≡ q ++ 47 ∷ m → ¬ Contains n 47 → ¬ Contains m 47 → (p ≡ q) × (n ≡ m)
one_split [] n [] m same first second = (refl, cc)
one_split [] n (y ∷ q) m same first second =
    let rest : n ≡ q ++ 47 ∷ m = cc in
    absurd (first (subst (λ l. Contains l 47) (sym rest) (has_slash q m)))
one_split (x ∷ p) n [] m same first second =
    let rest : p ++ 47 ∷ n ≡ m = cc in
    absurd (second (subst (λ l. Contains l 47) rest (has_slash p n)))
one_split (x ∷ p) n (y ∷ q) m same first second =
    let head : x ≡ y = cc in
    let rest : p ++ 47 ∷ n ≡ q ++ 47 ∷ m = cc in
    let behind = one_split p n q m rest first second in
    (cc (head, behind.0), behind.1)

-- a safe path with a slash is a safe path and a safe name behind it
parts : (path : List ℕ) → IsSafePath path → (parent name : List ℕ) → IsSplit path parent name → IsSafePath parent × IsSafeName name
parts _ (only path safe) parent name split = absurd (safe.no_slash (subst (λ l. Contains l 47) (sym (split.0 ∙ append_assoc parent (codes "/") name)) (has_slash parent name)))
parts _ (below p n up safe) parent name split =
    let same = one_split p n parent name (sym (append_assoc p (codes "/") n) ∙ split.0 ∙ append_assoc parent (codes "/") name) safe.no_slash split.1 in
    (subst IsSafePath same.0 up, subst IsSafeName same.1 safe)

pub safe_name-behind : (path parent name : List ℕ) → IsSplit path parent name → IsSafePath path → IsSafeName name
safe_name-behind path parent name split is = (parts path is parent name split).1

pub safe_path-before : (path parent name : List ℕ) → IsSplit path parent name → IsSafeName name → IsSafePath path ↔ IsSafePath parent
safe_path-before path parent name split safe = (λ is. (parts path is parent name split).0, λ is. subst IsSafePath (sym split.0) (safe_path-below parent name is safe))

-- a safe path without a slash is a safe name
single : (path : List ℕ) → IsSafePath path → ¬ Contains path 47 → IsSafeName path
single _ (only path safe) lacks = safe
single _ (below p n up safe) lacks = absurd (lacks (subst (λ l. Contains l 47) (sym (append_assoc p (codes "/") n)) (has_slash p n)))

pub safe_path-single : (path : List ℕ) → ¬ Contains path 47 → IsSafePath path ↔ IsSafeName path
safe_path-single path lacks = (λ is. single path is lacks, safe_path-name path)
