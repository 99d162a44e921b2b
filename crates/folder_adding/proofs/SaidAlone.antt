-- Paths with one part.
use Rattle.std.proofs.Common.{◌≡◌, ◌≢◌, ◌<◌, ◌≤◌, ◌∙◌, ℕ, Some, None, All, lit<, length, get_or}
use Rattle.std.specs.Prelude.{Bool, IfNone, IfSome, IsTrue, MatchBool, Option, not}
use Rattle.std.specs.Str.Pattern.{FindsChar}
use Rattle.std.proofs.lemmas.Bool.{both_ways, false_from_ne_true, not-true, not_from_false}
use Rattle.std.proofs.lemmas.List.{get_or_default}
use Rattle.std.proofs.lemmas.Str.Pattern.{IsSplitOnceResult, contains_char, split_parts}
use Rattle.folder_adding.specs.HostPaths.{Text}
use Rattle.folder_adding.specs.Weighing.{IsCut}
use denote.Ref.{Bor}

-- what `contains` tells of a `/`
module _ (path : Text) (has : Bool) (cases : MatchBool has ((i : ℕ) × (j : ℕ) × FindsChar 47 path (Some (i, j)) × (i ≤ j) × (j ≤ length path)) (FindsChar 47 path None)) where
  pub told_alone : IsTrue (not has) → All (λ byte. byte ≢ 47) path
  told_alone lacks k d inside is =
      both_ways has (not-true has lacks) ((contains_char 47 path has cases (lit< tt)).1 k inside (get_or_default path k 0 d inside ∙ is))

  pub alone_told : All (λ byte. byte ≢ 47) path → IsTrue (not has)
  alone_told all =
      not_from_false has (false_from_ne_true has
      (λ is. let at = (contains_char 47 path has cases (lit< tt)).0 is in all at.0 0 at.1 at.2))

lacks_all : (text : Text) → ((i : ℕ) → i < length text → get_or text i 0 ≢ 47) → All (λ byte. byte ≢ 47) text
lacks_all text lacks k d inside is = lacks k inside (get_or_default text k 0 d inside ∙ is)

-- what `split_once` gives at a `/`
pub cut_first : (path : Text) (folder behind : Bor Text) → IsSplitOnceResult 47 path (Some (folder, behind)) → IsCut path folder.now behind.now
cut_first path folder behind is =
    let parts = split_parts 47 path (Some (folder, behind)) is (lit< tt) in
    record { split = parts.0; lacks = lacks_all folder.now parts.1 }

pub no_cut : (path : Text) → IsSplitOnceResult 47 path None → All (λ byte. byte ≢ 47) path
no_cut path is = lacks_all path (split_parts 47 path None is (lit< tt))

pub first_some : (path : Text) (found : Option (Bor Text × Bor Text)) → IsSplitOnceResult 47 path found → IfSome found (λ cut. IsCut path cut.0.now cut.1.now)
first_some path None is = tt
first_some path (Some cut) is = cut_first path cut.0 cut.1 is

pub first_none : (path : Text) (found : Option (Bor Text × Bor Text)) → IsSplitOnceResult 47 path found → IfNone found (All (λ byte. byte ≢ 47) path)
first_none path None is = no_cut path is
first_none path (Some cut) is = tt
