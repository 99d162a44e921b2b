-- Which images are the same as another: those that have one key, the content of their volumes or the digest of their
-- disks.
use Rattle.std.specs.Prelude.{◌≡◌, ◌≢◌, ◌<◌, ◌≤◌, ◌↔◌, ℕ, ◌+◌, List, [], ◌∷◌, ◌++◌, Option, Some, None, All, AllPairs, Contains, length, map, slice_index, slice_index_or}
use Rattle.image_survey.specs.Told.{Candidate, Told, candidates}
use Rattle.image_survey.specs.declared.file_id.FileId.{FileId}
use Rattle.image_survey.specs.declared.same.SameLine.{SameLine}

abbrev pub no_candidate : Candidate
no_candidate = record { content = None; disk = None; file = None; path = [] }

abbrev pub candidate_at : List Candidate → ℕ → Candidate
candidate_at images n = slice_index_or images n no_candidate

-- the key of an image; one that has none is the same as no other
abbrev pub key_at : List (Option (List ℕ)) → ℕ → Option (List ℕ)
key_at keys n = slice_index_or keys n None

-- these are the numbers of all images with a key, in rising order
pub record AreAlike (keys : List (Option (List ℕ))) (key : List ℕ) (numbers : List ℕ) : Type 0 where
  pub members : (n : ℕ) → Contains numbers n ↔ ((n < length keys) × (key_at keys n ≡ Some key))
  pub rising : AllPairs (λ n later. n < later) numbers

-- so of some key that two of them have, or more
pub record IsGroup (keys : List (Option (List ℕ))) (group : List ℕ) : Type 0 where
  pub key : List ℕ
  pub alike : AreAlike keys key group
  pub several : 2 ≤ length group

-- two of the images, of which the one stands among the first so many, have one key
pub record IsShared (keys : List (Option (List ℕ))) (many n : ℕ) : Type 0 where
  pub first : n < many
  pub other : ℕ
  pub within : other < length keys
  pub apart : n ≢ other
  pub key : List ℕ
  pub has : key_at keys n ≡ Some key
  pub same : key_at keys other ≡ Some key

-- All groups of images of which some stand among the first so many, in the order of the first image of each.
pub record AreGroupsUpTo (keys : List (Option (List ℕ))) (many : ℕ) (groups : List (List ℕ)) : Type 0 where
  pub each : All (IsGroup keys) groups
  pub all : (n : ℕ) → IsShared keys many n → (group : List ℕ) × Contains groups group × Contains group n
  pub begun : All (λ group. slice_index group 0 < many) groups
  pub in_order : AllPairs (λ group later. slice_index group 0 < slice_index later 0) groups

abbrev pub AreGroups : List (Option (List ℕ)) → List (List ℕ) → Type 0
AreGroups keys groups = AreGroupsUpTo keys (length keys) groups

-- the lines of a group of this number, and of groups that are numbered from one on
abbrev pub group_lines : ℕ → List ℕ → List SameLine
group_lines number group = map (λ image. record { group = number; image = image }) group

abbrev pub lines_from : ℕ → List (List ℕ) → List SameLine
lines_from number [] = []
lines_from number (group ∷ groups) = group_lines number group ++ lines_from (number + 1) groups

-- A line for each image whose key another has too, group by group, the groups counted from 1.
pub record AreSameLines (keys : List (Option (List ℕ))) (lines : List SameLine) : Type 0 where
  pub groups : List (List ℕ)
  pub are : AreGroups keys groups
  pub is : lines ≡ lines_from 1 groups

-- a line tells that an image is the same as another
abbrev pub IsToldSame : List SameLine → ℕ → Type 0
IsToldSame lines n = (group : ℕ) × Contains lines (record { group = group; image = n })

-- so it is told exactly of the images whose key another has
abbrev pub TellsShared : List (Option (List ℕ)) → List SameLine → ℕ → Type 0
TellsShared keys lines n = AreSameLines keys lines → (IsToldSame lines n ↔ IsShared keys (length keys) n)

-- ---- one file

abbrev pub AreOneFile : Option FileId → Option FileId → Type 0
AreOneFile (Some one) (Some other) = one ≡ other
AreOneFile (Some one) None = ⊥
AreOneFile None other = ⊥

-- no two of the images that may be told as the same stand in one file
abbrev pub StandApart : List Told → ℕ → ℕ → Type 0
StandApart told one other =
    one ≢ other → ¬ AreOneFile (candidate_at (candidates told) one).file (candidate_at (candidates told) other).file
