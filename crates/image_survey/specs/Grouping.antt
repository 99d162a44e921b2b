-- How images that are the same are found: by their keys in rising order.
use Rattle.std.specs.Prelude.{◌≡◌, ◌<◌, ◌≤◌, ℕ, List, Some, AllPairs, Contains, Option, length}
use Rattle.std.specs.Cmp.Lexicographic.{slice_cmp}
use Rattle.std.specs.List.Sorted.{IsSortedByKey, IsStableByKey}
use Rattle.std.specs.Ordering.{nat_cmp}
use Rattle.image_survey.specs.Same.{AreGroupsUpTo, key_at, lines_from}
use Rattle.image_survey.specs.declared.same.NumberedKey.{NumberedKey}
use Rattle.image_survey.specs.declared.same.SameLine.{SameLine}

abbrev pub key_of : NumberedKey → List ℕ
key_of key = key.key

abbrev pub number_of : NumberedKey → ℕ
number_of key = key.number

-- these are the keys of the first images, each with the number of its image, in the order of the images
pub record AreNumbered (keys : List (Option (List ℕ))) (many : ℕ) (numbered : List NumberedKey) : Type 0 where
  pub each : (one : NumberedKey) → Contains numbered one → (one.number < many) × (key_at keys one.number ≡ Some one.key)
  pub all : (n : ℕ) (key : List ℕ) → n < many → key_at keys n ≡ Some key
      → Contains numbered (record { key = key; number = n })
  pub rising : AllPairs (λ (one later : NumberedKey). one.number < later.number) numbered

-- these are the keys of all images in rising order, those of one key in the order of the images
pub record AreSorted (keys : List (Option (List ℕ))) (all : List NumberedKey) : Type 0 where
  pub numbered : List NumberedKey
  pub are : AreNumbered keys (length keys) numbered
  pub sorted : IsSortedByKey key_of (slice_cmp nat_cmp) all
  pub stable : IsStableByKey key_of (slice_cmp nat_cmp) numbered all

-- the groups that begin among the first so many images have these lines
pub record AreGrouped (keys : List (Option (List ℕ))) (many count : ℕ) (lines : List SameLine) : Type 0 where
  pub groups : List (List ℕ)
  pub are : AreGroupsUpTo keys many groups
  pub counted : count ≡ length groups
  pub few : count ≤ many
  pub is : lines ≡ lines_from 1 groups
