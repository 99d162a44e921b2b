-- The images of which it is told that they are the same as another.
use Rattle.std.specs.Prelude.{◌≡◌, ◌≢◌, ◌<◌, ◌+◌, ℕ, zero, suc, List, [], ◌∷◌, Contains, Option, length, slice_index_or}
use Rattle.std.proofs.Common.{sym, ap, subst, arith, ⊎_elim}
use Rattle.std.proofs.lemmas.List.Elements.{All-contains, Contains-append_cases, Contains-append_left, Contains-append_right}
use Rattle.vol_format.proofs.Lists.{at_front, element, in_either, in_front, in_map, out_of_map}
use Rattle.image_survey.specs.Same.{AreSameLines, IsGroup, IsShared, IsToldSame, group_lines, lines_from}
use Rattle.image_survey.specs.declared.same.SameLine.{SameLine}

abbrev line_of : ℕ → ℕ → SameLine
line_of group image = record { group = group; image = image }

-- a line of groups is that of an image in one of them
group_of : (number : ℕ) (groups : List (List ℕ)) (told n : ℕ) → Contains (lines_from number groups) (line_of told n)
    → (group : List ℕ) × Contains groups group × Contains group n
group_of number [] told n has = absurd (omega (arith, has.1))
group_of number (first ∷ groups) told n has =
    ⊎_elim
    (λ here.
    let from = out_of_map (line_of number) first (line_of told n) here in
    (first, at_front first groups, subst (Contains first) (ap (λ (line : SameLine). line.image) from.2) from.1))
    (λ later. let from = group_of (number + 1) groups told n later in (from.0, in_front first groups from.0 from.1, from.2))
    (Contains-append_cases (group_lines number first) (lines_from (number + 1) groups) (line_of told n) has)

-- and each image in one of them has a line
line_in : (number : ℕ) (groups : List (List ℕ)) (group : List ℕ) (n : ℕ) → Contains groups group → Contains group n
    → (told : ℕ) × Contains (lines_from number groups) (line_of told n)
line_in number [] group n has inside = absurd (omega (arith, has.1))
line_in number (first ∷ groups) group n has inside =
    ⊎_elim
    (λ same. (
      number,
      Contains-append_left (group_lines number first) (lines_from (number + 1) groups) (line_of number n)
          (in_map (line_of number) first n (subst (λ (g : List ℕ). Contains g n) (sym same) inside)),
    ))
    (λ later.
    let from = line_in (number + 1) groups group n later inside in
    (from.0, Contains-append_right (group_lines number first) (lines_from (number + 1) groups) (line_of from.0 n) from.1))
    (in_either first groups group has)

-- a group has another image with the content of each
module _ (keys : List (Option (List ℕ))) (group : List ℕ) (is : IsGroup keys group) (n : ℕ) where
  shares : (other : ℕ) → Contains group n → Contains group other → n ≢ other → IsShared keys (length keys) n
  shares other inside has apart =
      let one = (is.alike.members n).0 inside in
      let two = (is.alike.members other).0 has in
      record { first = one.0; other = other; within = two.0; apart = apart; key = is.key; has = one.1; same = two.1 }

  another : (a : ℕ) → a < length group → slice_index_or group a n ≡ n → Contains group n → IsShared keys (length keys) n
  another zero low at inside =
      let more : 1 < length group = omega (arith, is.several) in
      let less = is.alike.rising 0 1 n (omega arith) more in
      shares (slice_index_or group 1 n) inside (element group 1 n more) (λ same. omega (arith, less, at, same))
  another (suc a) low at inside =
      let less = is.alike.rising 0 (suc a) n (omega arith) low in
      shares (slice_index_or group 0 n) inside (element group 0 n (omega (arith, low))) (λ same. omega (arith, less, at, same))

pub told_is_shared : (keys : List (Option (List ℕ))) (lines : List SameLine) (n : ℕ) → AreSameLines keys lines → IsToldSame lines n
    → IsShared keys (length keys) n
told_is_shared keys lines n are told =
    let from = group_of 1 are.groups told.0 n (subst (λ (some : List SameLine). Contains some (line_of told.0 n)) are.is told.1) in
    let group = All-contains (IsGroup keys) are.groups from.0 are.are.each from.1 in
    another keys from.0 group n from.2.0 from.2.1 from.2.2 from.2

pub shared_is_told : (keys : List (Option (List ℕ))) (lines : List SameLine) (n : ℕ) → AreSameLines keys lines → IsShared keys (length keys) n
    → IsToldSame lines n
shared_is_told keys lines n are shared =
    let from = are.are.all n shared in
    let line = line_in 1 are.groups from.0 n from.1 from.2 in
    (line.0, subst (λ (some : List SameLine). Contains some (line_of line.0 n)) (sym are.is) line.1)
