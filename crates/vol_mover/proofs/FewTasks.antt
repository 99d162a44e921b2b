-- How many writes there are at most.
use Rattle.std.specs.Prelude.{◌≤◌, ◌==◌, ℕ, ◌+◌, ◌*◌, Bool, true, false, not, if◌then◌else◌, Some, List, [], ◌∷◌, length, filter, slice_index}
use Rattle.std.proofs.Common.{refl, arith}
use Rattle.std.proofs.lemmas.List.{length-append}
use Rattle.std.proofs.lemmas.List.Filters.{length-filter_both}
use Rattle.vol_layout.specs.Plans.{moved}
use Rattle.vol_layout.specs.declared.moves.Move.{Move}
use Rattle.vol_format.specs.Directory.{Directory, map_place}
use Rattle.vol_laws.specs.declared.mark.Mark.{Mark}
use Rattle.vol_mover.specs.Tasks.{Task, Map, Copy, Pointer, place_of}
use Rattle.vol_mover.specs.Writes.{with_mark, freed, releases, outside, change, changes_between, writes_after, writes_of}

pub filter_fewer : (p : ℕ → Bool) (xs : List ℕ) → length (filter p xs) ≤ length xs
filter_fewer p xs = omega (arith, length-filter_both p (λ x. not (p x)) (λ x. refl) xs)

one_more_mark : (at : ℕ) (mark : Mark) (tasks : List Task) → length (with_mark at mark tasks) ≤ length tasks + 1
one_more_mark at mark [] = omega arith
one_more_mark at mark (Copy move ∷ tasks) = omega arith
one_more_mark at mark (Pointer move ∷ tasks) = omega arith
one_more_mark at mark (Map unit marks ∷ tasks) = by_test (unit == at)
  where
    by_test : (same : Bool) → length (if same then (Map at (mark ∷ marks) ∷ tasks) else (Map at (mark ∷ []) ∷ Map unit marks ∷ tasks)) ≤ length (Map unit marks ∷ tasks) + 1
    by_test true = omega arith
    by_test false = omega arith

few_releases : (directory : Directory) (places : List ℕ) → length (releases directory places) ≤ length places
few_releases directory [] = omega arith
few_releases directory (place ∷ places) =
    omega (arith, one_more_mark (map_place directory place) (freed place) (releases directory places), few_releases directory places)

few_changes : (directory : Directory) (place : ℕ) (lost : List ℕ) → length (change directory place lost) ≤ length lost + 1
few_changes directory place lost =
    omega (
      arith,
      few_releases directory (outside directory (Some (map_place directory place)) lost),
      filter_fewer (λ other. not (map_place directory other == map_place directory place)) lost,
    )

few_between : (directory : Directory) (left to : ℕ) → length (changes_between directory left to) ≤ 2
few_between directory left to = by_test (to == left)
  where
    by_test : (same : Bool) → length (if same then [] else change directory (place_of directory to) (place_of directory left ∷ [])) ≤ 2
    by_test true = omega arith
    by_test false = omega (arith, few_changes directory (place_of directory to) (place_of directory left ∷ []))

few_after : (directory : Directory) (left : ℕ) (at : List ℕ) (moves : List Move) → length (writes_after directory left at moves) ≤ 4 * length moves + 1
few_after directory left at [] = omega (arith, few_releases directory (place_of directory left ∷ []))
few_after directory left at (move ∷ moves) =
    let rest = writes_after directory (slice_index at move.part) (moved at move) moves in
    omega (
      arith,
      few_between directory left move.to,
      few_after directory (slice_index at move.part) (moved at move) moves,
      length-append (changes_between directory left move.to) (Copy move ∷ Pointer move ∷ rest),
    )

pub few_writes : (directory : Directory) (at lost : List ℕ) (moves : List Move) → length (writes_of directory at lost moves) ≤ length lost + 4 * length moves
few_writes directory at lost [] = omega (arith, few_releases directory lost)
few_writes directory at lost (move ∷ moves) =
    let rest = writes_after directory (slice_index at move.part) (moved at move) moves in
    omega (
      arith,
      few_changes directory (place_of directory move.to) lost,
      few_after directory (slice_index at move.part) (moved at move) moves,
      length-append (change directory (place_of directory move.to) lost) (Copy move ∷ Pointer move ∷ rest),
    )
