-- How many writes a plan's moves take in all, and which moves they make.
use Rattle.std.proofs.Common.{◌≡◌, ◌≢◌, ℕ, ◌+◌, ◌*◌, ◌<◌, ◌≤◌, true, false, List, [], ◌∷◌, ◌++◌, length, refl, ap, ◌∙◌, arith, inl, inr, length-append}
use Rattle.std.specs.Prelude.{◌==◌, slice_index, if◌then◌else◌, Contains, All}
use Rattle.std.proofs.lemmas.Bool.{cases_eq, eq-eqb, ne_eqb}
use Rattle.std.proofs.lemmas.List.{get_or_default}
use Rattle.std.proofs.lemmas.List.Elements.{All-cons}
use Rattle.vol_layout.specs.Layouts.{IsLayout}
use Rattle.vol_layout.specs.Plans.{IsPlan, moved, starts_after}
use Rattle.vol_layout.specs.declared.moves.Move.{Move}
use Rattle.vol_layout.proofs.PlanLemmas.{IsLayout-moved}
use Rattle.vol_format.specs.Directory.{Directory, map_place}
use Rattle.vol_format.specs.Laws.{IsDirectory}
use Rattle.vol_format.specs.Meaning.{Meaning}
use Rattle.vol_laws.specs.declared.mark.Mark.{Mark}
use Rattle.vol_mover.specs.Tasks.{Task, Map, Copy, Pointer, place_of, moves_of}
use Rattle.vol_mover.specs.Work.{LeadsToTarget, AreSpare, IsWork}
use Rattle.vol_mover.specs.Writes.{freed, with_mark, change, changes_between, releases, writes_after, writes_of}
use Rattle.vol_mover.proofs.Changed.{others}
use Rattle.vol_mover.proofs.Counts.{some_release, few_releases, few_changes, changes_by_place, one_by_unit}

-- at least, at most, and where the map has one unit exactly so many writes
record IsCounted (units starts moves writes : ℕ) : Type 0 where
  pub one_unit : units ≡ 1 → writes ≡ 2 * moves + starts + 1
  pub least : 2 * moves + starts + 1 ≤ writes
  pub most : writes ≤ 2 * moves + 2 * starts + 1

record IsChanges (units starts writes : ℕ) : Type 0 where
  pub one_unit : units ≡ 1 → writes ≡ starts
  pub least : starts ≤ writes
  pub most : writes ≤ 2 * starts

module _ (format : Meaning) (directory : Directory) (is : IsDirectory format directory) where
  abbrev units : ℕ
  units = length directory.map_units

  abbrev places : ℕ
  places = length directory.available

  named : (number : ℕ) → number < places → Contains directory.available (place_of directory number)
  named number within = (number, within, get_or_default directory.available number _ 0 within)

  one_named : (number : ℕ) → number < places → All (Contains directory.available) (place_of directory number ∷ [])
  one_named number within = All-cons (Contains directory.available) (place_of directory number) [] (named number within) (λ i d inside. absurd (omega (arith, inside)))

  changes_counted : (left to : ℕ) → left < places → to < places → IsChanges units (if to == left then 0 else 1) (length (changes_between directory left to))
  changes_counted left to inside inside_to =
      elim (cases_eq to left) [
        | inl same ↦ let t : (to == left) ≡ true = eq-eqb to left same in rw t (record { one_unit = λ one. refl; least = omega arith; most = omega arith })
        | inr ne ↦
            let t : (to == left) ≡ false = ne_eqb to left ne in
            let two = changes_by_place directory (place_of directory to) (place_of directory left ∷ []) in
            let all = few_changes format directory is (place_of directory to) (place_of directory left ∷ []) (named to inside_to) (one_named left inside) (one_by_unit directory (place_of directory left)) in
            rw t (record { one_unit = λ one. omega (arith, all, one); least = omega arith; most = omega (arith, two) })
      ]

  after_counted : (left : ℕ) (at : List ℕ) (moves : List Move) → left < places → IsLayout at places → IsPlan at places moves
      → IsCounted units (starts_after left at moves) (length moves) (length (writes_after directory left at moves))
  after_counted left at [] inside layout plan = record { one_unit = λ one. refl; least = omega arith; most = omega arith }
  after_counted left at (move ∷ moves) inside layout plan =
      let rest = after_counted (slice_index at move.part) (moved at move) moves (layout.below move.part 0 plan.0.part) (IsLayout-moved at places move layout plan.0) plan.1 in
      let here = changes_counted left move.to inside plan.0.place in
      let sum = length-append (changes_between directory left move.to) (Copy move ∷ Pointer move ∷ writes_after directory (slice_index at move.part) (moved at move) moves) in
      record {
        one_unit = λ one. omega (arith, sum, here.one_unit one, rest.one_unit one);
        least = omega (arith, sum, here.least, rest.least);
        most = omega (arith, sum, here.most, rest.most);
      }

  pub writes_are_work : (at lost : List ℕ) (moves : List Move) → LeadsToTarget directory at moves → AreSpare directory at lost
      → IsWork units at lost moves (length (writes_of directory at lost moves))
  writes_are_work at lost [] leads spare = record {
    one_unit = λ one some. absurd (some refl);
    least = λ some. absurd (some refl);
    most = λ two some. absurd (some refl);
    no_moves = λ none. few_releases format directory is lost spare.available spare.by_unit;
    some_lost = λ none some. released_some lost some;
    none_lost = λ none empty. ap (λ ps. length (releases directory ps)) empty;
  }
    where
      released_some : (ps : List ℕ) → ps ≢ [] → 1 ≤ length (releases directory ps)
      released_some [] some = absurd (some refl)
      released_some (p ∷ ps) some = some_release directory p ps
  writes_are_work at lost (move ∷ moves) leads spare =
      let legal = leads.legal.0 in
      let rest = after_counted (slice_index at move.part) (moved at move) moves (leads.layout.below move.part 0 legal.part) (IsLayout-moved at places move leads.layout legal) leads.legal.1 in
      let all = few_changes format directory is (place_of directory move.to) lost (named move.to legal.place) spare.available spare.by_unit in
      let sum = length-append (change directory (place_of directory move.to) lost) (Copy move ∷ Pointer move ∷ writes_after directory (slice_index at move.part) (moved at move) moves) in
      record {
        one_unit = λ one some. omega (arith, sum, all, one, rest.one_unit one);
        least = λ some. omega (arith, sum, rest.least);
        most = λ two some. omega (arith, sum, all, rest.most);
        no_moves = λ none. absurd (omega (arith, ap length none));
        some_lost = λ none some. absurd (omega (arith, ap length none));
        none_lost = λ none empty. absurd (omega (arith, ap length none));
      }

-- the moves of the writes are those of the plan
moves_of-append : (tasks rest : List Task) → moves_of (tasks ++ rest) ≡ moves_of tasks ++ moves_of rest
moves_of-append [] rest = refl
moves_of-append (Map at marks ∷ tasks) rest = moves_of-append tasks rest
moves_of-append (Copy move ∷ tasks) rest = moves_of-append tasks rest
moves_of-append (Pointer move ∷ tasks) rest = ap (λ moves. move ∷ moves) (moves_of-append tasks rest)

moves_of-with_mark : (at : ℕ) (mark : Mark) (tasks : List Task) → moves_of (with_mark at mark tasks) ≡ moves_of tasks
moves_of-with_mark at mark [] = refl
moves_of-with_mark at mark (Copy move ∷ tasks) = refl
moves_of-with_mark at mark (Pointer move ∷ tasks) = refl
moves_of-with_mark at mark (Map unit marks ∷ tasks) =
    elim (cases_eq unit at) [
      | inl same ↦ let t : (unit == at) ≡ true = eq-eqb unit at same in rw t refl
      | inr ne ↦ let t : (unit == at) ≡ false = ne_eqb unit at ne in rw t refl
    ]

moves_of-releases : (directory : Directory) (places : List ℕ) → moves_of (releases directory places) ≡ []
moves_of-releases directory [] = refl
moves_of-releases directory (p ∷ ps) = moves_of-with_mark (map_place directory p) (freed p) (releases directory ps) ∙ moves_of-releases directory ps

moves_of-change : (directory : Directory) (place : ℕ) (lost : List ℕ) (rest : List Task) → moves_of (change directory place lost ++ rest) ≡ moves_of rest
moves_of-change directory place lost rest =
    moves_of-append (change directory place lost) rest ∙ ap (λ moves. moves ++ moves_of rest) (moves_of-releases directory (others directory place lost))

moves_of-changes_between : (directory : Directory) (left to : ℕ) (rest : List Task) → moves_of (changes_between directory left to ++ rest) ≡ moves_of rest
moves_of-changes_between directory left to rest =
    elim (cases_eq to left) [
      | inl same ↦ let t : (to == left) ≡ true = eq-eqb to left same in rw t refl
      | inr ne ↦ let t : (to == left) ≡ false = ne_eqb to left ne in rw t (moves_of-change directory (place_of directory to) (place_of directory left ∷ []) rest)
    ]

moves_of-writes_after : (directory : Directory) (left : ℕ) (at : List ℕ) (moves : List Move) → moves_of (writes_after directory left at moves) ≡ moves
moves_of-writes_after directory left at [] = refl
moves_of-writes_after directory left at (move ∷ moves) =
    moves_of-changes_between directory left move.to (Copy move ∷ Pointer move ∷ writes_after directory (slice_index at move.part) (moved at move) moves)
    ∙ ap (λ more. move ∷ more) (moves_of-writes_after directory (slice_index at move.part) (moved at move) moves)

pub moves_of-writes_of : (directory : Directory) (at lost : List ℕ) (moves : List Move) → moves_of (writes_of directory at lost moves) ≡ moves
moves_of-writes_of directory at lost [] = moves_of-releases directory lost
moves_of-writes_of directory at lost (move ∷ moves) =
    moves_of-change directory (place_of directory move.to) lost (Copy move ∷ Pointer move ∷ writes_after directory (slice_index at move.part) (moved at move) moves)
    ∙ ap (λ more. move ∷ more) (moves_of-writes_after directory (slice_index at move.part) (moved at move) moves)
