-- The writes that bring the parts of a volume to their places, in order, and what each of them leaves.
use Rattle.std.specs.Prelude.{◌≡◌, ◌≢◌, ◌⊎◌, ◌<◌, ◌≤◌, ◌==◌, ℕ, ◌+◌, true, not, if◌then◌else◌, List, [], ◌∷◌, length, filter, slice_index, All, Contains, Option, Some, None}
use Rattle.vol_layout.specs.Layouts.{IsTarget}
use Rattle.vol_layout.specs.Plans.{IsLegal, moved}
use Rattle.vol_layout.specs.declared.moves.Move.{Move}
use Rattle.vol_format.specs.Directory.{Directory, map_place}
use Rattle.vol_laws.specs.declared.mark.Mark.{Mark}

-- One write: the map's unit at a place, with these marks made in turn; the unit of a part, to the place to which it
-- goes; or the pointer to a part, to name that place.
pub data Task : Type 0 where
  Map : ℕ → List Mark → Task
  Copy : Move → Task
  Pointer : Move → Task

-- How far the work has come: where each part stands, which places are lost, the move whose unit is copied and whose
-- pointer is still to be written, and how many writes and how many moves were made.
pub record Course : Type 0 where
  pub at : List ℕ
  pub lost : List ℕ
  pub copied : Option Move
  pub writes : ℕ
  pub moves : ℕ

-- the place of a number
abbrev pub place_of : Directory → ℕ → ℕ
place_of directory number = slice_index directory.available number

-- the lost places after one more was marked free, or used
abbrev pub without : List ℕ → ℕ → List ℕ
without places place = filter (λ other. not (other == place)) places

abbrev pub lost_after : List ℕ → List Mark → List ℕ
lost_after lost [] = lost
lost_after lost (mark ∷ marks) =
    lost_after (if mark.free then without lost mark.place else (mark.place ∷ without lost mark.place)) marks

-- After a pointer is written, the place is lost that the part has left.
abbrev pub course_after : Directory → Course → Task → Course
course_after directory course (Map at marks) = record course {
  lost = lost_after course.lost marks;
  writes = course.writes + 1;
}
course_after directory course (Copy move) = record course { copied = Some move; writes = course.writes + 1 }
course_after directory course (Pointer move) = record {
  at = moved course.at move;
  lost = place_of directory (slice_index course.at move.part) ∷ [];
  copied = None;
  writes = course.writes + 1;
  moves = course.moves + 1;
}

-- A mark in the map's unit at `at`: an available place at which no part stands, and it is lost if it is to be marked
-- free.
pub record FitsMark (directory : Directory) (course : Course) (at : ℕ) (mark : Mark) : Type 0 where
  pub available : Contains directory.available mark.place
  pub here : map_place directory mark.place ≡ at
  pub no_part : (k : ℕ) → k < length course.at → place_of directory (slice_index course.at k) ≢ mark.place
  pub lost : mark.free ≡ true → Contains course.lost mark.place

-- A unit is copied only to the one place that is lost, and once it is copied the pointer comes next.
abbrev pub Fits : Directory → Course → Task → Type 0
Fits directory course (Map at marks) =
    (course.copied ≡ None) × (at < directory.places) × All (FitsMark directory course at) marks
Fits directory course (Copy move) =
    (course.copied ≡ None) × IsLegal course.at (length directory.available) move
    × (course.lost ≡ place_of directory move.to ∷ [])
Fits directory course (Pointer move) =
    (course.copied ≡ Some move) × IsLegal course.at (length directory.available) move
    × (course.lost ≡ place_of directory move.to ∷ [])

abbrev pub ChangesMap : List Task → Type 0
ChangesMap (Map at marks ∷ tasks) = Unit {0}
ChangesMap tasks = ⊥

-- One place is lost at most, or two where the map has several units; before the first write, those that were lost at
-- first; and where the map has several units, one more until the first change of the map is whole.
abbrev pub IsFewLost : ℕ → ℕ → Course → List Task → Type 0
IsFewLost units first course tasks =
    (length course.lost ≤ 1)
    ⊎ ((2 ≤ units) × (length course.lost ≤ 2))
    ⊎ ((course.writes ≡ 0) × (length course.lost ≤ first))
    ⊎ ((2 ≤ units) × (course.moves ≡ 0) × ChangesMap tasks × (length course.lost ≤ first + 1))

-- the parts stand at their targets, and nothing is lost
pub record IsDone (course : Course) : Type 0 where
  pub target : IsTarget course.at
  pub found : course.lost ≡ []
  pub pointed : course.copied ≡ None

-- Each of these writes fits, and the last leaves all done. `first` places were lost at first.
abbrev pub IsAgenda : Directory → ℕ → Course → List Task → Type 0
IsAgenda directory first course [] = IsDone course
IsAgenda directory first course (task ∷ tasks) =
    Fits directory course task × IsFewLost (length directory.map_units) first course (task ∷ tasks)
    × IsAgenda directory first (course_after directory course task) tasks

-- the start of the work
abbrev pub at_first : List ℕ → List ℕ → Course
at_first at lost = record { at = at; lost = lost; copied = None; writes = 0; moves = 0 }

-- the moves whose pointers are still to be written
abbrev pub moves_of : List Task → List Move
moves_of [] = []
moves_of (Pointer move ∷ tasks) = move ∷ moves_of tasks
moves_of (task ∷ tasks) = moves_of tasks
