-- Which writes make a plan's moves, one after the other.
use Rattle.std.specs.Prelude.{ℕ, ◌==◌, ◌&&◌, true, false, not, if◌then◌else◌, Option, Some, None, List, [], ◌∷◌, ◌++◌, map, filter, slice_index}
use Rattle.vol_layout.specs.Plans.{moved}
use Rattle.vol_layout.specs.declared.moves.Move.{Move}
use Rattle.vol_format.specs.Directory.{Directory, map_place}
use Rattle.vol_laws.specs.declared.mark.Mark.{Mark}
use Rattle.vol_mover.specs.Tasks.{Task, Map, Copy, Pointer, place_of}

-- a place to be marked used, or free
abbrev pub used : ℕ → Mark
used place = record { place = place; free = false }

abbrev pub freed : ℕ → Mark
freed place = record { place = place; free = true }

-- one more mark before these writes, in the first of them if that is of the same unit of the map
abbrev pub with_mark : ℕ → Mark → List Task → List Task
with_mark at mark (Map unit marks ∷ tasks) =
    if unit == at then (Map at (mark ∷ marks) ∷ tasks) else (Map at (mark ∷ []) ∷ Map unit marks ∷ tasks)
with_mark at mark tasks = Map at (mark ∷ []) ∷ tasks

-- These places are marked free, in this order: by one write where places that follow each other have their marks in one
-- unit.
abbrev pub releases : Directory → List ℕ → List Task
releases directory [] = []
releases directory (place ∷ places) = with_mark (map_place directory place) (freed place) (releases directory places)

-- Of some places, those with marks in the unit that has the mark of this place, but for itself.
abbrev pub beside : Directory → ℕ → List ℕ → List ℕ
beside directory place = filter
    (λ other. not (other == place) && (map_place directory other == map_place directory place))

-- Of some places, those with marks in another unit of the map than one, if one is named.
abbrev pub outside : Directory → Option ℕ → List ℕ → List ℕ
outside directory None places = places
outside directory (Some unit) places = filter (λ place. not (map_place directory place == unit)) places

-- A place is marked used and the other lost ones are marked free. The write that marks it comes first.
abbrev pub change : Directory → ℕ → List ℕ → List Task
change directory place lost =
    Map (map_place directory place) (used place ∷ map freed (beside directory place lost))
    ∷ releases directory (outside directory (Some (map_place directory place)) lost)

-- Between a move that left the place of one number and one to that of another: a move that follows on needs no change
-- of the map.
abbrev pub changes_between : Directory → ℕ → ℕ → List Task
changes_between directory left to =
    if to == left then [] else change directory (place_of directory to) (place_of directory left ∷ [])

-- The writes of the moves after one that left the place of number `left`. At the end the place is marked free that the
-- last has left.
abbrev pub writes_after : Directory → ℕ → List ℕ → List Move → List Task
writes_after directory left at [] = releases directory (place_of directory left ∷ [])
writes_after directory left at (move ∷ moves) =
    changes_between directory left move.to ++ Copy move ∷ Pointer move
    ∷ writes_after directory (slice_index at move.part) (moved at move) moves

-- The writes of a plan. Before the first move the map is changed; without moves, the lost places are marked free.
abbrev pub writes_of : Directory → List ℕ → List ℕ → List Move → List Task
writes_of directory at lost [] = releases directory lost
writes_of directory at lost (move ∷ moves) =
    change directory (place_of directory move.to) lost
    ++ Copy move ∷ Pointer move ∷ writes_after directory (slice_index at move.part) (moved at move) moves
