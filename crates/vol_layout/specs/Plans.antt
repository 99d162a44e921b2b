-- Plans: moves of one part each, and where they lead.
use Rattle.std.specs.Prelude.{ℕ, ◌+◌, ◌<◌, ◌≤◌, ◌==◌, List, [], ◌∷◌, length, slice_index, slice_set, Contains, if◌then◌else◌}
use Rattle.vol_layout.specs.declared.moves.Move.{Move}

-- a move of a part to a place where no part stands
pub record IsLegal (c : List ℕ) (places : ℕ) (move : Move) : Type 0 where
  pub part : move.part < length c
  pub place : move.to < places
  pub free : Contains c move.to → ⊥

-- a move of no part, to a place where none stands
abbrev pub LacksPart : List ℕ → Move → Type 0
LacksPart c move = (Contains c move.to → ⊥) × (length c ≤ move.part)

-- a move of a part to no place
abbrev pub LacksPlace : List ℕ → ℕ → Move → Type 0
LacksPlace c places move = (Contains c move.to → ⊥) × (move.part < length c) × (places ≤ move.to)

-- the layout after a move
abbrev pub moved : List ℕ → Move → List ℕ
moved c move = slice_set c move.part move.to

-- the layout after all these moves
abbrev pub after : List ℕ → List Move → List ℕ
after c [] = c
after c (move ∷ moves) = after (moved c move) moves

-- each move is legal where it is made
abbrev pub IsPlan : List ℕ → ℕ → List Move → Type 0
IsPlan c places [] = Unit {0}
IsPlan c places (move ∷ moves) = IsLegal c places move × IsPlan (moved c move) places moves

-- how many of these moves go elsewhere than into the place that the move before them left, where the move before the
-- first left `left`
abbrev pub starts_after : ℕ → List ℕ → List Move → ℕ
starts_after left c [] = 0
starts_after left c (move ∷ moves) =
    (if move.to == left then 0 else 1) + starts_after (slice_index c move.part) (moved c move) moves

-- how many moves do not follow on: the first, and each that goes elsewhere than into the place that the move before it
-- left
abbrev pub starts : List ℕ → List Move → ℕ
starts c [] = 0
starts c (move ∷ moves) = 1 + starts_after (slice_index c move.part) (moved c move) moves
