-- The fields of a board: where the parts stand, and which places are taken.
use Rattle.std.specs.Prelude.{◌≡◌, ◌↔◌, ℕ, Bool, true, false, List, length, slice_index_or, Contains}
use Rattle.vol_layout.specs.Layouts.{Placement, IsLayout}
use Rattle.ring_cert.specs.declared.board.Board.TheInside.{Inside}

-- what callers see of the fields
abbrev pub standing : {A : Type 0} → Inside A → Placement
standing b = record { at = b.at.items; places = length b.taken.items }

-- a place is told as taken exactly where some part stands at it
abbrev pub TellsTaken : List ℕ → List Bool → Type 0
TellsTaken at taken = (place : ℕ) → (slice_index_or taken place false ≡ true) ↔ Contains at place

-- the parts stand at distinct places of the board, and those are told as taken
pub record IsKept {A : Type 0} (b : Inside A) : Type 0 where
  pub layout : IsLayout b.at.items (length b.taken.items)
  pub taken : TellsTaken b.at.items b.taken.items
