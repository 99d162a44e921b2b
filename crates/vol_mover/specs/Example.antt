-- An example: a map of two units, at the places 6 and 7, each with the marks of 4,096 places.
use Rattle.std.specs.Prelude.{◌≡◌, ℕ, [], ◌∷◌}
use Rattle.std.proofs.Common.{refl}
use Rattle.vol_layout.specs.declared.moves.Move.{Move}
use Rattle.vol_format.specs.Directory.{Directory}
use Rattle.vol_mover.specs.Tasks.{Map, Copy, Pointer}
use Rattle.vol_mover.specs.Writes.{used, freed, writes_of}

abbrev two_units : Directory
two_units = record {
  places = 8192;
  name = [];
  listed = [];
  system = [];
  free = [];
  available = 8 ∷ 9 ∷ 10 ∷ 5000 ∷ 5001 ∷ 5002 ∷ [];
  map_units = 6 ∷ 7 ∷ [];
  map_size = 4096;
}

abbrev go : ℕ → ℕ → Move
go part to = record { part = part; to = to }

-- The parts at 5000 and 5001 move to 8 and 9. Before the second move a place of one unit is marked used, then one of
-- the other free.
pub two_moves :
    writes_of two_units (3 ∷ 4 ∷ []) [] (go 0 0 ∷ go 1 1 ∷ [])
    ≡ Map 6 (used 8 ∷ [])
    ∷ Copy (go 0 0)
    ∷ Pointer (go 0 0)
    ∷ Map 6 (used 9 ∷ [])
    ∷ Map 7 (freed 5000 ∷ [])
    ∷ Copy (go 1 1)
    ∷ Pointer (go 1 1)
    ∷ Map 7 (freed 5001 ∷ [])
    ∷ []
two_moves = refl

-- The first move goes to a place that is lost, as are two more.
pub to_a_lost_place :
    writes_of two_units (3 ∷ []) (8 ∷ 10 ∷ 5002 ∷ []) (go 0 0 ∷ [])
    ≡ Map 6 (used 8 ∷ freed 10 ∷ []) ∷ Map 7 (freed 5002 ∷ []) ∷ Copy (go 0 0) ∷ Pointer (go 0 0)
    ∷ Map 7 (freed 5000 ∷ []) ∷ []
to_a_lost_place = refl

-- Without moves, lost places are marked free.
pub no_moves : writes_of two_units (0 ∷ []) (9 ∷ 10 ∷ 5002 ∷ []) []
    ≡ Map 6 (freed 9 ∷ freed 10 ∷ []) ∷ Map 7 (freed 5002 ∷ []) ∷ []
no_moves = refl
