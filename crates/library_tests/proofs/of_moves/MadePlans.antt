-- The lists of moves that tests make over the available places of a DOS disk lead to the target.
use Rattle.std.specs.Prelude.{◌≡◌, ℕ, [], ◌∷◌, false}
use Rattle.std.proofs.Common.{refl}
use Rattle.vol_layout.specs.declared.moves.Move.{Move}
use Rattle.vol_format.specs.Directory.{Directory}
use Rattle.dos_format.specs.Dos.{dos_available, first_available}
use Rattle.vol_mover.specs.Work.{LeadsToTarget}
use Rattle.library_tests.proofs.of_moves.Trials.{tried_plan}

abbrev go : ℕ → ℕ → Move
go part to = record { part = part; to = to }

-- two parts that changed places
pub exchanged : (directory : Directory) → directory.available ≡ dos_available false [] → LeadsToTarget directory (1 ∷ 0 ∷ []) (go 0 2 ∷ go 1 1 ∷ go 0 0 ∷ [])
unfolding first_available
exchanged = tried_plan (dos_available false []) (1 ∷ 0 ∷ []) _ refl refl

-- each part is home
pub nothing_to_do : (directory : Directory) → directory.available ≡ dos_available false [] → LeadsToTarget directory (0 ∷ 1 ∷ []) []
unfolding first_available
nothing_to_do = tried_plan (dos_available false []) (0 ∷ 1 ∷ []) [] refl refl
