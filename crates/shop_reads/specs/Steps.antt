-- The steps of a plan: for each of its moves the part that moves and the place to which it goes.
use Rattle.std.specs.Prelude.{◌≡◌, ℕ, List, [], ◌∷◌, slice_index}
use Rattle.a2_device.specs.declared.part.Part.{Part}
use Rattle.vol_layout.specs.Plans.{moved}
use Rattle.vol_layout.specs.declared.moves.Move.{Move}
use Rattle.vol_format.specs.Standing.{part_now}
use Rattle.file_listings.specs.declared.step.Step.{Step}

-- a move that is made in a layout takes its part, as it stands there, to the available place of its number
pub record IsStep (parts : List Part) (available layout : List ℕ) (move : Move) (step : Step) : Type 0 where
  pub part : step.part ≡ part_now parts available layout move.part
  pub to : step.to ≡ slice_index available move.to

-- the steps of moves that are made one after the other from a layout: each finds the parts where the moves before it
-- left them
abbrev pub AreSteps : List Part → List ℕ → List ℕ → List Move → List Step → Type 0
AreSteps parts available layout [] steps = steps ≡ []
AreSteps parts available layout (move ∷ moves) [] = ⊥
AreSteps parts available layout (move ∷ moves) (step ∷ steps) =
    IsStep parts available layout move step × AreSteps parts available (moved layout move) moves steps
