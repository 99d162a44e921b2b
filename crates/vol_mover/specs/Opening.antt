-- What an opening tells of an accepted volume.
use Rattle.std.specs.Prelude.{◌≡◌, ◌≢◌, ◌⊎◌, true, [], length, max, All}
use Rattle.vol_layout.specs.Layouts.{Placement, IsTarget, holes, misplaced}
use Rattle.vol_layout.specs.Plans.{IsPlan, after, starts}
use Rattle.vol_layout.specs.Rings.{AreAllRings, IsDeficit}
use Rattle.move_plan.specs.declared.answer.Plan.{Plan}
use Rattle.move_plan.specs.Planning.{AreInRisingOrder, BeginsWithLeast, LacksFreePlace}
use Rattle.vol_format.specs.Directory.{Directory, files}
use Rattle.vol_check.specs.Told.{Told, IsToldOf}
use Rattle.vol_mover.specs.declared.opening.Opening.{Opening}
use Rattle.vol_mover.specs.declared.opening.Options.{Options}

-- the parts, the layout and the lost places are those that the checker told
pub record Tells {V A : Type 0} (told : Told) (opening : Opening V A) : Type 0 where
  pub parts : opening.parts.items ≡ told.parts
  pub layout : opening.layout ≡ told.layout
  pub lost : opening.lost.items ≡ told.lost

-- what a checker would tell
abbrev pub told_in : {V A : Type 0} → Directory → Opening V A → Told
told_in directory opening = record {
  files = length (files directory);
  parts = opening.parts.items;
  layout = opening.layout;
  lost = opening.lost.items;
}

abbrev pub IsToldIn : {V A : Type 0} → Directory → Opening V A → Type 0
IsToldIn directory opening = IsToldOf directory (told_in directory opening)

-- A shortest plan for a layout: its moves lead to the target, as many as the deficit, and as few as there are holes, or
-- one, go elsewhere than into the place that the move before them left; and the misplaced parts and the rings of the
-- layout.
pub record IsPlanOf {A : Type 0} (layout : Placement) (plan : Plan A) : Type 0 where
  pub legal : IsPlan layout.at layout.places plan.moves.items
  pub target : IsTarget (after layout.at plan.moves.items)
  pub deficit : IsDeficit layout.at (length plan.moves.items)
  pub starts : misplaced layout.at ≢ [] → starts layout.at plan.moves.items ≡ max (length (holes layout.at)) 1
  pub misplaced : plan.misplaced.items ≡ misplaced layout.at
  pub rings : AreAllRings layout.at plan.rings.items
  pub least : All BeginsWithLeast plan.rings.items
  pub rising : AreInRisingOrder plan.rings.items

-- no place is lost, or lost places are reclaimed; and there is a free place, or no part is misplaced
pub record IsAllowed (options : Options) (told : Told) : Type 0 where
  pub lost : (options.reclaim ≡ true) ⊎ (told.lost ≡ [])
  pub free : ¬ LacksFreePlace told.layout
