use Rattle.std.proofs.Common.{◌≡◌, ◌⊎◌, ◌∙◌, ℕ, true, List, [], subst}
use Rattle.vol_layout.specs.Layouts.{Placement}
use Rattle.move_plan.specs.Planning.{LacksFreePlace}
use Rattle.vol_mover.specs.Opening.{IsPlanOf}
use Rattle.vol_mover.proofs.opening.planned.Goals as goal

pub returns-clause-plan : goal.returns-clause-plan
returns-clause-plan g c =
    let of = c.in_ok-plan.ensures in
    subst (λ (layout : Placement). IsPlanOf layout c.in_ok-plan.plan) c.into_parts-volume.ensures.layout (record {
      legal = of.legal;
      target = of.target;
      deficit = of.deficit;
      starts = of.starts;
      misplaced = of.misplaced;
      rings = of.rings;
      least = of.least;
      rising = of.rising;
    })

pub returns-clause-allowed : goal.returns-clause-allowed
returns-clause-allowed g c = record {
  lost = subst (λ (places : List ℕ). (c.args.options.reclaim ≡ true) ⊎ (places ≡ []))
      (c.as_slice.ensures.value ∙ c.into_parts-volume.ensures.lost) (c.if-not-may_be_lost.ensures.yes (search));
  free = subst (λ (layout : Placement). ¬ LacksFreePlace layout) c.into_parts-volume.ensures.layout c.in_ok-plan.ensures.free_place;
}
