use Rattle.vol_mover.proofs.Few.{few_lost}
use Rattle.vol_mover.proofs.LostOpening.{lost_told}
use Rattle.vol_mover.proofs.opening.Opening.read.Goals as goal

pub planned-requires : goal.planned-requires
planned-requires g c = few_lost _ _ _ (g.met.F.Format.rooted c.args.format.now c.in_ok-checked.checked.volume) c.in_ok-checked.ensures.told

pub returns-clause-lost : goal.returns-clause-lost
returns-clause-lost g c = λ honest. lost_told c.planned.result c.in_ok-checked.checked _ c.planned.ensures.volume c.planned.ensures.told (c.in_ok-checked.ensures.lost honest)
