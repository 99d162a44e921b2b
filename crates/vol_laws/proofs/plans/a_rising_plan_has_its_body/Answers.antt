use Rattle.vol_laws.proofs.Writing.{body_is}
use Rattle.vol_laws.proofs.plans.a_rising_plan_has_its_body.Goals as goal

pub returns : goal.returns
returns c = body_is
