use Rattle.std.proofs.Common.{◌∙◌, refl}
use Rattle.shop_reads.proofs.known.Known.with_capacity.Goals as goal

pub returns-clause-facts : goal.returns-clause-facts
returns-clause-facts c = c.in_ok-with_capacity.ensures.facts

pub returns-clause-runs : goal.returns-clause-runs
returns-clause-runs c = c.in_ok-with_capacity.ensures.runs

pub returns-clause-places : goal.returns-clause-places
returns-clause-places c = c.in_ok-with_capacity.ensures.places ∙ c.wants_places.ensures

pub returns-clause-complete : goal.returns-clause-complete
returns-clause-complete c = refl
