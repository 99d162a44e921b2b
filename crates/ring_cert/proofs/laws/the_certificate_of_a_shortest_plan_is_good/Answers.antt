use Rattle.ring_cert.proofs.TextLaws.{shortest_is_good}
use Rattle.ring_cert.proofs.laws.the_certificate_of_a_shortest_plan_is_good.Goals as goal

pub returns : goal.returns
returns c = shortest_is_good
