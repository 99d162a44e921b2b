use Rattle.disk_container.proofs.Alike.{in_parts}
use Rattle.disk_container.proofs.law.a_container_is_its_parts.Goals as goal

pub returns : goal.returns
returns c = in_parts
