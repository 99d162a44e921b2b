use Rattle.shop_commands.proofs.Contained.{stays_container}
use Rattle.shop_commands.proofs.law.a_changed_container_is_one.Goals as goal

pub returns : goal.returns
returns c = λ job. stays_container job.ask job.input
