use Rattle.disk_container.proofs.Alike.{put}
use Rattle.disk_container.proofs.law.a_payload_can_be_put.Goals as goal

pub returns : goal.returns
returns c = put
