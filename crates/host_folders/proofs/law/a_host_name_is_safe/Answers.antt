use Rattle.host_folders.proofs.IsSafe.{host_is_safe}
use Rattle.host_folders.proofs.law.a_host_name_is_safe.Goals as goal

pub returns : goal.returns
returns c = host_is_safe
