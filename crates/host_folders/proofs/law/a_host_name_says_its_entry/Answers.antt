use Rattle.host_folders.proofs.Says.{says_entry, says_kind}
use Rattle.host_folders.proofs.law.a_host_name_says_its_entry.Goals as goal

pub returns : goal.returns
returns c = record { name = says_entry; kind = says_kind }
