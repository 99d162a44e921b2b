use Rattle.std.proofs.Common.{[]}
use Rattle.host_folders.specs.Folder.{file}
use Rattle.volume_extract.proofs.Calls.{failed_first}
use Rattle.volume_extract.proofs.making.put.Goals as goal

pub returns-in-Err-clause-failed : goal.returns-in-Err-clause-failed
returns-in-Err-clause-failed g c =
    failed_first g.O.Folder.state g.O.Folder.may_fail (g.O.Folder.state c.put.new.self) c.in-Err.failure (file c.args.host.now c.args.bytes.now) []
    c.args.folder.now c.in-Err.ensures.cause c.in-Err.ensures.failed
