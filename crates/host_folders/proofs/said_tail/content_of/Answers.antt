use Rattle.host_folders.specs.HostEntries.{stored}
use Rattle.host_folders.proofs.said_tail.content_of.Goals as goal

pub returns-then-is_passed_over-clause-some : goal.returns-then-is_passed_over-clause-some
returns-then-is_passed_over-clause-some c =
    stored c.args.end.now c.args.file_type (c.is_passed_over.ensures.0 c.if-is_passed_over.true)
