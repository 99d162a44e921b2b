use Rattle.host_folders.proofs.Parts.{around, never_around}
use Rattle.host_folders.proofs.saying.around_hash.Goals as goal

pub returns-clause-some : goal.returns-clause-some
returns-clause-some c = around c.args.name.now c.rsplit_once.result c.rsplit_once.ensures.cases

pub returns-clause-none : goal.returns-clause-none
returns-clause-none c = never_around c.args.name.now c.rsplit_once.result c.rsplit_once.ensures.cases
