use Rattle.host_folders.proofs.Splits.{split_once}
use Rattle.host_folders.proofs.path.last_split.Goals as goal

pub returns : goal.returns
returns c = split_once c.args.path.now c.rsplit_once.result c.rsplit_once.ensures.cases
