use Rattle.folder_adding.proofs.SaidAlone.{first_none, first_some}
use Rattle.folder_adding.proofs.said_path.first_folder.Goals as goal

pub returns : goal.returns
returns c = record {
  some = first_some c.args.path.now c.split_once.result c.split_once.ensures.cases;
  none = first_none c.args.path.now c.split_once.result c.split_once.ensures.cases;
}
