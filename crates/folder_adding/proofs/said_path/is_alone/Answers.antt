use Rattle.folder_adding.proofs.SaidAlone.{alone_told, told_alone}
use Rattle.folder_adding.proofs.said_path.is_alone.Goals as goal

pub returns : goal.returns
returns c = (
  told_alone c.args.path.now c.contains.result c.contains.ensures.cases,
  alone_told c.args.path.now c.contains.result c.contains.ensures.cases,
)
