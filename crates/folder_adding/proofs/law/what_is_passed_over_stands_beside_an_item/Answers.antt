use Rattle.folder_adding.proofs.PassedBeside.{all_beside}
use Rattle.folder_adding.proofs.law.what_is_passed_over_stands_beside_an_item.Goals as goal

pub returns : goal.returns
returns c = all_beside
