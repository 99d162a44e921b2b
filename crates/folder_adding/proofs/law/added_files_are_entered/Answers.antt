use Rattle.folder_adding.proofs.Entering.{in_turn}
use Rattle.folder_adding.proofs.law.added_files_are_entered.Goals as goal

pub returns : goal.returns
returns g c = in_turn (g.F.SavableFormat.saves c.args.format.now) (g.F.Format.meaning c.args.format.now)
