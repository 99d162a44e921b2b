use Rattle.std.proofs.Common.{inr}
use Rattle.shop_changes.specs.Work.{work_view}
use Rattle.shop_changes.proofs.Kept.{volume_kept}
use Rattle.shop_changes.proofs.changing.change_volume.Goals as goal

pub returns-in-Dos-clause-kept : goal.returns-in-Dos-clause-kept
returns-in-Dos-clause-kept g c = volume_kept (work_view c.args.work) _ _ _ _ (inr c.change_by.ensures)

pub returns-clause-kept : goal.returns-clause-kept
returns-clause-kept g c = volume_kept (work_view c.args.work) _ _ _ _ (inr c.change_by-in-Prodos.ensures)
