use Rattle.shop_changes.specs.EditRules.{changed_by}
use Rattle.shop_changes.specs.Work.{work_view}
use Rattle.shop_volumes.proofs.Fresh.{image_fresh}
use Rattle.shop_changes.proofs.Told.{changed_there}
use Rattle.shop_changes.proofs.changing_image.change_on_image.Goals as goal

pub returns-in-None : goal.returns-in-None
returns-in-None c =
    let opened = c.requires.opened in
    changed_there _ (image_fresh _ c.args.options.file_system opened.0 opened.1) _ (work_view c.args.work)
    (changed_by c.args.options c.args.reserved) _ _ c.in-None.ensures c.change_volume-outcome.ensures.done c.outcome_reply.ensures
