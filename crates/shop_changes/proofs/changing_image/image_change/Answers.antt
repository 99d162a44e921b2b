use Rattle.std.proofs.Common.{List, ℕ, option_map}
use Rattle.std.specs.Prelude.{Option}
use Rattle.shop_changes.specs.Work.{work_view}
use Rattle.shop_changes.proofs.Told.{changed}
use Rattle.shop_changes.proofs.changing_image.image_change.Goals as goal

pub returns-in-Ok : goal.returns-in-Ok
returns-in-Ok c =
    let reserve : Option (List ℕ) = option_map (λ s. s.now) c.args.reserve in
    changed c.args.options reserve c.args.image.items _ c.in-Ok.reserved c.in-Ok.ensures.volume c.change_on_image.result (work_view c.args.work)
    c.change_on_image.ensures
