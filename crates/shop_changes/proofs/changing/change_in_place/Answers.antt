use Rattle.std.proofs.Common.{List, ℕ, option_map, subst}
use Rattle.std.specs.Prelude.{Bool, Option}
use Rattle.vol_layout.specs.declared.form.PlaceForm.{PlaceForm}
use Rattle.shop_volumes.specs.Reserving.{ReservesNamed}
use Rattle.shop_changes.specs.Changing.{IsWorkOutcome}
use Rattle.shop_changes.specs.EditRules.{changed_by}
use Rattle.shop_changes.specs.Work.{work_view}
use Rattle.shop_changes.proofs.Kept.{was_changed}
use Rattle.shop_changes.proofs.changing.change_in_place.Goals as goal

pub returns-in-Ok : goal.returns-in-Ok
returns-in-Ok g c =
    let options = c.args.options in
    let reserve : Option (List ℕ) = option_map (λ s. s.now) c.args.reserve in
    was_changed options.file_system reserve c.in-Ok.reserved (λ (reserved : List Bool). IsWorkOutcome (work_view c.args.work) (changed_by options reserved))
    (g.D.Device.state c.args.device) (g.D.Device.state c.change_volume.result.1) c.change_volume.result.0
    (subst (λ (form : PlaceForm). ReservesNamed form reserve c.in-Ok.reserved) c.form_of.ensures c.in-Ok.ensures.read) c.change_volume.ensures.done c.change_volume.ensures.kept
