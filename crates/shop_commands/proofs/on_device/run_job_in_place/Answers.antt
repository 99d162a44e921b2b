use Rattle.std.proofs.Common.{◌∙◌, Bool, List, ℕ, inr, subst, sym}
use Rattle.std.specs.Prelude.{Option}
use Rattle.shop_changes.specs.Changing.{IsChangeOutcome, IsWorkOutcome}
use Rattle.shop_changes.specs.EditRules.{changed_by}
use Rattle.shop_changes.specs.Work.{work_view}
use Rattle.shop_jobs.specs.Input.{reading_view, reserve_of}
use Rattle.shop_jobs.specs.Job.{change_view}
use Rattle.shop_jobs.specs.declared.input.VolumeOptions.{VolumeOptions}
use Rattle.shop_commands.specs.OnDevice.{IsOutcomeIn}
use Rattle.shop_commands.proofs.on_device.run_job_in_place.Goals as goal

pub returns-in-Ok : goal.returns-in-Ok
returns-in-Ok g c =
    let volume = c.in-Some.volume in
    let work = work_view c.in-Ok.work in
    let old = g.D.Device.state c.args.device in
    let new = g.D.Device.state c.change_in_place.result.1 in
    let outcome = c.change_in_place.result.0 in
    let change = change_view c.args.change.now in
    let reserve = reserve_of (reading_view c.args.reading.now) in
    subst (λ (known : Option VolumeOptions). IsOutcomeIn known change reserve c.args.extra.now old new outcome) (sym c.in-Some.is ∙ c.volume.ensures)
    (inr (
      work,
      c.in-Ok.ensures.work,
      subst (λ (said : Option (List ℕ)). IsChangeOutcome volume.file_system said (λ (reserved : List Bool). IsWorkOutcome work (changed_by volume reserved)) old new outcome)
          c.reserve.ensures c.change_in_place.ensures,
    ))
