use Rattle.std.proofs.Common.{◌∙◌, Bool, List, ℕ, inr, subst, sym}
use Rattle.std.specs.Prelude.{Option}
use Rattle.shop_changes.specs.ChangeReply.{IsChangeReply}
use Rattle.shop_changes.specs.EditRules.{changed_by}
use Rattle.shop_changes.specs.Work.{work_view}
use Rattle.shop_jobs.specs.Input.{reading_view, reserve_of}
use Rattle.shop_jobs.specs.Job.{change_view}
use Rattle.shop_jobs.specs.declared.input.VolumeOptions.{VolumeOptions}
use Rattle.shop_volumes.specs.VolumeReply.{IsVolumeReply}
use Rattle.shop_commands.specs.Answer.{IsChangeTold, WhereKnown}
use Rattle.shop_commands.proofs.job.change_reply.Goals as goal

pub returns-in-Ok : goal.returns-in-Ok
returns-in-Ok c =
    let volume = c.in-Some.volume in
    let work = work_view c.in-Ok.work in
    let reply = c.image_change.result in
    let change = change_view c.args.change.now in
    let reserve = reserve_of (reading_view c.args.input.now.reading) in
    subst (λ (known : Option VolumeOptions). WhereKnown known (IsChangeTold change reserve c.args.image.items c.args.extra.now) reply) (sym c.in-Some.is ∙ c.volume.ensures)
    (inr (
      work,
      c.in-Ok.ensures.work,
      subst (λ (said : Option (List ℕ)). IsVolumeReply volume said c.args.image.items (λ (reserved : List Bool). IsChangeReply work (changed_by volume reserved)) reply)
          c.reserve.ensures c.image_change.ensures,
    ))
