use Rattle.std.proofs.Common.{ℕ, Bool, List, inl, inr, map, subst}
use Rattle.std.specs.Prelude.{Option, option_map}
use Rattle.a2_device.specs.Device.{DeviceState}
use Rattle.a2_media.specs.ImageDevice.{image_state}
use Rattle.folder_adding.specs.AddReply.{IsFolderReply, folder_by}
use Rattle.folder_adding.specs.HostEntries.{entry_view}
use Rattle.folder_adding.proofs.Replies.{volume_told}
use Rattle.folder_adding.proofs.replying.add_to_image.Goals as goal
use Rattle.pro_dates.specs.SaidDates.{IsDateOf}
use Rattle.shop_changes.specs.EditRules.{changed_by}
use Rattle.shop_jobs.specs.Job.{addition_view}
use Rattle.shop_replies.specs.declared.reply.Reply.{Reply}

pub returns-in-Ok : goal.returns-in-Ok
returns-in-Ok g c =
    let volume = c.args.volume in
    let words = addition_view c.args.options.now in
    let entries = map entry_view c.args.entries.now in
    let date = c.in-Some.date in
    let device = image_state c.in-Ok.device.kind c.in-Ok.device.image c.in-Ok.device.writes c.in-Ok.device.standing c.in-Ok.device.faults in
    let said = subst (λ (word : Option (List ℕ)). IsDateOf word date) c.as_deref.ensures.value c.in-Some.ensures.said in
    let told = subst (λ (into : Option (List ℕ)). IsFolderReply g.H.HostFiles.may_fail (record { file_system = volume.file_system; into = into; entries = entries }) date
    (g.H.HostFiles.holds c.args.files.now) (changed_by volume c.in-Ok.reserved) device c.add_folder.result)
    c.as_deref-2.ensures.value c.add_folder.ensures.told in
    record {
      told = inr (
        date,
        said,
        volume_told volume (option_map (λ s. s.now) c.args.reserve) c.args.image.items device c.in-Ok.reserved (λ (reserved : List Bool) (device : DeviceState) (told : Reply).
            IsFolderReply g.H.HostFiles.may_fail (folder_by volume words entries) date (g.H.HostFiles.holds c.args.files.now) (changed_by volume reserved) device told) c.add_folder.result c.in-Ok.ensures.volume told,
      );
    }

pub returns-in-Err : goal.returns-in-Err
returns-in-Err g c =
    let date = c.in-Some.date in
    let said = subst (λ (word : Option (List ℕ)). IsDateOf word date) c.as_deref.ensures.value c.in-Some.ensures.said in
    record { told = inr (date, said, inl c.in-Err.ensures.untaken) }
