use Rattle.std.proofs.Common.{◌∙◌, ℕ, List, map, subst, sym}
use Rattle.std.specs.Prelude.{Option, Some, option_map}
use Rattle.folder_adding.specs.AddReply.{IsAddAnswerOf, IsAddReply}
use Rattle.folder_adding.specs.HostEntries.{entry_view}
use Rattle.folder_adding.proofs.replying.add_reply.Goals as goal
use Rattle.shop_jobs.specs.Input.{reading_view, reserve_of}
use Rattle.shop_jobs.specs.Job.{addition_view}
use Rattle.shop_jobs.specs.declared.input.VolumeOptions.{VolumeOptions}

pub returns : goal.returns
returns g c =
    let entries = map entry_view c.args.entries.now in
    let holds = g.H.HostFiles.holds c.args.files.now in
    let words = addition_view c.args.options.now in
    let shell = option_map (λ s. s.now) c.args.shell in
    let reserve = reserve_of (reading_view c.args.reading.now) in
    let told = subst (λ (said : Option (List ℕ)). IsAddReply g.H.HostFiles.may_fail c.in-Some.volume said words entries holds c.args.image.items c.add_to_image-reply.result)
    c.reserve-reserve.ensures c.add_to_image-reply.ensures.told in
    record {
      told = subst (λ (volume : Option VolumeOptions). IsAddAnswerOf g.H.HostFiles.may_fail volume reserve words entries holds c.args.image.items shell c.in_shell.result) (sym c.in-Some.is ∙ c.volume.ensures)
          (c.add_to_image-reply.result, told, c.in_shell.ensures);
    }
