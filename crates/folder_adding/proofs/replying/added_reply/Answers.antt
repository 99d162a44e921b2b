use Rattle.std.proofs.Common.{◌∙◌, ℕ, List, ap, inr, map}
use Rattle.folder_adding.specs.AddedText.{added_text}
use Rattle.folder_adding.specs.HostEntries.{entry_view}
use Rattle.folder_adding.specs.Items.{batch_view}
use Rattle.folder_adding.specs.Plan.{plan_view}
use Rattle.folder_adding.specs.Replying.{adding_view}
use Rattle.folder_adding.proofs.Replies.{told_added}
use Rattle.folder_adding.proofs.replying.added_reply.Goals as goal

pub returns-in-Ok : goal.returns-in-Ok
returns-in-Ok c =
    let batch = batch_view c.batch_of-batch.result in
    let entries = map entry_view c.args.folder.now.entries.now in
    inr (told_added (adding_view c.args.folder.now (plan_view c.args.plan.now)) batch _ c.in-Ok.text c.image_bytes.result c.made_telling.result
    c.batch_of-batch.ensures (c.in-Ok.ensures ∙ ap (λ (passed : List ℕ). added_text batch entries passed) c.as_slice.ensures.value)
    c.image_bytes.ensures c.made_telling.ensures)
