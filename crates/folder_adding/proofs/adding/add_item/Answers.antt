use Rattle.std.proofs.Common.{◌∙◌, ℕ, List, ap}
use Rattle.std.specs.Prelude.{slice_index_or}
use Rattle.folder_adding.specs.Items.{batch_view, item_view, said_by}
use Rattle.folder_adding.proofs.Steps.{seen, was_added, was_unsaved}
use Rattle.folder_adding.proofs.adding.add_item.Goals as goal

pub returns-in-Changed-clause-added : goal.returns-in-Changed-clause-added
returns-in-Changed-clause-added g c =
    let batch = batch_view c.args.batch.now in
    let items = c.args.batch.now.items.now in
    let item = item_view (slice_index_or items c.args.number c.index-batch-number.result) in
    was_added batch (g.H.HostFiles.holds c.args.files.now) (g.F.SavableFormat.saves c.args.format.now) (g.F.Format.meaning c.args.format.now) c.args.number item
    (g.D.Device.state c.args.device.now) (g.D.Device.state c.save_said.new.device) c.as_slice-path.result.now c.in-Ok.bytes.items _
    (seen items c.args.number c.index-batch-number.result c.requires.inside) c.as_slice-path.ensures.value
    (c.said-said.ensures ∙ ap (λ (bytes : List ℕ). said_by batch item bytes) c.as_slice.ensures.value) c.file_at-file.result c.file_at-file.ensures c.in-Ok.ensures.read c.in-Changed.ensures

pub returns-in-Unfinished-clause-refused : goal.returns-in-Unfinished-clause-refused
returns-in-Unfinished-clause-refused g c =
    let batch = batch_view c.args.batch.now in
    let items = c.args.batch.now.items.now in
    let item = item_view (slice_index_or items c.args.number c.index-batch-number.result) in
    was_unsaved batch (g.H.HostFiles.holds c.args.files.now) (g.F.SavableFormat.saves c.args.format.now) (g.F.Format.meaning c.args.format.now) c.args.number item
    (g.D.Device.state c.args.device.now) (g.D.Device.state c.save_said.new.device) c.as_slice-path.result.now c.in-Ok.bytes.items _
    (seen items c.args.number c.index-batch-number.result c.requires.inside) c.as_slice-path.ensures.value
    (c.said-said.ensures ∙ ap (λ (bytes : List ℕ). said_by batch item bytes) c.as_slice.ensures.value) c.file_at-file.result c.file_at-file.ensures c.in-Ok.ensures.read g.H.HostFiles.may_fail c.in-Unfinished.reply c.in-Unfinished.ensures
