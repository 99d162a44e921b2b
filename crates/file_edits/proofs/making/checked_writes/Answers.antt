use Rattle.std.proofs.Common.{◌≡◌, ◌<◌, subst, length}
use Rattle.std.specs.Prelude.{All}
use Rattle.std.proofs.lemmas.Result.{IfOk-weaker}
use Rattle.edit_formats.specs.declared.writes.Prepared.{Prepared}
use Rattle.file_edits.specs.Fitting.{AreWritesFor}
use Rattle.file_edits.proofs.making.checked_writes.Goals as goal

pub returns-in-Ok-clause-fit : goal.returns-in-Ok-clause-fit
returns-in-Ok-clause-fit g c =
    let old = g.D.Device.state c.args.device.now in
    let mid = g.D.Device.state c.accepted_volume.new.device in
    let same = c.in-Ok.ensures.device.same in
    IfOk-weaker c.prepare_directory.result (λ writes. AreWritesFor mid writes.items) (λ writes. AreWritesFor old writes.items)
    (λ writes fit. record {
      inside = subst (λ n. All (λ (write : Prepared g.row.A.Denot). write.place < n) writes.items) same.places fit.inside;
      sizes = subst (λ n. All (λ (write : Prepared g.row.A.Denot). length write.unit.items ≡ n) writes.items) same.unit_size fit.sizes;
    }) c.prepare_directory.ensures.fit
