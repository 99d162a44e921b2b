use Rattle.std.proofs.Common.{◌≡◌, ◌<◌, ◌∙◌, List, ap, sym, subst, refl, map, false, IsTrue, length}
use Rattle.std.specs.Prelude.{All}
use Rattle.a2_device.specs.Device.{DeviceState}
use Rattle.a2_device.specs.Reading.{then_reads}
use Rattle.vol_format.specs.Accepted.{IsAccepted}
use Rattle.vol_laws.specs.Writes.{Write}
use Rattle.edit_formats.specs.declared.writes.Prepared.{Prepared}
use Rattle.edit_formats.specs.Prepared.{write_of}
use Rattle.edit_formats.proofs.Edits.{edited_after, edited_as}
use Rattle.file_edits.specs.Saving.{saving_of, AreWritesOf}
use Rattle.file_edits.proofs.saving.save_new.Goals as goal

pub write_all-requires-clause-places : goal.write_all-requires-clause-places
write_all-requires-clause-places g c =
    let places = (g.D.Device.state c.accepted_volume.new.device).places in
    let writes = c.in_ok-writes.ensures in
    subst (λ n. All (λ (write : Prepared g.row.A.Denot). write.place < n) c.as_slice.result.now) (sym writes.device.same.places)
    (subst (All (λ (write : Prepared g.row.A.Denot). write.place < places)) (sym c.as_slice.ensures.value) writes.fit.inside)

pub write_all-requires-clause-units : goal.write_all-requires-clause-units
write_all-requires-clause-units g c =
    let size = (g.D.Device.state c.accepted_volume.new.device).unit_size in
    let writes = c.in_ok-writes.ensures in
    subst (λ n. All (λ (write : Prepared g.row.A.Denot). length write.unit.items ≡ n) c.as_slice.result.now) (sym writes.device.same.unit_size)
    (subst (All (λ (write : Prepared g.row.A.Denot). length write.unit.items ≡ size)) (sym c.as_slice.ensures.value) writes.fit.sizes)

pub returns-clause-edited : goal.returns-clause-edited
returns-clause-edited g c =
    let format = c.args.format.now in
    let meaning = g.F.Format.meaning format in
    let old = g.D.Device.state c.args.device.now in
    let mid = g.D.Device.state c.accepted_volume.new.device in
    let read = g.D.Device.state c.prepare_file.new.device in
    let new = g.D.Device.state c.write_all.new.device in
    let volume = c.in_ok-volume.ensures in
    let directory = g.F.Format.directory format c.in_ok-volume.volume in
    let IsMade : List Write → Type 0 = λ made. made ≡ map write_of c.as_slice.result.now in
    let IsEdit : DeviceState → List Write → Type 0 = λ device. AreWritesOf (saving_of meaning (g.F.SavableFormat.saves format) device.store c.args.file.now) in
    edited_as c.write_all.result old new IsMade (IsEdit old)
    (λ honest made is.
    let kept = volume.device.kept honest refl in
    let accepted : IsAccepted meaning directory mid.store = subst (λ (d : DeviceState). IsAccepted meaning directory d.store) (sym kept) (volume.accepted honest) in
    subst (IsEdit old) (sym (is ∙ ap (map write_of) c.as_slice.ensures.value))
    (subst (λ (d : DeviceState). IsEdit d (map write_of c.in_ok-writes.writes.items)) kept
    (c.in_ok-writes.ensures.saves (subst IsTrue (sym volume.device.same.honest) honest) accepted)))
    (edited_after c.write_all.result old new IsMade read (then_reads false old mid read volume.device c.in_ok-writes.ensures.device) c.write_all.ensures.edited)
