use Rattle.std.proofs.Common.{◌≡◌, ◌<◌, ◌∙◌, List, ap, sym, subst, refl, map, false, IsTrue, length}
use Rattle.std.specs.Prelude.{All}
use Rattle.a2_device.specs.Device.{DeviceState}
use Rattle.a2_device.specs.Reading.{then_reads}
use Rattle.a2_device.specs.declared.part.Part.{Part}
use Rattle.vol_check.specs.Told.{told_of, volume_of}
use Rattle.vol_format.specs.Accepted.{IsAccepted}
use Rattle.vol_format.specs.Directory.{entry_of}
use Rattle.vol_format.specs.Reach.{IsPartsOf}
use Rattle.vol_laws.specs.Deletion.{IsDeletion}
use Rattle.vol_laws.specs.Writes.{Write}
use Rattle.file_formats.specs.FileNames.{name_view}
use Rattle.file_formats.specs.Files.{IsFirstNamed}
use Rattle.edit_formats.specs.declared.writes.Prepared.{Prepared}
use Rattle.edit_formats.specs.Deleted.{IsDeleteEdit}
use Rattle.edit_formats.specs.Prepared.{write_of}
use Rattle.edit_formats.proofs.Deletions.{device_refusal, device_told, told_below}
use Rattle.edit_formats.proofs.Edits.{edited_after, edited_as}
use Rattle.file_edits.proofs.deleting.delete_first.Goals as goal

pub deletion-requires-clause-parts : goal.deletion-requires-clause-parts
deletion-requires-clause-parts g c =
    let format = c.args.format.now in
    let checked = c.in_ok-checked.checked in
    let directory = g.F.Format.directory format (volume_of checked) in
    subst (λ volume. All (λ (part : Part). part.place < (g.F.Format.directory format volume).places) c.parts.result.now) (sym c.volume-3.ensures)
    (subst (All (λ (part : Part). part.place < directory.places)) (sym c.parts.ensures) (told_below directory (told_of checked) c.in_ok-checked.ensures.told))

pub write_all-requires-clause-places : goal.write_all-requires-clause-places
write_all-requires-clause-places g c =
    let places = (g.D.Device.state c.check.new.device).places in
    let writes = c.in_ok-writes.ensures in
    subst (λ n. All (λ (write : Prepared g.row.A.Denot). write.place < n) c.as_slice.result.now) (sym writes.device.same.places)
    (subst (All (λ (write : Prepared g.row.A.Denot). write.place < places)) (sym c.as_slice.ensures.value) writes.inside)

pub write_all-requires-clause-units : goal.write_all-requires-clause-units
write_all-requires-clause-units g c =
    let size = (g.D.Device.state c.check.new.device).unit_size in
    let writes = c.in_ok-writes.ensures in
    subst (λ n. All (λ (write : Prepared g.row.A.Denot). length write.unit.items ≡ n) c.as_slice.result.now) (sym writes.device.same.unit_size)
    (subst (All (λ (write : Prepared g.row.A.Denot). length write.unit.items ≡ size)) (sym c.as_slice.ensures.value) writes.sizes)

pub returns-clause-edited : goal.returns-clause-edited
returns-clause-edited g c =
    let format = c.args.format.now in
    let meaning = g.F.Format.meaning format in
    let files = g.F.FileFormat.files format in
    let erasures = g.F.EditableFormat.erasures format in
    let name = name_view c.args.name in
    let old = g.D.Device.state c.args.device.now in
    let mid = g.D.Device.state c.check.new.device in
    let read = g.D.Device.state c.deletion.new.device in
    let new = g.D.Device.state c.write_all.new.device in
    let checked = c.in_ok-checked.ensures in
    let volume = volume_of c.in_ok-checked.checked in
    let directory = g.F.Format.directory format volume in
    let file = c.in-Some.file in
    let writes = c.in_ok-writes.writes.items in
    let IsMade : List Write → Type 0 = λ made. made ≡ map write_of c.as_slice.result.now in
    edited_as c.write_all.result old new IsMade (IsDeleteEdit meaning files erasures old.store name)
    (λ honest made is.
    let kept = checked.device.kept honest refl in
    let accepted : IsAccepted meaning (g.F.Format.directory format c.volume-3.result.now) mid.store =
    subst (λ v. IsAccepted meaning (g.F.Format.directory format v) mid.store) (sym c.volume-3.ensures)
    (subst (λ (d : DeviceState). IsAccepted meaning directory d.store) (sym kept) (checked.accepted honest)) in
    let parts : IsPartsOf meaning (g.F.Format.directory format c.volume-3.result.now) mid.store c.parts.result.now =
    subst (λ v. IsPartsOf meaning (g.F.Format.directory format v) mid.store c.parts.result.now) (sym c.volume-3.ensures)
    (subst (IsPartsOf meaning directory mid.store) (sym c.parts.ensures)
    (subst (λ (d : DeviceState). IsPartsOf meaning directory d.store (told_of c.in_ok-checked.checked).parts) (sym kept) (checked.parts honest))) in
    let deletes =
    subst
    (λ (d : DeviceState). (deletion : IsDeletion meaning directory file d.store (map write_of writes)) × erasures.Erases d.store directory file deletion.system) kept
    (subst
    (λ v. (deletion : IsDeletion meaning (g.F.Format.directory format v) file mid.store (map write_of writes)) × erasures.Erases mid.store (g.F.Format.directory format v) file deletion.system)
    c.volume-3.ensures
    (c.in_ok-writes.ensures.deletes (subst IsTrue (sym checked.device.same.honest) honest) accepted parts)) in
    subst (IsDeleteEdit meaning files erasures old.store name) (sym (is ∙ ap (map write_of) c.as_slice.ensures.value))
    (record {
      directory = directory;
      accepted = checked.accepted honest;
      file = file;
      first = subst (λ v. IsFirstNamed files (g.F.Format.directory format v) name file) c.volume.ensures c.in-Some.ensures.found;
      unprotected = subst (λ v. erasures.protects (entry_of (g.F.Format.directory format v) file).bytes ≡ false) c.volume-2.ensures
          (sym c.protects_file.ensures ∙ c.if-protects_file.false);
      deletion = deletes.0;
      erases = deletes.1;
      few = c.in_ok-writes.ensures.few;
    }))
    (edited_after c.write_all.result old new IsMade read (then_reads false old mid read checked.device c.in_ok-writes.ensures.device) c.write_all.ensures.edited)

pub returns-clause-refusals : goal.returns-clause-refusals
returns-clause-refusals g c = device_refusal c.write_all.result c.write_all.ensures.refused

pub returns-clause-told : goal.returns-clause-told
returns-clause-told g c = λ honest.
    let format = c.args.format.now in
    let files = g.F.FileFormat.files format in
    let erasures = g.F.EditableFormat.erasures format in
    let file = c.in-Some.file in
    let checked = c.in_ok-checked in
    device_told c.write_all.result (g.F.Format.meaning format) files erasures (g.D.Device.state c.args.device.now).store (name_view c.args.name) c.write_all.ensures.refused
    (record {
      directory = g.F.Format.directory format (volume_of checked.checked);
      accepted = checked.ensures.accepted honest;
      file = file;
      first = subst (λ v. IsFirstNamed files (g.F.Format.directory format v) (name_view c.args.name) file) c.volume.ensures c.in-Some.ensures.found;
      is = subst (λ v. erasures.protects (entry_of (g.F.Format.directory format v) file).bytes ≡ false) c.volume-2.ensures
          (sym c.protects_file.ensures ∙ c.if-protects_file.false);
    })
