use Rattle.std.proofs.Common.{◌≡◌, ◌∙◌, List, [], ◌∷◌, refl, ap, subst}
use Rattle.a2_device.specs.Device.{DeviceState, unit_at}
use Rattle.vol_check.specs.Told.{volume_of}
use Rattle.vol_format.specs.Directory.{Listed, entry_of}
use Rattle.file_formats.specs.FileNames.{name_view}
use Rattle.file_formats.specs.Files.{IsFirstNamed}
use Rattle.edit_formats.specs.Edited.{IsLockEdit}
use Rattle.vol_laws.specs.Writes.{Write}
use Rattle.edit_formats.specs.Writes.{HasEdited}
use Rattle.edit_formats.proofs.Edits.{edited_after, edited_as}
use Rattle.file_edits.proofs.locking.relock.Goals as goal

pub returns-clause-edited : goal.returns-clause-edited
returns-clause-edited g c =
    let format = c.args.format.now in
    let meaning = g.F.Format.meaning format in
    let files = g.F.FileFormat.files format in
    let edits = g.F.EditableFormat.edits format in
    let old = g.D.Device.state c.args.device.now in
    let mid = g.D.Device.state c.check.new.device in
    let new = g.D.Device.state c.write_lock.new.device in
    let checked = c.in_ok-checked.ensures in
    let directory = g.F.Format.directory format (volume_of c.in_ok-checked.checked) in
    let entry = entry_of directory c.in-Some.file in
    let IsWrite : Listed → List Write → Type 0 = λ of writes. writes ≡ record { place = of.place; unit = edits.with_lock c.args.on of (unit_at mid.store of.place) } ∷ [] in
    let edited : HasEdited (IsWrite entry) c.write_lock.result mid new =
    subst (λ volume. HasEdited (IsWrite (entry_of (g.F.Format.directory format volume) c.in-Some.file)) c.write_lock.result mid new) c.volume-2.ensures c.write_lock.ensures.edited in
    edited_as c.write_lock.result old new (IsWrite entry)
    (IsLockEdit meaning files edits old.store (name_view c.args.name) c.args.on)
    (λ honest writes is. record {
      directory = directory;
      accepted = checked.accepted honest;
      file = c.in-Some.file;
      first = subst (λ volume. IsFirstNamed files (g.F.Format.directory format volume) (name_view c.args.name) c.in-Some.file) c.volume.ensures c.in-Some.ensures.found;
      are = is ∙ ap (λ (d : DeviceState). record { place = entry.place; unit = edits.with_lock c.args.on entry (unit_at d.store entry.place) } ∷ [])
          (checked.device.kept honest refl);
    })
    (edited_after c.write_lock.result old new (IsWrite entry) mid checked.device edited)
