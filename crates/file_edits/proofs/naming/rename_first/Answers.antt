use Rattle.std.proofs.Common.{◌≡◌, ◌∙◌, List, [], ◌∷◌, refl, ap, subst}
use Rattle.a2_device.specs.Device.{DeviceState, unit_at}
use Rattle.vol_check.specs.Told.{volume_of}
use Rattle.vol_format.specs.Directory.{Directory, entry_of}
use Rattle.file_formats.specs.FileNames.{name_view}
use Rattle.file_formats.specs.Files.{IsFirstNamed}
use Rattle.edit_formats.specs.Renamed.{IsRenameEdit, IsRenamable}
use Rattle.vol_laws.specs.Writes.{Write}
use Rattle.edit_formats.specs.Writes.{HasEdited}
use Rattle.edit_formats.proofs.Edits.{edited_after, edited_as}
use Rattle.file_edits.proofs.naming.rename_first.Goals as goal

pub returns-clause-edited : goal.returns-clause-edited
returns-clause-edited g c =
    let format = c.args.format.now in
    let meaning = g.F.Format.meaning format in
    let files = g.F.FileFormat.files format in
    let names = g.F.EditableFormat.names format in
    let new_name = c.args.new.now in
    let old = g.D.Device.state c.args.device.now in
    let mid = g.D.Device.state c.check.new.device in
    let new = g.D.Device.state c.rename_entry.new.device in
    let checked = c.in_ok-checked.ensures in
    let directory = g.F.Format.directory format (volume_of c.in_ok-checked.checked) in
    let file = c.in-Some.file in
    let IsWrite : Directory → List Write → Type 0 = λ of writes. IsRenamable names mid.store of file new_name
    × (writes ≡ record { place = (entry_of of file).place; unit = names.with_name new_name (entry_of of file) (unit_at mid.store (entry_of of file).place) } ∷ []) in
    let edited : HasEdited (IsWrite directory) c.rename_entry.result mid new =
    subst (λ volume. HasEdited (IsWrite (g.F.Format.directory format volume)) c.rename_entry.result mid new) c.volume-2.ensures c.rename_entry.ensures.edited in
    edited_as c.rename_entry.result old new (IsWrite directory)
    (IsRenameEdit meaning files names old.store (name_view c.args.name) new_name)
    (λ honest writes is. record {
      directory = directory;
      accepted = checked.accepted honest;
      file = file;
      first = subst (λ volume. IsFirstNamed files (g.F.Format.directory format volume) (name_view c.args.name) file) c.volume.ensures c.in-Some.ensures.found;
      renamable = subst (λ (d : DeviceState). IsRenamable names d.store directory file new_name) (checked.device.kept honest refl) is.0;
      are = is.1 ∙ ap (λ (d : DeviceState). record { place = (entry_of directory file).place; unit = names.with_name new_name (entry_of directory file) (unit_at d.store (entry_of directory file).place) } ∷ [])
          (checked.device.kept honest refl);
    })
    (edited_after c.rename_entry.result old new (IsWrite directory) mid checked.device edited)
