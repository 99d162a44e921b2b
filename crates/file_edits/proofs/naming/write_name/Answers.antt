use Rattle.std.proofs.Common.{◌≡◌, ◌∙◌, List, [], ◌∷◌, ap}
use Rattle.a2_device.specs.Device.{unit_at}
use Rattle.vol_format.specs.Directory.{entry_of}
use Rattle.vol_laws.specs.Writes.{Write}
use Rattle.edit_formats.proofs.Edits.{edited_after, edited_as, one_write}
use Rattle.file_edits.proofs.naming.write_name.Goals as goal

pub returns-clause-edited : goal.returns-clause-edited
returns-clause-edited g c =
    let format = c.args.format.now in
    let entry = entry_of (g.F.Format.directory format c.args.volume.now) c.args.file in
    let names = g.F.EditableFormat.names format in
    let old = g.D.Device.state c.args.device.now in
    let mid = g.D.Device.state c.read_unit.new.device in
    let new = g.D.Device.state c.write_unit.new.device in
    let read = c.in_ok-read_unit.ensures in
    let unit = c.put_name.new.unit in
    let place = c.entry_at-place.result.place in
    edited_as c.write_unit.result old new
    (λ (writes : List Write). writes ≡ record { place = place; unit = unit } ∷ [])
    (λ (writes : List Write). writes ≡ record { place = entry.place; unit = names.with_name c.args.new.now entry (unit_at old.store entry.place) } ∷ [])
    (λ honest writes is. is
    ∙ ap (λ u. record { place = place; unit = u } ∷ []) (c.put_name.ensures ∙ ap (names.with_name c.args.new.now entry) (read.read honest))
    ∙ ap (λ p. record { place = p; unit = names.with_name c.args.new.now entry (unit_at old.store p) } ∷ []) c.entry_at-place.ensures.place)
    (edited_after c.write_unit.result old new (λ (writes : List Write). writes ≡ record { place = place; unit = unit } ∷ []) mid read.device
    (one_write place unit c.write_unit.result mid new c.write_unit.ensures.device c.write_unit.ensures.faults c.write_unit.ensures.error
    c.write_unit.ensures.written c.write_unit.ensures.refused))
