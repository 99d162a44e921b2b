use Rattle.std.proofs.Common.{◌<◌, ◌∙◌, ap, sym, subst, map}
use Rattle.dos_catalog.specs.Listed.{entries_of_catalog}
use Rattle.dos_format.proofs.Readers.{within, place-dos}
use Rattle.edit_formats.specs.declared.writes.Prepared.{Prepared}
use Rattle.edit_formats.specs.Prepared.{write_of}
use Rattle.edit_formats.proofs.ErasedEntries.{all_of_one, erasing-dos}
use Rattle.edit_formats.proofs.dos_edits.Dos33EditableFormat.erase.Goals as goal

pub bounds-entries-file : goal.bounds-entries-file
bounds-entries-file g c =
    within c.args.self.now.data_disk c.args.self.now.reserved c.args.volume.now.vtoc (entries_of_catalog c.args.volume.now.catalog)
    c.entries.result.now c.args.file (c.entries.ensures ∙ ap entries_of_catalog c.catalog.ensures) c.requires.file

pub returns-clause-inside : goal.returns-clause-inside
returns-clause-inside g c =
    let places = (g.D.Device.state c.args.device.now).places in
    all_of_one (λ (write : Prepared g.row.B.Denot). write.place < places) c.in_ok-alone.field-0.items _ c.in_ok-alone.ensures
    (subst (λ n. n < places)
    (sym (place-dos c.args.self.now.data_disk c.args.self.now.reserved c.args.volume.now.vtoc (entries_of_catalog c.args.volume.now.catalog)
    c.entries.result.now c.args.file _ (c.entries.ensures ∙ ap entries_of_catalog c.catalog.ensures) c.requires.file)) c.requires.place)

pub returns-clause-erases : goal.returns-clause-erases
returns-clause-erases g c = λ honest described.
    ap (map write_of) c.in_ok-alone.ensures
    ∙ erasing-dos c.args.self.now.data_disk c.args.self.now.reserved c.args.volume.now.vtoc (entries_of_catalog c.args.volume.now.catalog)
    c.entries.result.now (c.entries.ensures ∙ ap entries_of_catalog c.catalog.ensures) c.args.file _ c.requires.file
    (g.D.Device.state c.args.device.now).store c.in_ok-sector.sector.items c.erased-unit.result.items (c.in_ok-sector.ensures.read honest) c.erased-unit.ensures.value
