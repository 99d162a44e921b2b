use Rattle.std.proofs.Common.{◌∙◌, ap}
use Rattle.dos_catalog.specs.Listed.{entries_of_catalog}
use Rattle.dos_format.proofs.Readers.{within}
use Rattle.edit_formats.proofs.EntryWrites.{lock-dos}
use Rattle.edit_formats.proofs.dos_edits.Dos33EditableFormat.put_lock.Goals as goal

pub bounds-entries-file : goal.bounds-entries-file
bounds-entries-file g c =
    within c.args.self.now.data_disk c.args.self.now.reserved c.args.volume.now.vtoc (entries_of_catalog c.args.volume.now.catalog)
    c.entries.result.now c.args.file (c.entries.ensures ∙ ap entries_of_catalog c.catalog.ensures) c.requires.file

pub returns : goal.returns
returns g c =
    lock-dos c.args.self.now.data_disk c.args.self.now.reserved c.args.volume.now.vtoc (entries_of_catalog c.args.volume.now.catalog)
    c.entries.result.now c.args.file _ (c.entries.ensures ∙ ap entries_of_catalog c.catalog.ensures) c.requires.file
    c.args.on c.locked_kind.result c.args.unit.now c.set_kind.new.unit c.locked_kind.ensures c.set_kind.ensures
