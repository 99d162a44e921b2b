use Rattle.std.proofs.Common.{◌∙◌, ap}
use Rattle.dos_catalog.specs.Listed.{entries_of_catalog}
use Rattle.dos_format.proofs.Readers.{within}
use Rattle.edit_formats.proofs.NamedEntries.{name-dos}
use Rattle.edit_formats.proofs.dos_edits.Dos33EditableFormat.put_name.Goals as goal

pub bounds-entries-file : goal.bounds-entries-file
bounds-entries-file g c =
    within c.args.self.now.data_disk c.args.self.now.reserved c.args.volume.now.vtoc (entries_of_catalog c.args.volume.now.catalog)
    c.entries.result.now c.args.file (c.entries.ensures ∙ ap entries_of_catalog c.catalog.ensures) c.requires.file

pub returns : goal.returns
returns g c =
    name-dos c.args.self.now.data_disk c.args.self.now.reserved c.args.volume.now.vtoc (entries_of_catalog c.args.volume.now.catalog)
    c.entries.result.now (c.entries.ensures ∙ ap entries_of_catalog c.catalog.ensures) c.args.file _ c.requires.file
    c.args.name.now c.dos_name.result c.args.unit.now c.set_name.new.unit c.dos_name.ensures c.set_name.ensures
