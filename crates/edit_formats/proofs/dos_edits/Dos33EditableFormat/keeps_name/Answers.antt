use Rattle.std.proofs.Common.{◌∙◌, ap}
use Rattle.dos_catalog.specs.Listed.{entries_of_catalog}
use Rattle.dos_format.proofs.Readers.{within}
use Rattle.edit_formats.proofs.NamedEntries.{keeps-dos}
use Rattle.edit_formats.proofs.dos_edits.Dos33EditableFormat.keeps_name.Goals as goal

pub bounds-entries-file : goal.bounds-entries-file
bounds-entries-file g c =
    within c.args.self.now.data_disk c.args.self.now.reserved c.args.volume.now.vtoc (entries_of_catalog c.args.volume.now.catalog)
    c.entries.result.now c.args.file (c.entries.ensures ∙ ap entries_of_catalog c.catalog.ensures) c.requires

pub returns : goal.returns
returns g c =
    keeps-dos c.args.self.now.data_disk c.args.self.now.reserved c.args.volume.now.vtoc (entries_of_catalog c.args.volume.now.catalog)
    c.entries.result.now (c.entries.ensures ∙ ap entries_of_catalog c.catalog.ensures) c.args.file _ c.requires c.is_locked.result c.is_locked.ensures
