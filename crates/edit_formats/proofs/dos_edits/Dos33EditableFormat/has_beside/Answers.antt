use Rattle.std.proofs.Common.{◌∙◌, ap}
use Rattle.dos_catalog.specs.Listed.{entries_of_catalog}
use Rattle.edit_formats.proofs.NamedEntries.{beside-dos}
use Rattle.edit_formats.proofs.dos_edits.Dos33EditableFormat.has_beside.Goals as goal

pub returns-clause-told : goal.returns-clause-told
returns-clause-told g c = λ honest described.
    beside-dos c.args.self.now.data_disk c.args.self.now.reserved c.args.volume.now.vtoc (entries_of_catalog c.args.volume.now.catalog)
    c.entries.result.now (c.entries.ensures ∙ ap entries_of_catalog c.catalog.ensures)
    c.args.name.now c.dos_name.result c.has_name.result c.dos_name.ensures c.has_name.ensures
