use Rattle.std.proofs.Common.{◌∙◌, ap}
use Rattle.dos_catalog.specs.Listed.{entries_of_catalog}
use Rattle.dos_format.proofs.Readers.{within}
use Rattle.file_formats.specs.FileNames.{name_view}
use Rattle.file_formats.proofs.DosEntries.{matches-dos}
use Rattle.file_formats.proofs.dos.Dos33FileFormat.matches.Goals as goal

pub bounds-entries-file : goal.bounds-entries-file
bounds-entries-file g c =
    within c.args.self.now.data_disk c.args.self.now.reserved c.args.volume.now.vtoc (entries_of_catalog c.args.volume.now.catalog)
    c.entries.result.now c.args.file (c.entries.ensures ∙ ap entries_of_catalog c.catalog.ensures) c.requires

pub returns : goal.returns
returns g c =
    matches-dos c.args.self.now.data_disk c.args.self.now.reserved c.args.volume.now.vtoc (entries_of_catalog c.args.volume.now.catalog)
    c.entries.result.now c.args.file _ (c.entries.ensures ∙ ap entries_of_catalog c.catalog.ensures) c.requires
    (name_view c.args.name) c.name.result.now c.is_name.result c.is_name.ensures c.name.ensures
