use Rattle.std.proofs.Common.{◌∙◌, ap, sym, [], get_or}
use Rattle.dos_catalog.specs.Listed.{entries_of_catalog}
use Rattle.dos_catalog.specs.declared.entry.Entry.{Entry}
use Rattle.dos_format.proofs.Readers.{within}
use Rattle.vol_format.specs.Directory.{Listed}
use Rattle.file_formats.proofs.DosEntries.{entry_read}
use Rattle.volume_extract.proofs.TreeNames.{short_range}
use Rattle.volume_extract.proofs.tree_format.Dos33TreeFormat.own_name.Goals as goal

abbrev no_entry : Entry
no_entry = record { place = 0; slot = 0; bytes = [] }

pub bounds-entries-entry : goal.bounds-entries-entry
bounds-entries-entry g c =
    within c.args.self.now.data_disk c.args.self.now.reserved c.args.volume.now.vtoc (entries_of_catalog c.args.volume.now.catalog)
    c.entries.result.now c.args.entry (c.entries.ensures ∙ ap entries_of_catalog c.catalog.ensures) c.requires

pub returns-clause-name : goal.returns-clause-name
returns-clause-name g c =
    c.name.ensures
    ∙ sym (ap (λ (entry : Listed). entry.path)
    (entry_read c.args.self.now.data_disk c.args.self.now.reserved c.args.volume.now.vtoc (entries_of_catalog c.args.volume.now.catalog)
    c.entries.result.now c.args.entry _ (c.entries.ensures ∙ ap entries_of_catalog c.catalog.ensures) c.requires))

pub returns-clause-short : goal.returns-clause-short
returns-clause-short g c = short_range (get_or c.entries.result.now c.args.entry no_entry).bytes _ c.name.ensures
