use Rattle.dos_catalog.specs.Listed.{entries_of_catalog}
use Rattle.dos_format.proofs.Readers.{within, root-dos}
use Rattle.dos_format.proofs.dos.Dos33Format.root.Goals as goal

pub bounds-entries-file : goal.bounds-entries-file
bounds-entries-file g c =
    within c.args.self.now.data_disk c.args.self.now.reserved c.args.volume.now.vtoc (entries_of_catalog c.args.volume.now.catalog)
    c.entries.result.now c.args.file c.entries.ensures c.requires

pub returns : goal.returns
returns g c =
    root-dos c.args.self.now.data_disk c.args.self.now.reserved c.args.volume.now.vtoc (entries_of_catalog c.args.volume.now.catalog)
    c.entries.result.now c.args.file _ c.entries.ensures c.requires c.link.result c.first_list.result c.link.ensures c.first_list.ensures
