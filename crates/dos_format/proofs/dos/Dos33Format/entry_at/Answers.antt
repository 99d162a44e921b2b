use Rattle.dos_catalog.specs.Listed.{entries_of_catalog}
use Rattle.dos_format.proofs.Readers.{within, place-dos, slot-dos}
use Rattle.dos_format.proofs.dos.Dos33Format.entry_at.Goals as goal

pub bounds-entries-file : goal.bounds-entries-file
bounds-entries-file g c =
    within c.args.self.now.data_disk c.args.self.now.reserved c.args.volume.now.vtoc (entries_of_catalog c.args.volume.now.catalog)
    c.entries.result.now c.args.file c.entries.ensures c.requires

pub returns-clause-place : goal.returns-clause-place
returns-clause-place g c =
    place-dos c.args.self.now.data_disk c.args.self.now.reserved c.args.volume.now.vtoc (entries_of_catalog c.args.volume.now.catalog)
    c.entries.result.now c.args.file _ c.entries.ensures c.requires

pub returns-clause-slot : goal.returns-clause-slot
returns-clause-slot g c =
    slot-dos c.args.self.now.data_disk c.args.self.now.reserved c.args.volume.now.vtoc (entries_of_catalog c.args.volume.now.catalog)
    c.entries.result.now c.args.file _ c.entries.ensures c.requires
