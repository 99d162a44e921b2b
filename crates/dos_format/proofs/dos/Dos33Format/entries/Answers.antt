use Rattle.std.proofs.Common.{◌∙◌, ap, length}
use Rattle.dos_catalog.specs.Listed.{entries_of_catalog}
use Rattle.dos_format.proofs.Readers.{entries-dos}
use Rattle.dos_format.proofs.dos.Dos33Format.entries.Goals as goal

pub returns : goal.returns
returns g c = ap length c.entries.ensures ∙ entries-dos c.args.self.now.data_disk c.args.self.now.reserved c.args.volume.now.vtoc (entries_of_catalog c.args.volume.now.catalog)
