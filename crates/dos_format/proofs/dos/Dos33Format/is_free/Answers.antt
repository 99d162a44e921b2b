use Rattle.std.proofs.Common.{◌∙◌}
use Rattle.dos_catalog.specs.Listed.{entries_of_catalog}
use Rattle.dos_format.proofs.Readers.{free-dos}
use Rattle.dos_format.proofs.dos.Dos33Format.is_free.Goals as goal

pub returns : goal.returns
returns g c =
    c.is_free.ensures
    ∙ free-dos c.args.self.now.data_disk c.args.self.now.reserved c.args.volume.now.vtoc (entries_of_catalog c.args.volume.now.catalog) c.args.place c.requires
