use Rattle.std.proofs.Common.{◌∙◌, ap}
use Rattle.dos_vtoc.specs.Vtoc.{free_count_of}
use Rattle.dos_catalog.specs.Listed.{entries_of_catalog}
use Rattle.file_formats.specs.lemmas.DosShown.{free_count-dos}
use Rattle.file_formats.proofs.dos.Dos33FileFormat.free_count.Goals as goal

pub returns : goal.returns
returns g c =
    c.free_count.ensures ∙ ap free_count_of c.vtoc.ensures
    ∙ free_count-dos c.args.self.now.data_disk c.args.self.now.reserved c.args.volume.now.vtoc (entries_of_catalog c.args.volume.now.catalog)
