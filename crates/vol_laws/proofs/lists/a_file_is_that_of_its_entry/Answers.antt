use Rattle.vol_laws.proofs.WholeLists.{file_by_number}
use Rattle.vol_laws.proofs.lists.a_file_is_that_of_its_entry.Goals as goal

pub returns : goal.returns
returns g c =
    let format = c.args.format.now in
    file_by_number (g.F.Format.meaning format) (g.met.F.Format.readable format) (g.met.F.WritableFormat.movable format)
