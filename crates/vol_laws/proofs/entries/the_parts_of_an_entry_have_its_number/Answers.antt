use Rattle.vol_laws.proofs.EntryNumbers.{parts_of_number}
use Rattle.vol_laws.proofs.entries.the_parts_of_an_entry_have_its_number.Goals as goal

pub returns : goal.returns
returns g c =
    let format = c.args.format.now in
    parts_of_number (g.F.Format.meaning format) (g.met.F.Format.readable format) (g.met.F.WritableFormat.movable format)
