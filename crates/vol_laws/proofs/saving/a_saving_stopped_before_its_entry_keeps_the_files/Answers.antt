use Rattle.vol_laws.proofs.WholeSaving.{stopped}
use Rattle.vol_laws.proofs.saving.a_saving_stopped_before_its_entry_keeps_the_files.Goals as goal

pub returns : goal.returns
returns g c =
    let format = c.args.format.now in
    λ few at entry planned store writes made accepted full saving below.
    stopped (g.F.Format.meaning format) (g.met.F.Format.readable format) (g.met.F.WritableFormat.movable format) (g.met.F.WritableFormat.writable format)
    few at entry planned store writes accepted full saving made below
