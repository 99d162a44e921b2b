use Rattle.vol_laws.proofs.WholeSaving.{done}
use Rattle.vol_laws.proofs.saving.a_saving_enters_one_file.Goals as goal

pub returns : goal.returns
returns g c =
    let format = c.args.format.now in
    λ free few at entry planned store writes made file accepted full saving path bytes body above below.
    done (g.F.Format.meaning format) (g.met.F.Format.readable format) (g.met.F.WritableFormat.movable format) (g.met.F.WritableFormat.writable format)
    few at entry planned store writes accepted full saving file free path bytes body made above below
