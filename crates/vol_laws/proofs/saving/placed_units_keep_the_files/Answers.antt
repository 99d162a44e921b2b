use Rattle.vol_laws.proofs.Unsaved.{all_stands}
use Rattle.vol_laws.proofs.saving.placed_units_keep_the_files.Goals as goal

pub returns : goal.returns
returns g c =
    let format = c.args.format.now in
    λ few planned store markings accepted full placing.
    all_stands (g.F.Format.meaning format) (g.met.F.Format.readable format) (g.met.F.WritableFormat.movable format) (g.met.F.WritableFormat.writable format)
    few planned store markings accepted full placing
