use Rattle.vol_laws.proofs.Building.{are_planned, built_new, built_file}
use Rattle.vol_laws.proofs.plans.a_built_file_is_new.Goals as goal

pub returns : goal.returns
returns g c =
    let format = c.args.format.now in
    let meaning = g.F.Format.meaning format in
    let laws = g.met.F.Format.readable format in
    let movable = g.met.F.WritableFormat.movable format in
    λ directory old new planned entry file accepted built held lost path bytes body. (
      are_planned meaning laws new planned entry.root built held,
      built_new meaning laws new planned entry.root built held directory (movable.described old directory accepted.described) old lost,
      built_file meaning laws new planned entry file built held path bytes body,
    )
