use Rattle.vol_laws.proofs.Moves.{part_moved, part_stands}
use Rattle.vol_laws.proofs.laws.a_pointer_moves_one_part.Goals as goal

pub returns-clause-part : goal.returns-clause-part
returns-clause-part g c =
    let format = c.args.format.now in
    λ directory store part holder place accepted ready.
    part_moved (g.F.Format.meaning format) (g.met.F.Format.readable format) (g.met.F.WritableFormat.movable format) (g.met.F.WritableFormat.writable format)
    directory store part holder place accepted ready

pub returns-clause-layout : goal.returns-clause-layout
returns-clause-layout g c =
    let format = c.args.format.now in
    part_stands (g.F.Format.meaning format) (g.met.F.Format.readable format) (g.met.F.WritableFormat.movable format) (g.met.F.WritableFormat.writable format)
