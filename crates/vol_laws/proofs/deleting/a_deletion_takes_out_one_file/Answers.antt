use Rattle.vol_laws.proofs.WholeDeletion.{done}
use Rattle.vol_laws.proofs.deleting.a_deletion_takes_out_one_file.Goals as goal

pub returns : goal.returns
returns g c =
    let format = c.args.format.now in
    λ free is_named directory file store writes accepted full first deletion.
    done (g.F.Format.meaning format) (g.met.F.Format.readable format) (g.met.F.WritableFormat.movable format) (g.met.F.WritableFormat.writable format) free
    is_named directory file store writes accepted full first deletion
