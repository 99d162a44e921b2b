use Rattle.vol_laws.proofs.SystemWrites.{system_write_kept}
use Rattle.vol_laws.proofs.entries.a_system_write_keeps_the_files.Goals as goal

pub returns : goal.returns
returns g c =
    let format = c.args.format.now in
    system_write_kept (g.F.Format.meaning format)
