use Rattle.vol_format.proofs.OneList.{one_list}
use Rattle.vol_format.proofs.files.a_store_has_one_list_of_files.Goals as goal

pub returns : goal.returns
returns g c =
    let format = c.args.format.now in
    one_list (g.F.Format.meaning format) (g.met.F.Format.readable format)
