use Rattle.vol_format.proofs.OneList.{one_parts, one_layout}
use Rattle.vol_format.proofs.layouts.a_store_has_one_layout.Goals as goal

pub returns-clause-parts : goal.returns-clause-parts
returns-clause-parts g c =
    let format = c.args.format.now in
    one_parts (g.F.Format.meaning format)

pub returns-clause-layout : goal.returns-clause-layout
returns-clause-layout g c =
    let format = c.args.format.now in
    one_layout (g.F.Format.meaning format) (g.met.F.Format.readable format)
