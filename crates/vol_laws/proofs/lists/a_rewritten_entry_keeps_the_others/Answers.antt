use Rattle.vol_laws.proofs.FileLists.{list_rewritten}
use Rattle.vol_laws.proofs.Rewriting.{entry_rewritten}
use Rattle.vol_laws.proofs.WholeLists.{volume_rewritten}
use Rattle.vol_laws.proofs.lists.a_rewritten_entry_keeps_the_others.Goals as goal

pub returns-clause-parts : goal.returns-clause-parts
returns-clause-parts g c =
    let format = c.args.format.now in
    entry_rewritten (g.F.Format.meaning format)

pub returns-clause-files : goal.returns-clause-files
returns-clause-files g c =
    let format = c.args.format.now in
    list_rewritten (g.F.Format.meaning format) (g.met.F.Format.readable format) (g.met.F.WritableFormat.movable format)

pub returns-clause-list : goal.returns-clause-list
returns-clause-list g c =
    let format = c.args.format.now in
    volume_rewritten (g.F.Format.meaning format) (g.met.F.Format.readable format) (g.met.F.WritableFormat.movable format)
