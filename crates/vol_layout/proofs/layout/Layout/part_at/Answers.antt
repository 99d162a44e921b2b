use Rattle.std.proofs.Common.{◌<◌, length, None, arith, sym, ◌∙◌}
use Rattle.std.proofs.lemmas.List.{get_or_read}
use Rattle.vol_layout.proofs.TableLemmas.{holder_is}
use Rattle.vol_layout.proofs.layout.Layout.part_at.Goals as goal

pub returns : goal.returns
returns g c k =
    let within : c.args.place < length c.self.inside.part_at.items = omega (arith, c.self.invariant.table.size) in
    let read = get_or_read c.self.inside.part_at.items c.args.place c.index.result.now within c.index.ensures None in
    let holder = holder_is c.self.inside c.self.invariant c.args.place k in
    rw (← c.self.view_is) (λ e. holder.0 (sym read ∙ e), λ e. read ∙ holder.1 e)
