use Rattle.std.proofs.Common.{sym, subst}
use Rattle.std.specs.Prelude.{Err}
use Rattle.pro_dir.specs.Listed.{directory_of}
use Rattle.edit_formats.specs.ProNames.{HasNameBeside}
use Rattle.edit_formats.specs.Renamed.{IsAnswer}
use Rattle.edit_formats.proofs.NamedEntries.{beside-pro, no_fault-pro}
use Rattle.edit_formats.proofs.pro_edits.ProdosEditableFormat.has_beside.Goals as goal

pub returns-in-Err-clause-told : goal.returns-in-Err-clause-told
returns-in-Err-clause-told g c = λ honest described.
    let store = (g.D.Device.state c.args.device.now).store in
    subst (λ error. IsAnswer (HasNameBeside store c.args.file c.args.name.now) (Err error)) (sym c.refusal.ensures)
    (no_fault-pro store described.tree described.described c.args.file c.args.name.now c.in-Err.error (c.in-Err.ensures.refused honest))

pub returns-clause-told : goal.returns-clause-told
returns-clause-told g c = λ honest described.
    let store = (g.D.Device.state c.args.device.now).store in
    beside-pro store (directory_of c.in-Ok.walked) (c.in-Ok.ensures.described honest) c.args.file c.args.name.now
    c.entries.result.now c.entries.ensures c.has_name_beside.result c.has_name_beside.ensures
