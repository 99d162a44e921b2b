use Rattle.std.proofs.Common.{◌≡◌}
use Rattle.edit_formats.specs.declared.error.EditError.TheVariants.{Check}
use Rattle.edit_formats.proofs.ErasedEntries.{no_fault}
use Rattle.edit_formats.proofs.pro_saves.walk_directories.Goals as goal

pub returns-in-Err-clause-described : goal.returns-in-Err-clause-described
returns-in-Err-clause-described g c = λ tree honest described same.
    let is : c.refusal.result ≡ Check = cc (same) in
    no_fault (g.D.Device.state c.args.device.now).store tree c.in-Err.error c.refusal.result described (c.in-Err.ensures.refused honest) c.refusal.ensures is
