use Rattle.std.proofs.Common.{◌≡◌, sym, ◌∙◌}
use Rattle.edit_formats.specs.declared.error.EditError.TheVariants.{Check}
use Rattle.edit_formats.proofs.Walked.{no_fault}
use Rattle.edit_formats.proofs.dos_saves.walk_from.Goals as goal

pub returns-in-Err-clause-described : goal.returns-in-Err-clause-described
returns-in-Err-clause-described g c = λ honest vtoc is same.
    let told : c.refusal.result ≡ Check = cc (same) in
    no_fault (g.D.Device.state c.args.device.now).store c.in-Err.error (c.in-Err.ensures.refused honest vtoc) is.0 is.1 (sym c.refusal.ensures ∙ told)
