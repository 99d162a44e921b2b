use Rattle.std.proofs.Common.{◌≡◌, sym, ◌∙◌}
use Rattle.edit_formats.specs.declared.error.EditError.TheVariants.{Check}
use Rattle.file_edits.proofs.ReadVolumes.{accepted_as_read, no_fault_read}
use Rattle.file_edits.proofs.accepting.known_volume.Goals as goal

pub returns-in-Ok-clause-accepted : goal.returns-in-Ok-clause-accepted
returns-in-Ok-clause-accepted g c = λ honest.
    let format = c.args.format.now in
    accepted_as_read (g.F.Format.meaning format) (g.met.F.Format.readable format) (g.D.Device.state c.args.device.now).store
    (c.requires.accepted honest) (g.F.Format.directory format c.in-Ok.volume) (c.in-Ok.ensures.described honest)

pub returns-in-Err-clause-check : goal.returns-in-Err-clause-check
returns-in-Err-clause-check g c = λ honest same volume.
    let format = c.args.format.now in
    let told : c.refusal.result ≡ Check = cc (same) in
    no_fault_read (g.F.Format.meaning format) (g.met.F.Format.readable format) (g.D.Device.state c.args.device.now).store volume
    c.in-Err.error (c.in-Err.ensures.refused honest) (sym c.refusal.ensures ∙ told)
