use Rattle.std.proofs.Common.{refl, subst, sym, ⊎_elim, inl, inr}
use Rattle.std.specs.Prelude.{IsTrue, Ok}
use Rattle.std.specs.declared.alloc.AllocError.{AllocError}
use Rattle.file_cmds.specs.FileText.{IsFileText, has_failed}
use Rattle.file_cmds.specs.declared.file_texts.FileText.{FileText}
use Rattle.file_cmds.specs.lemmas.Reading.{once_failed_in_file, one_reading}
use Rattle.volume_compare.proofs.content.content_of.Goals as goal

pub returns-in-Faulty : goal.returns-in-Faulty
returns-in-Faulty g c =
    let old = g.D.Device.state c.args.device.now in
    let new = g.D.Device.state c.text.new.device in
    let directory = g.F.Format.directory c.args.format.now c.args.volume.now in
    let meaning = g.F.Format.meaning c.args.format.now in
    record {
      reads = one_reading old new _ c.in_ok-text.ensures.device;
      kept = c.in_ok-text.ensures.kept;
      content = λ honest.
          ⊎_elim
          (λ faulty. inl (subst (λ (text : FileText _). IsFileText meaning directory old.store c.args.file text) faulty (c.in_ok-text.ensures.text honest)))
          (λ failed. inr (once_failed_in_file meaning directory old new c.args.file
          (c.in_ok-text.ensures.failed honest (subst (λ (text : FileText _). IsTrue (has_failed {E = AllocError} (Ok text))) (sym failed) refl))))
          c.in-Faulty.is;
    }
