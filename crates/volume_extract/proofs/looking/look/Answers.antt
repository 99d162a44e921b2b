use Rattle.std.proofs.Common.{refl, subst, sym, ◌∙◌, ⊎_elim, inl, inr}
use Rattle.std.specs.Prelude.{IsTrue, Ok}
use Rattle.std.specs.declared.alloc.AllocError.{AllocError}
use Rattle.file_cmds.specs.FileText.{IsFileText, has_failed}
use Rattle.file_cmds.specs.declared.file_texts.FileText.{FileText}
use Rattle.file_cmds.specs.lemmas.Reading.{once_failed_in_file, one_reading}
use Rattle.volume_extract.proofs.looking.look.Goals as goal

pub returns-in-Whole-clause-looked : goal.returns-in-Whole-clause-looked
returns-in-Whole-clause-looked g c = λ honest.
    let old = g.D.Device.state c.args.device.now in
    let directory = g.F.Format.directory c.args.opened.now.format.now c.args.opened.now.volume in
    let meaning = g.F.Format.meaning c.args.opened.now.format.now in (
      sym c.is_folder.ensures ∙ c.if-is_folder.false,
      subst (λ (text : FileText _). IsFileText meaning directory old.store c.args.entry text) c.in-Whole.is (c.in_ok-text.ensures.text honest),
    )

pub returns-in-Faulty : goal.returns-in-Faulty
returns-in-Faulty g c =
    let old = g.D.Device.state c.args.device.now in
    let new = g.D.Device.state c.text.new.device in
    let directory = g.F.Format.directory c.args.opened.now.format.now c.args.opened.now.volume in
    let meaning = g.F.Format.meaning c.args.opened.now.format.now in
    record {
      reads = one_reading old new _ c.in_ok-text.ensures.device;
      kept = c.in_ok-text.ensures.kept;
      looked = λ honest. (
        sym c.is_folder.ensures ∙ c.if-is_folder.false,
        ⊎_elim
            (λ faulty. inl (subst (λ (text : FileText _). IsFileText meaning directory old.store c.args.entry text) faulty (c.in_ok-text.ensures.text honest)))
            (λ failed. inr (once_failed_in_file meaning directory old new c.args.entry
            (c.in_ok-text.ensures.failed honest (subst (λ (text : FileText _). IsTrue (has_failed {E = AllocError} (Ok text))) (sym failed) refl))))
            c.in-Faulty.is,
      );
    }
