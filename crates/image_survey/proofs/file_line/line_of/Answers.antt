use Rattle.std.proofs.Common.{Some, None, refl, subst, sym, ⊎_elim, inl, inr}
use Rattle.std.specs.Prelude.{IsTrue, Ok}
use Rattle.std.specs.declared.alloc.AllocError.{AllocError}
use Rattle.file_cmds.specs.FileText.{IsFileText, has_failed}
use Rattle.file_cmds.specs.declared.file_texts.FileText.{FileText}
use Rattle.file_cmds.specs.lemmas.Reading.{one_reading}
use Rattle.volume_compare.specs.Contents.{volume_in}
use Rattle.image_survey.proofs.Lines.{lacks_in_file, lines_if}
use Rattle.image_survey.proofs.file_line.line_of.Goals as goal

pub returns-in-Whole-clause-told : goal.returns-in-Whole-clause-told
returns-in-Whole-clause-told g c =
    let old = g.D.Device.state c.args.device.now in
    let directory = g.F.Format.directory c.args.format.now c.args.volume.now in
    let meaning = g.F.Format.meaning c.args.format.now in
    lines_if (volume_in c.args.form (g.F.FileFormat.files c.args.format.now) meaning directory old.store) old.unreadable c.args.file (Some c.in-Whole.whole.items)
    (subst (λ (text : FileText _). IsFileText meaning directory old.store c.args.file text) c.in-Whole.is (c.in_ok-text.ensures.text c.requires.honest))
    c.line_with.result c.line_with.ensures

pub returns-in-Faulty : goal.returns-in-Faulty
returns-in-Faulty g c =
    let old = g.D.Device.state c.args.device.now in
    let new = g.D.Device.state c.text.new.device in
    let directory = g.F.Format.directory c.args.format.now c.args.volume.now in
    let meaning = g.F.Format.meaning c.args.format.now in
    record {
      reads = one_reading old new _ c.in_ok-text.ensures.device;
      kept = c.in_ok-text.ensures.kept;
      told = record {
        whole = None;
        is_whole = ⊎_elim
            (λ faulty. inl (subst (λ (text : FileText _). IsFileText meaning directory old.store c.args.file text) faulty (c.in_ok-text.ensures.text c.requires.honest)))
            (λ failed. inr (lacks_in_file (volume_in c.args.form (g.F.FileFormat.files c.args.format.now) meaning directory old.store) old new c.args.file refl
            c.requires.honest c.requires.never
            (c.in_ok-text.ensures.failed c.requires.honest (subst (λ (text : FileText _). IsTrue (has_failed {E = AllocError} (Ok text))) (sym failed) refl))))
            c.in-Faulty.is;
        is = c.line_without.ensures;
      };
    }
