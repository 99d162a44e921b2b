use Rattle.std.proofs.Common.{subst, sym, ◌↔◌, IfOk, IsTrue}
use Rattle.file_forms.specs.Found.{file_view}
use Rattle.file_forms.specs.Readable.{IsTakenBack}
use Rattle.file_forms.specs.declared.form.FileForm.{FileForm}
use Rattle.file_forms.proofs.coming_back.is_taken_back.Goals as goal

pub returns-in-Text : goal.returns-in-Text
returns-in-Text g c =
    subst (λ (form : FileForm). IfOk c.is_text_of.result (λ is. IsTrue is ↔ IsTakenBack form (file_view c.args.file.now) c.args.given.now))
    (sym c.in-Text.is) c.is_text_of.ensures

pub returns-in-Applesoft : goal.returns-in-Applesoft
returns-in-Applesoft g c =
    subst (λ (form : FileForm). IfOk c.is_program.result (λ is. IsTrue is ↔ IsTakenBack form (file_view c.args.file.now) c.args.given.now))
    (sym c.in-Applesoft.is) c.is_program.ensures
