use Rattle.std.proofs.Common.{◌≡◌, Option, false, subst, sym}
use Rattle.std.specs.List.{list_any}
use Rattle.image_survey.specs.Told.{is_of_file}
use Rattle.image_survey.specs.declared.file_id.FileId.{FileId}
use Rattle.image_survey.proofs.Firsts.{none_of}
use Rattle.image_survey.proofs.kept.is_again.Goals as goal

pub returns-in-None-clause-again : goal.returns-in-None-clause-again
returns-in-None-clause-again c =
    sym
    (subst (λ (file : Option FileId). list_any (is_of_file file) c.args.files.now.keys ≡ false) (sym c.in-None.is) (none_of c.args.files.now.keys))
