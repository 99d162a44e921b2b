use Rattle.std.proofs.Common.{◌∷◌, ◌++◌, ◌∙◌, [], List, ap, sym}
use Rattle.image_survey.specs.Told.{candidate_by}
use Rattle.image_survey.specs.declared.kept.Kept.{Kept}
use Rattle.image_survey.proofs.Firsts.{kept_more, kept_same}
use Rattle.image_survey.proofs.kept.Images.add.Goals as goal

pub returns-in_ok-push-clause-added : goal.returns-in_ok-push-clause-added
returns-in_ok-push-clause-added c = λ found before.
    kept_more found c.args.self.now (record { kept = c.push.new.self; files = c.is_again.new.files })
    (candidate_by c.args.path.now c.args.file c.args.best.now) before c.in_ok-is_again.ensures.noted c.in_ok-image.image c.in_ok-image.ensures
    (sym c.in_ok-is_again.ensures.again ∙ c.if-not-branch.true)
    (c.in_ok-push.ensures.items ∙ ap (λ (kept : List Kept). kept ++ c.in_ok-image.image ∷ []) c.reserve.ensures.items)

pub returns-else-not-branch-clause-added : goal.returns-else-not-branch-clause-added
returns-else-not-branch-clause-added c = λ found before.
    kept_same found c.args.self.now (record { kept = c.reserve.new.self; files = c.is_again.new.files })
    (candidate_by c.args.path.now c.args.file c.args.best.now) before c.in_ok-is_again.ensures.noted
    (sym c.in_ok-is_again.ensures.again ∙ c.if-not-branch.false) c.reserve.ensures.items
