use Rattle.std.proofs.Common.{List, length, subst, sym}
use Rattle.shop_replies.specs.Volume.{TakesBytes}
use Rattle.image_survey.proofs.Chosen.{choice_takes}
use Rattle.image_survey.proofs.image.verdict_on.Goals as goal

pub best_of-requires : goal.best_of-requires
best_of-requires c =
    subst (λ (image : List _). TakesBytes c.in-Way.file_system c.in-Way.order (length image)) (sym c.in_ok-file_system.ensures.same)
    (choice_takes c.args.image.items c.in-Way.file_system c.in-Way.order (rw c.in-Way.is at c.in_ok-file_system.ensures.choice))
