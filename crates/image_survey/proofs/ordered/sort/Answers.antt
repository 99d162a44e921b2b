use Rattle.std.proofs.Common.{rules}
use Rattle.std.proofs.lemmas.List.Sorted.{answers_always}
use Rattle.image_survey.specs.Ordered.{is_before}
use Rattle.image_survey.proofs.Ordering.{before_ranks, far_sorted}
use Rattle.image_survey.proofs.ordered.sort.Goals as goal

pub returns-clause-sorted : goal.returns-clause-sorted
returns-clause-sorted c =
    far_sorted c.sort_unstable_by.new.self.items
    (c.sort_unstable_by.ensures.sorted is_before before_ranks (answers_always _ _ _ (λ f a r f' k. search rules)))
