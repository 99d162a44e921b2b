use Rattle.image_survey.proofs.Shared.{shared_is_told, told_is_shared}
use Rattle.image_survey.proofs.law.each_image_with_the_content_of_another_is_told.Goals as goal

pub returns : goal.returns
returns c = λ keys lines n are. (told_is_shared keys lines n are, shared_is_told keys lines n are)
