use Rattle.std.proofs.Common.{List, ℕ, subst}
use Rattle.disk_container.specs.Container.{IsContainer}
use Rattle.image_survey.proofs.image.survey_container.Goals as goal

pub keep_payload-requires : goal.keep_payload-requires
keep_payload-requires c = subst (λ (bytes : List ℕ). IsContainer bytes c.in-Ok.container) c.as_slice.ensures.value c.in-Ok.ensures.container
