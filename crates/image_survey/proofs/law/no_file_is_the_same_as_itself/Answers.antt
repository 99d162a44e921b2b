use Rattle.std.specs.List.{filter_map}
use Rattle.image_survey.specs.Told.{candidate}
use Rattle.image_survey.proofs.Firsts.{stand_apart}
use Rattle.image_survey.proofs.law.no_file_is_the_same_as_itself.Goals as goal

pub returns : goal.returns
returns c = λ told one other differ. stand_apart (filter_map candidate told) one other differ
