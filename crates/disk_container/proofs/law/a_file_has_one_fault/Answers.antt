use Rattle.disk_container.proofs.OneAnswer.{no_container, one_fault}
use Rattle.disk_container.proofs.law.a_file_has_one_fault.Goals as goal

pub returns : goal.returns
returns c = λ bytes fault is.
    (λ container. no_container bytes fault container is, λ other. one_fault bytes fault other is)
