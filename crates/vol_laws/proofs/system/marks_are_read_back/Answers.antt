use Rattle.vol_laws.proofs.ReadBack.{reads_back, others_stay}
use Rattle.vol_laws.proofs.system.marks_are_read_back.Goals as goal

pub returns-clause-marked : goal.returns-clause-marked
returns-clause-marked c =
    λ directory marks mark inside has same. reads_back mark marks directory inside has same

pub returns-clause-others : goal.returns-clause-others
returns-clause-others c =
    λ directory marks place differ. others_stay marks directory place differ
