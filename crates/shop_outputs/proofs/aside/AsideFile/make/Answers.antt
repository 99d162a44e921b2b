use Rattle.shop_outputs.proofs.Steps.{run_looked, run_over}
use Rattle.shop_outputs.proofs.aside.AsideFile.make.Goals as goal

pub returns-in_err-path-clause-run : goal.returns-in_err-path-clause-run
returns-in_err-path-clause-run g c = λ honest.
    run_over _ c.in-Place.place _ _ _ _ _ c.in-Place.is c.as_str.ensures.value (c.create_beside.ensures.run honest)

pub returns-clause-run : goal.returns-clause-run
returns-clause-run g c = λ honest.
    run_looked _ _ _ _
    (run_over _ c.in-Place.place _ _ _ _ _ c.in-Place.is c.as_str.ensures.value (c.create_beside.ensures.run honest))
    c.keep_standing-kept.ensures
