use Rattle.vol_laws.proofs.PlanNumbers.{built_anew, held_anew, lost_anew, body_anew}
use Rattle.vol_laws.proofs.plans.a_plan_is_for_a_file_of_any_number.Goals as goal

pub returns-clause-built : goal.returns-clause-built
returns-clause-built g c =
    let format = c.args.format.now in
    λ free places file planned root built.
    built_anew planned file (g.F.Format.meaning format) (g.met.F.Format.readable format) free places root built

pub returns-clause-held : goal.returns-clause-held
returns-clause-held g c = λ store planned file held. held_anew planned file store held

pub returns-clause-lost : goal.returns-clause-lost
returns-clause-lost g c =
    let format = c.args.format.now in
    λ directory store planned file lost.
    lost_anew planned file (g.F.Format.meaning format) directory store lost

pub returns-clause-body : goal.returns-clause-body
returns-clause-body g c = λ planned file body is. body_anew planned file body is
