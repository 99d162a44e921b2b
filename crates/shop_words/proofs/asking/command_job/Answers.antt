use Rattle.std.proofs.Common.{rules, ◌≡◌, ◌∙◌, ap, Err}
use Rattle.std.proofs.lemmas.Result.{err_from_is_err_and}
use Rattle.shop_jobs.specs.Job.{job_view}
use Rattle.shop_words.proofs.JobParts.{both_there, fails_too}
use Rattle.shop_words.proofs.asking.command_job.Goals as goal

pub returns-in_err-reading : goal.returns-in_err-reading
returns-in_err-reading c =
    let given = err_from_is_err_and c.from_residual-in_err-reading.result c.from_residual-in_err-reading.ensures.1 in
    let same : given.0 ≡ c.in_err-reading.field-0.0 = cc in
    fails_too job_view c.from_residual-in_err-reading.result c.in_err-reading.field-0.0 _ _ _ _ _ _ (given.1 ∙ ap Err same) c.in_err-reading.ensures

pub returns-in_err-output : goal.returns-in_err-output
returns-in_err-output c =
    let parts = both_there _ _ _ _ c.in_ok-reading.ensures in
    search (rules, parts.0, parts.1)

pub returns : goal.returns
returns c =
    let parts = both_there _ _ _ _ c.in_ok-reading.ensures in
    search (rules, parts.0, parts.1)
