use Rattle.std.proofs.Common.{ap, subst, Option}
use Rattle.shop_jobs.specs.Job.{JobView, job_view}
use Rattle.shop_words.specs.Asked.{asked_view}
use Rattle.shop_words.specs.Gives.{Gives}
use Rattle.shop_words.specs.Job.{words_job}
use Rattle.shop_words.proofs.AskedLemmas.{line_gives, plain_gives, settled_gives}
use Rattle.shop_words.proofs.asked.Asked.job.Goals as goal

pub returns-clause-job : goal.returns-clause-job
returns-clause-job c = subst (λ (o : Option JobView). Gives job_view o c.job_in.result) (ap words_job c.given.ensures) c.job_in.ensures

pub returns-clause-plain : goal.returns-clause-plain
returns-clause-plain c words plain asked = plain_gives job_view words (asked_view c.args.self.now) c.job_in.result plain asked (returns-clause-job c)

pub returns-clause-settled : goal.returns-clause-settled
returns-clause-settled c words plain asked =
    settled_gives job_view words (asked_view c.args.self.now) c.job_in.result plain asked (returns-clause-job c)

pub returns-clause-line : goal.returns-clause-line
returns-clause-line c words f positionals uses line asked =
    line_gives job_view words f positionals uses (asked_view c.args.self.now) c.job_in.result line asked (returns-clause-job c)
