use Rattle.std.proofs.Common.{inl, inr, ap, subst, map, string_bytes, ⊎_elim}
use Rattle.std.specs.Prelude.{List, ℕ, Option}
use Rattle.shop_jobs.specs.Job.{job_view}
use Rattle.shop_replies.specs.Reply.{held}
use Rattle.shop_commands.specs.Answer.{HandsOutFor}
use Rattle.shop_commands.proofs.Answered.{command_answered, command_placed, command_refused, command_untaken}
use Rattle.shop_commands.proofs.command.run_command.Goals as goal

pub returns-in-Err-clause-answer : goal.returns-in-Err-clause-answer
returns-in-Err-clause-answer g c =
    command_refused (map string_bytes c.args.words.now) (g.I.Read.remaining c.args.image.now) (g.E.Read.remaining c.args.extra.now)
    (g.O.Write.contents c.args.out.now) c.in-Err.status (g.T.Write.contents c.args.text.now) (g.T.Write.contents c.job_of_words.new.text) c.in-Err.ensures.told

pub returns-in-Err-clause-in_place : goal.returns-in-Err-clause-in_place
returns-in-Err-clause-in_place g c = λ job asked placed.
    inl (command_untaken (map string_bytes c.args.words.now) (g.O.Write.contents c.args.out.now) c.in-Err.status
    (g.T.Write.contents c.args.text.now) (g.T.Write.contents c.job_of_words.new.text) c.in-Err.ensures.told)

pub returns-in-Ok-clause-answer : goal.returns-in-Ok-clause-answer
returns-in-Ok-clause-answer g c =
    let out = g.O.Write.contents c.args.out.now in
    command_answered (map string_bytes c.args.words.now) (job_view c.in-Ok.job) c.in-Ok.ensures.job c.run_job.result
    (held (g.T.Write.contents c.args.text.now) out) (held (g.T.Write.contents c.job_of_words.new.text) out)
    (held (g.T.Write.contents c.run_job.new.text) (g.O.Write.contents c.run_job.new.out)) (ap (λ told. held (g.T.Write.contents told) out) c.in-Ok.ensures.untold)
    (g.I.Read.remaining c.args.image.now) (g.E.Read.remaining c.args.extra.now) c.run_job.ensures.answer

pub returns-in-Ok-clause-in_place : goal.returns-in-Ok-clause-in_place
returns-in-Ok-clause-in_place g c = λ job asked placed.
    let out = g.O.Write.contents c.args.out.now in
    command_placed (map string_bytes c.args.words.now) (job_view c.in-Ok.job) c.in-Ok.ensures.job c.run_job.result
    (held (g.T.Write.contents c.args.text.now) out) (held (g.T.Write.contents c.job_of_words.new.text) out)
    (held (g.T.Write.contents c.run_job.new.text) (g.O.Write.contents c.run_job.new.out)) (ap (λ told. held (g.T.Write.contents told) out) c.in-Ok.ensures.untold)
    job asked placed c.run_job.ensures.in_place

pub returns-in-Ok-clause-out : goal.returns-in-Ok-clause-out
returns-in-Ok-clause-out g c =
    ⊎_elim inl (λ made. inr (
      job_view c.in-Ok.job,
      c.in-Ok.ensures.job,
      made.0,
      subst (λ (told : Option (List ℕ)). HandsOutFor (job_view c.in-Ok.job) c.run_job.result told (g.T.Write.contents c.run_job.new.text)) (ap g.T.Write.contents c.in-Ok.ensures.untold) made.1,
    )) c.run_job.ensures.out

pub returns-in-Ok-clause-extra : goal.returns-in-Ok-clause-extra
returns-in-Ok-clause-extra g c =
    ⊎_elim inl (λ reads. inr (job_view c.in-Ok.job, c.in-Ok.ensures.job, reads)) c.run_job.ensures.extra

pub returns-in-Ok-clause-image : goal.returns-in-Ok-clause-image
returns-in-Ok-clause-image g c =
    ⊎_elim inl (λ reads. inr (job_view c.in-Ok.job, c.in-Ok.ensures.job, reads)) c.run_job.ensures.image
