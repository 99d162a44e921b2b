use Rattle.std.proofs.Common.{◌∙◌, inl, inr, sym}
use Rattle.shop_jobs.specs.Job.{job_view}
use Rattle.shop_replies.specs.Reply.{held}
use Rattle.shop_replies.specs.declared.refusal.Side.TheVariants.{First, Second}
use Rattle.shop_commands.proofs.Answered.{image_handed, job_answered, none_handed, unread_answered}
use Rattle.shop_commands.proofs.DosListings.{dos_listed, dos_unread}
use Rattle.shop_commands.proofs.job.run_job.Goals as goal

answered : goal.returns-clause-answer
answered g c =
    let job = job_view c.args.job.now in
    job_answered job (g.I.Read.remaining c.args.image.now) (g.E.Read.remaining c.args.extra.now) c.in-Ok.bytes.items c.in-Ok-extra_for.more.items c.reply_to.result c.deliver-2.result
    (held (g.T.Write.contents c.args.text.now) (g.O.Write.contents c.args.out.now)) (held (g.T.Write.contents c.deliver-2.new.text) (g.O.Write.contents c.deliver-2.new.out))
    (sym c.is_in_place.ensures ∙ c.if-is_in_place.false) c.in-Ok.ensures.read
    c.in-Ok-extra_for.ensures.read c.reply_to.ensures c.deliver-2.ensures.told

pub returns-clause-answer : goal.returns-clause-answer
returns-clause-answer = answered

pub returns-clause-dos_catalog : goal.returns-clause-dos_catalog
returns-clause-dos_catalog g c =
    dos_listed (job_view c.args.job.now) (g.I.Read.remaining c.args.image.now) c.in-Ok.bytes.items c.in-Ok-extra_for.more.items c.deliver-2.result c.reply_to.result
    (held (g.T.Write.contents c.args.text.now) (g.O.Write.contents c.args.out.now)) (held (g.T.Write.contents c.deliver-2.new.text) (g.O.Write.contents c.deliver-2.new.out))
    c.in-Ok.ensures.read c.reply_to.ensures c.deliver-2.ensures.told

pub returns-clause-out : goal.returns-clause-out
returns-clause-out g c =
    image_handed (job_view c.args.job.now) c.in-Ok.bytes.items c.in-Ok-extra_for.more.items c.reply_to.result c.deliver-2.result
    (g.T.Write.contents c.args.text.now) (g.T.Write.contents c.deliver-2.new.text) c.args.out.now c.deliver-2.new.out (sym c.is_in_place.ensures ∙ c.if-is_in_place.false) c.reply_to.ensures c.deliver-2.ensures.out

-- where bytes could not be read
unread_image : goal.returns-in-Err-clause-answer
unread_image g c =
    unread_answered (job_view c.args.job.now) (g.I.Read.remaining c.args.image.now) (g.E.Read.remaining c.args.extra.now) First c.in-Err.failure c.unread_reply.result
    c.deliver-in-Err.result (held (g.T.Write.contents c.args.text.now) (g.O.Write.contents c.args.out.now))
    (held (g.T.Write.contents c.deliver-in-Err.new.text) (g.O.Write.contents c.deliver-in-Err.new.out))
    (inl (c.in-Err.ensures.failed.0, sym c.is_in_place.ensures ∙ c.if-is_in_place.false)) c.in-Err.ensures.failed.1 c.unread_reply.ensures c.deliver-in-Err.ensures.told

pub returns-in-Err-clause-answer : goal.returns-in-Err-clause-answer
returns-in-Err-clause-answer = unread_image

pub returns-in-Err-clause-dos_catalog : goal.returns-in-Err-clause-dos_catalog
returns-in-Err-clause-dos_catalog g c =
    dos_unread (job_view c.args.job.now) (g.I.Read.remaining c.args.image.now) First c.in-Err.failure c.deliver-in-Err.result c.unread_reply.result
    (held (g.T.Write.contents c.args.text.now) (g.O.Write.contents c.args.out.now))
    (held (g.T.Write.contents c.deliver-in-Err.new.text) (g.O.Write.contents c.deliver-in-Err.new.out))
    c.in-Err.ensures.failed.1 c.unread_reply.ensures c.deliver-in-Err.ensures.told

pub returns-in-Err-clause-out : goal.returns-in-Err-clause-out
returns-in-Err-clause-out g c =
    none_handed (job_view c.args.job.now) First c.in-Err.failure c.unread_reply.result c.args.out.now c.deliver-in-Err.new.out
    c.deliver-in-Err.result (g.T.Write.contents c.args.text.now) (g.T.Write.contents c.deliver-in-Err.new.text)
    c.unread_reply.ensures c.deliver-in-Err.ensures.out

unread_extra : goal.returns-in-Err-extra_for-clause-answer
unread_extra g c =
    unread_answered (job_view c.args.job.now) (g.I.Read.remaining c.args.image.now) (g.E.Read.remaining c.args.extra.now) Second c.in-Err-extra_for.failure
    c.unread_reply-in-Err-extra_for.result c.deliver-in-Err-extra_for.result (held (g.T.Write.contents c.args.text.now) (g.O.Write.contents c.args.out.now))
    (held (g.T.Write.contents c.deliver-in-Err-extra_for.new.text) (g.O.Write.contents c.deliver-in-Err-extra_for.new.out))
    (inr (c.in-Err-extra_for.ensures.failed.0, sym c.is_in_place.ensures ∙ c.if-is_in_place.false)) c.in-Err-extra_for.ensures.failed.1 c.unread_reply-in-Err-extra_for.ensures c.deliver-in-Err-extra_for.ensures.told

pub returns-in-Err-extra_for-clause-answer : goal.returns-in-Err-extra_for-clause-answer
returns-in-Err-extra_for-clause-answer = unread_extra

pub returns-in-Err-extra_for-clause-dos_catalog : goal.returns-in-Err-extra_for-clause-dos_catalog
returns-in-Err-extra_for-clause-dos_catalog g c =
    dos_unread (job_view c.args.job.now) (g.I.Read.remaining c.args.image.now) Second c.in-Err-extra_for.failure c.deliver-in-Err-extra_for.result
    c.unread_reply-in-Err-extra_for.result (held (g.T.Write.contents c.args.text.now) (g.O.Write.contents c.args.out.now))
    (held (g.T.Write.contents c.deliver-in-Err-extra_for.new.text) (g.O.Write.contents c.deliver-in-Err-extra_for.new.out))
    c.in-Err-extra_for.ensures.failed.1 c.unread_reply-in-Err-extra_for.ensures c.deliver-in-Err-extra_for.ensures.told

pub returns-in-Err-extra_for-clause-out : goal.returns-in-Err-extra_for-clause-out
returns-in-Err-extra_for-clause-out g c =
    none_handed (job_view c.args.job.now) Second c.in-Err-extra_for.failure c.unread_reply-in-Err-extra_for.result c.args.out.now c.deliver-in-Err-extra_for.new.out
    c.deliver-in-Err-extra_for.result (g.T.Write.contents c.args.text.now) (g.T.Write.contents c.deliver-in-Err-extra_for.new.text)
    c.unread_reply-in-Err-extra_for.ensures c.deliver-in-Err-extra_for.ensures.out
