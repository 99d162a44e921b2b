use Rattle.std.proofs.Common.{◌∙◌, ap, subst, sym}
use Rattle.std.specs.Prelude.{Err}
use Rattle.file_formats.specs.FileNames.{name_view}
use Rattle.shop_replies.specs.declared.reply.Reply.{Reply}
use Rattle.shop_reads.specs.ReadReply.{IsRead}
use Rattle.shop_reads.proofs.Readings.{not_read}
use Rattle.shop_reads.proofs.reading.read_reply.Goals as goal

pub returns-in-Err-clause-told : goal.returns-in-Err-clause-told
returns-in-Err-clause-told g c = λ honest lack.
    let place = g.F.ShownFormat.form c.args.format.now in
    let files = g.F.FileFormat.files c.args.format.now in
    let format = g.F.Format.meaning c.args.format.now in
    subst (λ (reply : Reply). IsRead (name_view c.args.name) c.args.form c.args.to_file place files format (g.D.Device.state c.args.device.now) reply)
    (sym c.refusal_reply.ensures)
    (not_read files format (g.D.Device.state c.args.device.now) (name_view c.args.name) c.args.form c.args.to_file place c.in-Err.error (λ is. c.in-Err.ensures.check honest (ap Err is))
    (λ is. c.in-Err.ensures.not_found honest (ap Err is)) (λ is. lack (c.refusal_reply.ensures ∙ is)))
