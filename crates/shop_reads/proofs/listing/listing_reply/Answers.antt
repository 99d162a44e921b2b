use Rattle.std.proofs.Common.{◌∙◌, ap, inl, subst, sym}
use Rattle.std.specs.Prelude.{Err}
use Rattle.shop_replies.specs.declared.reply.Reply.{Reply}
use Rattle.shop_reads.specs.CatalogReply.{IsListed}
use Rattle.shop_reads.proofs.Readings.{not_listed}
use Rattle.shop_reads.proofs.listing.listing_reply.Goals as goal

pub returns-in-Ok-clause-told : goal.returns-in-Ok-clause-told
returns-in-Ok-clause-told g c = λ honest lack. inl (record {
  directory = g.F.Format.directory c.args.format.now c.in-Ok.volume;
  described = c.in-Ok.ensures.described honest;
  told = c.catalog_reply.ensures;
})

pub returns-in-Err-clause-told : goal.returns-in-Err-clause-told
returns-in-Err-clause-told g c = λ honest lack.
    let format = g.F.Format.meaning c.args.format.now in
    subst (λ (reply : Reply). IsListed (g.F.ShownFormat.form c.args.format.now) format (g.D.Device.state c.args.device.now) reply) (sym c.refusal_reply.ensures)
    (not_listed (g.F.FileFormat.files c.args.format.now) format (g.D.Device.state c.args.device.now) (g.F.ShownFormat.form c.args.format.now) c.in-Err.error (λ is. c.in-Err.ensures.found (ap Err is)) (λ is. c.in-Err.ensures.check honest (ap Err is))
    (λ is. lack (c.refusal_reply.ensures ∙ is)))
