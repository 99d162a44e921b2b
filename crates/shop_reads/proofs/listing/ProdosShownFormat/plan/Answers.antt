use Rattle.std.proofs.Common.{◌∙◌, ap, inl}
use Rattle.file_listings.specs.ProSteps.{plan_text}
use Rattle.shop_replies.specs.declared.reply.Reply.{Reply}
use Rattle.shop_replies.specs.Reply.{text_of}
use Rattle.shop_reads.proofs.listing.ProdosShownFormat.plan.Goals as goal

pub returns-in-Ok : goal.returns-in-Ok
returns-in-Ok c =
    inl ((ap (λ (reply : Reply). reply.status) c.plan.ensures, ap (λ (reply : Reply). reply.image) c.plan.ensures), ap text_of c.plan.ensures ∙ ap plan_text c.in-Ok.ensures)
