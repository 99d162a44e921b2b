use Rattle.std.proofs.Common.{◌∙◌, ap, inl}
use Rattle.shop_replies.specs.declared.reply.Reply.{Reply}
use Rattle.shop_replies.specs.Reply.{text_of}
use Rattle.shop_reads.specs.MapText.{map_text}
use Rattle.shop_reads.proofs.map.drawn_reply.Goals as goal

pub returns-in-Ok : goal.returns-in-Ok
returns-in-Ok c =
    let reply = c.done.ensures in
    inl ((ap (λ (r : Reply). r.status) reply, ap (λ (r : Reply). r.image) reply), ap text_of reply ∙ c.in-Ok.ensures ∙ ap (map_text c.args.form c.args.map.now.parts) c.as_slice.ensures.value)
