use Rattle.std.proofs.Common.{◌∙◌, ℕ, List, inl, inr, refl, rules, subst}
use Rattle.shop_replies.specs.Reply.{certificate_in, text_of}
use Rattle.shop_outputs.specs.Asides.{destination}
use Rattle.shop_outputs.specs.Endings.{IsEnding}
use Rattle.shop_outputs.specs.Puts.{image_bytes}
use Rattle.shop_outputs.proofs.Apart.{held_put}
use Rattle.shop_outputs.proofs.Replying.{held_untouched, nothing_place, reply_kept, reply_settled, reply_stopped, status_memory}
use Rattle.shop_outputs.proofs.settling.end_by.Goals as goal

pub returns-in-Ok-clause-ending : goal.returns-in-Ok-clause-ending
returns-in-Ok-clause-ending g c =
    let old = g.T.Write.contents c.args.text.now in
    let new = g.T.Write.contents c.settle.new.text in
    inl (subst (λ (status : ℕ). IsEnding status (text_of c.args.reply) c.settle.result old new) c.number.ensures
    (subst (λ (told : List ℕ). IsEnding c.number.result told c.settle.result old new) (c.as_slice.ensures.value ∙ c.in-Ok.ensures) c.settle.ensures.ending))

pub returns-in-Err-clause-ending : goal.returns-in-Err-clause-ending
returns-in-Err-clause-ending g c = inr (search rules)

pub returns-in-Ok-clause-files : goal.returns-in-Ok-clause-files
returns-in-Ok-clause-files g c = λ honest untouched other_untouched apart.
    let first = c.hand_certificate-certificate.ensures.handed honest other_untouched in
    let then = c.hand_image.ensures.handed first.run.honest untouched in
    reply_settled g.H.Host.place c.args.reply (image_bytes c.args.reply.image) (certificate_in c.args.reply.told) c.args.out
    c.hand_image.new.out c.args.certificate c.hand_certificate-certificate.result _ _ _ _ _ _ c.number.ensures refl refl apart first then
    (c.settle.ensures.files then.run.honest) (c.settle.ensures.no_file then.run.honest)

pub returns-in-Nothing-clause-files : goal.returns-in-Nothing-clause-files
returns-in-Nothing-clause-files g c = λ honest untouched other_untouched apart.
    let place = g.H.Host.place in
    reply_kept c.args.reply (destination c.args.out) (destination c.args.certificate) _ _ _ apart
    (inr (inr (nothing_place c.args.out c.in-Nothing.is)))
    (c.discard_both.ensures honest (held_untouched place c.args.out untouched)
    (held_untouched place c.args.certificate other_untouched))

pub returns-in-Err-clause-files : goal.returns-in-Err-clause-files
returns-in-Err-clause-files g c = λ honest untouched other_untouched apart.
    let place = g.H.Host.place in
    let certificate_now = c.hand_certificate-certificate.result in
    let first = c.hand_certificate-certificate.ensures.handed honest other_untouched in
    let status = status_memory c.written-in-Err.result (g.T.Write.contents c.args.text.now)
    (g.T.Write.contents c.tell-in-Err.new.text) (search rules) in
    reply_stopped place c.args.reply (certificate_in c.args.reply.told) c.args.out c.args.certificate certificate_now _ _ _ _
    apart status first
    (c.discard_both-in-Err.ensures first.run.honest (held_untouched place c.args.out untouched)
    (held_put place certificate_now _ _ first.put))
