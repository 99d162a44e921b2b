use Rattle.std.proofs.Common.{◌∙◌, ap, subst, length, refl}
use Rattle.std.proofs.lemmas.Bool.{false≢true}
use Rattle.a2_device.specs.Order.{IsImageLength}
use Rattle.a2_image.proofs.ImageLemmas.{holds_kept, kept_holds, nibble_length}
use Rattle.a2_image.proofs.image.Image.open.Goals as goal

pub returns-then-not-is_nibble-clause-holds : goal.returns-then-not-is_nibble-clause-holds
returns-then-not-is_nibble-clause-holds g c = kept_holds c.args.order c.args.bytes.items c.new-fields.result.items (record {
  long = subst (IsImageLength c.args.order) (c.len.ensures ∙ c.args.bytes.ok.0) (c.if-not-takes.ensures.0 refl);
  keeps = λ e. absurd (false≢true (c.if-not-is_nibble.ensures.1 e));
})

pub fields_of_disk-requires : goal.fields_of_disk-requires
fields_of_disk-requires g c =
    ap length c.as_slice.ensures.value
    ∙ nibble_length c.args.order c.args.bytes.items (c.if-not-is_nibble.ensures.0 refl)
    (subst (IsImageLength c.args.order) (c.len.ensures ∙ c.args.bytes.ok.0) (c.if-not-takes.ensures.0 refl))

pub returns-in-Ok-clause-holds : goal.returns-in-Ok-clause-holds
returns-in-Ok-clause-holds g c = kept_holds c.args.order c.args.bytes.items c.in-Ok.fields.items (record {
  long = subst (IsImageLength c.args.order) (c.len.ensures ∙ c.args.bytes.ok.0) (c.if-not-takes.ensures.0 refl);
  keeps = λ _. rw (← c.as_slice.ensures.value) c.in-Ok.ensures;
})

pub returns-then-not-is_nibble-clause-kept : goal.returns-then-not-is_nibble-clause-kept
returns-then-not-is_nibble-clause-kept g c = holds_kept c.args.order c.args.bytes.items c.new-fields.result.items (record {
  long = subst (IsImageLength c.args.order) (c.len.ensures ∙ c.args.bytes.ok.0) (c.if-not-takes.ensures.0 refl);
  keeps = λ e. absurd (false≢true (c.if-not-is_nibble.ensures.1 e));
})

pub returns-in-Ok-clause-kept : goal.returns-in-Ok-clause-kept
returns-in-Ok-clause-kept g c = holds_kept c.args.order c.args.bytes.items c.in-Ok.fields.items (record {
  long = subst (IsImageLength c.args.order) (c.len.ensures ∙ c.args.bytes.ok.0) (c.if-not-takes.ensures.0 refl);
  keeps = λ _. rw (← c.as_slice.ensures.value) c.in-Ok.ensures;
})
