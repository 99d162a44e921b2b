use Rattle.std.proofs.Common.{◌∙◌, ap, sym, Vec}
use Rattle.edit_formats.specs.declared.new_part.NewPart.{NewPart}
use Rattle.edit_formats.proofs.Ranges.{body_passed, body_taken, none_taken}
use Rattle.edit_formats.proofs.taking.take_bodies.Goals as goal
use Rattle.edit_formats.proofs.taking.take_bodies.Goals.{then-is_stored+in_ok-take, else-is_stored}

pub loop-number-init : goal.loop-number-init
loop-number-init g c = none_taken c.args.stored.now c.args.parts.now.items c.args.first

pub loop-number-preserved : goal.loop-number-preserved
loop-number-preserved g c =
    elim c.if-is_stored.branch [
      | then-is_stored+in_ok-take w ↦
          ap (λ (v : Vec NewPart _). v.items) w.parts-is ∙ w.in_ok-take.ensures
          ∙ body_taken c.args.stored.now c.args.parts.now.items c.loop-number.parts.items c.args.first c.loop-number.number c.loop-number.auto.number c.loop-number.invariant (sym c.is_stored.ensures ∙ w.if-is_stored.true)
      | else-is_stored w ↦
          ap (λ (v : Vec NewPart _). v.items) w.parts-is
          ∙ body_passed c.args.stored.now c.args.parts.now.items c.loop-number.parts.items c.args.first c.loop-number.number c.loop-number.auto.number c.loop-number.invariant (sym c.is_stored.ensures ∙ w.if-is_stored.false)
    ]
