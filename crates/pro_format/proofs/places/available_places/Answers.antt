use Rattle.std.proofs.Common.{◌∙◌, ap}
use Rattle.std.proofs.lemmas.List.{get_or_default}
use Rattle.pro_format.proofs.Tables.{none_yet, taken, passed}
use Rattle.pro_format.proofs.places.available_places.Goals as goal
use Rattle.pro_format.proofs.places.available_places.Goals.{then-not-system-place+in_ok-push, else-not-system-place}

pub loop-place-init : goal.loop-place-init
loop-place-init g c = c.new-available.ensures.items ∙ none_yet c.args.system.now

pub loop-place-preserved : goal.loop-place-preserved
loop-place-preserved g c =
    let now = c.loop-place in
    elim c.if-not-system-place.branch [
      | then-not-system-place+in_ok-push w ↦
          ap (λ (v : _). v.items) w.available-is ∙ w.in_ok-push.ensures.items
          ∙ taken c.args.system.now now.available.items now.place now.invariant
          (get_or_default c.args.system.now now.place _ _ c.loop-place-test.true ∙ w.if-not-system-place.true)
      | else-not-system-place w ↦
          ap (λ (v : _). v.items) w.available-is
          ∙ passed c.args.system.now now.available.items now.place now.invariant
          (get_or_default c.args.system.now now.place _ _ c.loop-place-test.true ∙ w.if-not-system-place.false)
    ]
