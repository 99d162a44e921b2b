use Rattle.std.proofs.Common.{◌≡◌, ◌∙◌, ap, arith}
use Rattle.dos_format.specs.Dos.{first_available}
use Rattle.dos_format.proofs.Readers.{none_yet, taken, passed}
use Rattle.dos_format.proofs.dos.available_places.Goals as goal
use Rattle.dos_format.proofs.dos.available_places.Goals.{then-not-is_system+in_ok-push, else-not-is_system}

pub loop-number-init : goal.loop-number-init
loop-number-init g c = c.new-available.ensures.items ∙ none_yet c.args.data_disk c.args.reserved.now

pub loop-number-preserved : goal.loop-number-preserved
loop-number-preserved g c =
    let now = c.loop-number in
    elim c.if-not-is_system.branch [
      | then-not-is_system+in_ok-push w ↦
          ap (λ (v : _). v.items) w.available-is ∙ w.in_ok-push.ensures.items
          ∙ taken c.args.data_disk c.args.reserved.now now.available.items now.number now.invariant c.is_system.result c.is_system.ensures w.if-not-is_system.true
      | else-not-is_system w ↦
          ap (λ (v : _). v.items) w.available-is
          ∙ passed c.args.data_disk c.args.reserved.now now.available.items now.number now.invariant c.is_system.result c.is_system.ensures w.if-not-is_system.false
    ]

pub returns : goal.returns
returns g c =
    let last : c.loop-number.number ≡ 560 = omega (arith, c.loop-number.auto.number-end, c.loop-number-test.false) in
    c.loop-number.invariant ∙ ap (first_available c.args.data_disk c.args.reserved.now) last
