use Rattle.std.proofs.Common.{sym, ◌∙◌, subst, ◌≡◌}
use Rattle.std.specs.Prelude.{OnOk}
use Rattle.vol_mover.proofs.Releases.{releasing-then, releasing-else, whole-some}
use Rattle.vol_mover.proofs.change.release.Goals.{then-ne+in_ok-turn_to+in_ok-mark, else-ne}
use Rattle.vol_mover.proofs.change.release.Goals as goal

pub loop-place-preserved : goal.loop-place-preserved
loop-place-preserved g c =
    let now = c.loop-place in
    let directory = g.F.Format.directory c.args.format.now c.args.volume.now in
    let places = c.args.places.now in
    elim c.if-ne.branch [
      | then-ne+in_ok-turn_to+in_ok-mark w ↦
          rw (w.unit-is, w.draft-is, w.in_ok-mark.ensures, w.in_ok-turn_to.ensures)
          (releasing-then directory c.args.skipped places c.args.draft.now.tasks now.place-index now.unit now.draft now.invariant c.loop-place-test.true
          c.map_unit-at.result c.map_unit-at.ensures (sym c.ne.ensures ∙ w.if-ne.true))
      | else-ne w ↦
          rw (w.unit-is, w.draft-is)
          (releasing-else directory c.args.skipped places c.args.draft.now.tasks now.place-index now.unit now.draft now.invariant c.loop-place-test.true
          c.map_unit-at.result c.map_unit-at.ensures (sym c.ne.ensures ∙ w.if-ne.false))
    ]

pub returns-in-Some : goal.returns-in-Some
returns-in-Some g c =
    let directory = g.F.Format.directory c.args.format.now c.args.volume.now in
    let whole =
    whole-some directory c.args.skipped c.args.places.now c.args.draft.now c.loop-place.place-index c.in-Some.unit c.loop-place.draft c.requires.marks
    (rw c.in-Some.is at c.loop-place.invariant) c.loop-place-test.false in
    subst (λ draft. OnOk c.map.result (c.map.new.self ≡ draft)) whole c.map.ensures
