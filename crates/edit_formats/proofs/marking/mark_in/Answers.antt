use Rattle.std.proofs.Common.{◌≡◌, ◌+◌, ◌∙◌, List, ℕ, ap, drop, sym, subst}
use Rattle.edit_formats.proofs.MarkedPlaces.{all_marked, made, one_marked, one_passed}
use Rattle.edit_formats.proofs.marking.mark_in.Goals as goal
use Rattle.edit_formats.proofs.marking.mark_in.Goals.{then-free, else-free}

pub loop-place-preserved-then-map_unit-at : goal.loop-place-preserved-then-map_unit-at
loop-place-preserved-then-map_unit-at g c =
    let directory = g.F.Format.directory c.args.format.now c.args.volume.now in
    let marks = made (g.F.Format.meaning c.args.format.now) c.args.free directory c.args.at in
    one_passed (g.F.Format.meaning c.args.format.now) c.args.free directory c.args.at c.args.places.now c.loop-place.place-index c.loop-place.unit
    (marks c.args.unit.now c.args.places.now) c.loop-place.invariant c.loop-place-test.true (λ same. c.if-map_unit-at.true (c.map_unit.ensures ∙ same))

pub loop-place-preserved : goal.loop-place-preserved
loop-place-preserved g c =
    let format = g.F.Format.meaning c.args.format.now in
    let free = c.args.free in
    let directory = g.F.Format.directory c.args.format.now c.args.volume.now in
    let places = c.args.places.now in
    let now = c.loop-place in
    let all = made format free directory c.args.at c.args.unit.now places in
    let IsStep : List ℕ → Type 0 = λ unit. made format free directory c.args.at unit (drop (now.place-index + 1) places) ≡ all in
    let one = one_marked format free directory c.args.at places now.place-index now.unit all now.invariant c.loop-place-test.true (sym c.map_unit.ensures ∙ c.if-map_unit-at.false) in
    elim c.if-free.branch [
      | then-free w ↦ subst IsStep (sym (w.unit-is ∙ w.release.ensures ∙ ap (format.with_free now.unit _) (sym w.if-free.true))) one
      | else-free w ↦ subst IsStep (sym (w.unit-is ∙ w.mark.ensures ∙ ap (format.with_free now.unit _) (sym w.if-free.false))) one
    ]

pub returns : goal.returns
returns g c =
    all_marked (g.F.Format.meaning c.args.format.now) c.args.free (g.F.Format.directory c.args.format.now c.args.volume.now) c.args.at c.args.places.now
    c.loop-place.place-index c.loop-place.unit _ c.loop-place.invariant c.loop-place-test.false
