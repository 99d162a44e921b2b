use Rattle.std.proofs.Common.{◌≡◌, ◌∙◌, ap, sym, length}
use Rattle.std.proofs.lemmas.List.{with_items_is}
use Rattle.vol_check.specs.Known.{knowing}
use Rattle.vol_check.proofs.Marks.{fault_noted}
use Rattle.vol_check.proofs.walk.tell.Goals as goal

pub returns-clause-marks : goal.returns-clause-marks
returns-clause-marks g c = λ places marks.
    let walk = c.args.walk.now in
    let from = c.as_mut_slice.ensures.value in
    let same : length c.note_known.new.known ≡ length walk.known.items = c.note_known.auto.known ∙ ap length from in
    fault_noted places walk.parts.items walk.faults.items walk.visited.items walk.known.items marks c.args.fault _ _ c.in_ok-push.ensures.items
    (with_items_is walk.known c.note_known.new.known (same ∙ sym walk.known.ok.0) ∙ c.note_known.ensures ∙ ap (λ known. knowing known c.args.fault) from)
