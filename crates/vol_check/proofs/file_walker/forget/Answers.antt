use Rattle.std.proofs.Common.{◌≡◌, ◌∙◌, ap, sym, length, false}
use Rattle.std.proofs.lemmas.List.{with_items_is}
use Rattle.a2_device.specs.declared.part.Part.{Part}
use Rattle.vol_check.specs.Known.{none_known, place_of}
use Rattle.vol_check.specs.Walk.{lists}
use Rattle.vol_check.proofs.Clearing.{lent_cleared, walk_cleared}
use Rattle.vol_check.proofs.file_walker.forget.Goals as goal

pub returns : goal.returns
returns g c = λ places marks.
    let walk = c.args.walk.now in
    let visited = c.as_mut_slice.ensures.value in
    let known = c.as_mut_slice-2.ensures.value in
    let visited_size : length c.forget_parts.new.visited ≡ length walk.visited.items = c.forget_parts.auto.visited ∙ ap length visited in
    let known_size : length c.forget_faults.new.known ≡ length walk.known.items = c.forget_faults.auto.known ∙ ap length known in
    walk_cleared places (lists walk) _ marks
    (λ met. with_items_is walk.visited c.forget_parts.new.visited (visited_size ∙ sym walk.visited.ok.0)
    ∙ lent_cleared false (λ (part : Part). part.place) walk.parts.items walk.visited.items c.as_mut_slice.result.now c.forget_parts.new.visited
    c.as_slice.result.now visited c.as_slice.ensures.value c.forget_parts.ensures met)
    (λ noted. with_items_is walk.known c.forget_faults.new.known (known_size ∙ sym walk.known.ok.0)
    ∙ lent_cleared none_known place_of walk.faults.items walk.known.items c.as_mut_slice-2.result.now c.forget_faults.new.known
    c.as_slice-2.result.now known c.as_slice-2.ensures.value c.forget_faults.ensures noted)
    c.clear.ensures.items c.clear-2.ensures.items c.clear-3.ensures.items
