use Rattle.std.proofs.Common.{◌≡◌, ◌<◌, length, get_or, ◌∙◌}
use Rattle.std.proofs.lemmas.List.{get_or_default, length-set}
use Rattle.vol_layout.proofs.PlanLemmas.{IsLayout-moved}
use Rattle.ring_cert.proofs.Boards.{TellsTaken-moved}
use Rattle.ring_cert.proofs.board.Board.put.Goals as goal

pub invariant_of-self : goal.invariant_of-self
invariant_of-self g c =
    let inside = c.self.inside in
    let kept = c.self.invariant in
    let step = c.args.step in
    let legal = rw (← c.self.view_is) at c.requires in
    let left = c.index-left.result.now in
    let left_is : left ≡ get_or inside.at.items step.part 0 =
    c.index-left.ensures ∙ get_or_default inside.at.items step.part left 0 legal.part in
    let within : left < length inside.taken.items = rw left_is (kept.layout.below step.part 0 legal.part) in
    record {
      layout = rw (length-set, length-set) (IsLayout-moved inside.at.items (length inside.taken.items) step kept.layout legal);
      taken = TellsTaken-moved inside.at.items inside.taken.items step.part step.to left kept.layout.distinct legal.part left_is within legal.place kept.taken;
    }
