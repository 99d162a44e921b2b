use Rattle.std.proofs.Common.{◌++◌, ◌∷◌, [], get_or, arith}
use Rattle.std.proofs.lemmas.List.{length_push}
use Rattle.vol_layout.proofs.RingPaths.{IsPath, IsPath-none, IsPath-more, length_path}
use Rattle.move_plan.proofs.ring.ring_from.Given.{Over}
use Rattle.move_plan.proofs.ring.ring_from.Goals as goal

pub loop-next-init : goal.loop-next-init
loop-next-init g c =
    let at = c.args.at.now in
    let first = c.args.first in
    rw (c.in_ok-push.ensures.items, c.in_ok-parts.ensures.items)
    (IsPath-none at first c.requires.part (c.requires.within first 0 c.requires.part))

-- the path with the next part
more :
    (g : Over) (c : goal.After-shared_slice_known-in-loop-next-1 g)
    → IsPath c.args.at.now c.args.first (c.loop-next.parts.items ++ c.loop-next.next ∷ []) (get_or c.args.at.now c.loop-next.next 0)
more g c =
    let path = c.loop-next.invariant in
    IsPath-more c.args.at.now c.args.first c.loop-next.parts.items c.loop-next.next path
    c.requires.distinct c.loop-next-test.true (c.requires.within c.loop-next.next 0 path.room)

pub loop-next-smaller : goal.loop-next-smaller
loop-next-smaller g c =
    let few = length_path c.args.at.now c.args.first (c.loop-next.parts.items ++ c.loop-next.next ∷ []) _ (more g c) in
    rw c.in_ok-push-2.ensures.items (omega (arith, length_push c.loop-next.parts.items c.loop-next.next))

pub loop-next-preserved : goal.loop-next-preserved
loop-next-preserved g c = rw c.in_ok-push-2.ensures.items (more g c)
