use Rattle.std.proofs.Common.{◌≡◌, length, arith, refl, subst}
use Rattle.ring_cert.proofs.Walks.{FollowsTo, IsRing-from}
use Rattle.ring_cert.proofs.verifying.is_ring.Goals as goal

pub returns : goal.returns
returns c =
    let all : c.loop-i.i ≡ length c.args.ring.now = omega arith in (
      λ _. IsRing-from c.args.at.now c.args.ring.now c.if-ring-lt-SHORTEST_RING.false c.requires
          (subst (FollowsTo c.args.at.now c.args.ring.now) all c.loop-i.invariant),
      λ _. refl,
    )
