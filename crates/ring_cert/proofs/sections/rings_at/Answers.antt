use Rattle.ring_cert.specs.Certificates.{IsRingTold, ring_line}
use Rattle.std.proofs.Common.{◌≡◌, ◌++◌, codes}
use Rattle.ring_cert.proofs.Runs.{HasRun-more, line_longer}
use Rattle.ring_cert.proofs.sections.rings_at.Goals as goal

pub loop-rings-smaller : goal.loop-rings-smaller
loop-rings-smaller g c =
    let found : c.loop-rings.rest.now ≡ ring_line c.in-Some.ring ++ c.in-Some.next.now = rw c.in-Some.is at c.in_ok-ring.ensures.found in
    line_longer (codes "RING") c.in-Some.ring c.loop-rings.rest.now c.in-Some.next.now found

pub loop-rings-preserved : goal.loop-rings-preserved
loop-rings-preserved g c =
    let found : c.loop-rings.rest.now ≡ ring_line c.in-Some.ring ++ c.in-Some.next.now = rw c.in-Some.is at c.in_ok-ring.ensures.found in
    let told : IsRingTold c.in-Some.ring = rw c.in-Some.is at c.in_ok-ring.ensures.told in
    rw c.in_ok-push.ensures.items
    (HasRun-more IsRingTold ring_line c.args.bytes.now c.loop-rings.rings.items c.loop-rings.rest.now c.in-Some.ring c.in-Some.next.now
    c.loop-rings.invariant found told)
