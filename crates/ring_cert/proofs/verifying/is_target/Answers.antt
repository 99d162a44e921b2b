use Rattle.std.proofs.Common.{◌<◌, length, false, arith, refl}
use Rattle.std.proofs.lemmas.Bool.{both_ways}
use Rattle.vol_layout.proofs.RingLemmas.{target_at}
use Rattle.ring_cert.proofs.Walks.{IsTarget-from}
use Rattle.ring_cert.proofs.verifying.is_target.Goals as goal

pub returns-then-at-part : goal.returns-then-at-part
returns-then-at-part c =
    let within : c.loop-part.part < length c.args.at.now = c.loop-part-test.true in
    (λ e. absurd (both_ways false refl e), λ target. absurd (c.if-at-part.true (target_at c.args.at.now c.loop-part.part target within)))

pub returns : goal.returns
returns c =
    (λ _. IsTarget-from c.args.at.now (λ k h. c.loop-part.invariant k (omega arith)), λ _. refl)
