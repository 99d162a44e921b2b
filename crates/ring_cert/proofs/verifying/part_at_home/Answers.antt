use Rattle.std.proofs.Common.{arith, rules}
use Rattle.std.proofs.lemmas.List.{take_all}
use Rattle.std.proofs.lemmas.List.Elements.{All-more}
use Rattle.vol_layout.specs.Layouts.{IsMisplaced}
use Rattle.ring_cert.proofs.verifying.part_at_home.Goals as goal

pub loop-part-preserved : goal.loop-part-preserved
loop-part-preserved c =
    All-more (IsMisplaced c.args.at.now) c.args.off.now c.loop-part.part-index 0 c.loop-part-test.true c.loop-part.invariant
    (c.is_misplaced.ensures.0 (search rules))

pub returns : goal.returns
returns c =
    rw (take_all c.loop-part.part-index c.args.off.now (omega arith)) at c.loop-part.invariant
