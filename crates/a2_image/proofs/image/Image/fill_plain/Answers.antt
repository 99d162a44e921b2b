use Rattle.std.proofs.Common.{arith, subst, ◌≡◌}
use Rattle.a2_image.proofs.ConvertLemmas.{CopiedBelow, CopiedBelow-more, sectors_by-copied}
use Rattle.a2_image.proofs.image.Image.fill_plain.Goals as goal

pub loop-number-preserved : goal.loop-number-preserved
loop-number-preserved g c = CopiedBelow-more c.args.order c.loop-number.bytes c.write_plain.new.bytes c.args.self.now.sectors c.loop-number.number c.read.new.content
    (omega arith) c.write_plain.auto.bytes c.write_plain.ensures c.in_ok-read.ensures.value c.loop-number.invariant

pub returns-clause-sectors : goal.returns-clause-sectors
returns-clause-sectors g c =
    let all : c.loop-number.number ≡ 560 = omega arith in
    sectors_by-copied c.args.order c.loop-number.bytes c.args.self.now.sectors c.requires.sectors.count
    (subst (CopiedBelow c.args.order c.loop-number.bytes c.args.self.now.sectors) all c.loop-number.invariant)
