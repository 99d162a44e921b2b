use Rattle.a2_image.proofs.ConvertLemmas.{CopiedBelow}
use Rattle.a2_image.proofs.image.Image.fill_plain.Given as goal

abbrev pub invariant-loop-number : goal.invariant-loop-number
invariant-loop-number g l = CopiedBelow l.order l.bytes l.self.sectors l.number
