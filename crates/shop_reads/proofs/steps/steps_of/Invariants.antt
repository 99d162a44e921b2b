use Rattle.vol_format.specs.Directory.{entries}
use Rattle.shop_reads.proofs.StepLemmas.{StepsTo}
use Rattle.shop_reads.proofs.steps.steps_of.Given as goal

abbrev pub invariant-loop-next : goal.invariant-loop-next
invariant-loop-next g l =
    StepsTo l.opening.parts.items (g.F.Format.directory l.format l.opening.volume).available l.opening.layout.at
    (entries (g.F.Format.directory l.format l.opening.volume)) l.opening.plan.moves.items l.next-index l.layout.items l.steps.items
