use Rattle.std.proofs.Common.{◌++◌}
use Rattle.vol_mover.specs.Writes.{writes_after}
use Rattle.vol_mover.proofs.Moving.{IsMaking}
use Rattle.vol_mover.proofs.making.make_later.Given as goal

abbrev pub invariant-loop-step : goal.invariant-loop-step
invariant-loop-step g l =
    let directory = g.F.Format.directory l.format l.volume in
    IsMaking directory l.moves (l.initial.draft.tasks ++ writes_after directory l.initial.left l.initial.at l.moves) l.step-index l.left l.at l.draft
