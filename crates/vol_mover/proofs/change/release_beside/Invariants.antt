use Rattle.vol_mover.proofs.Beside.{IsReleasingBeside}
use Rattle.vol_mover.proofs.change.release_beside.Given as goal

abbrev pub invariant-loop-other : goal.invariant-loop-other
invariant-loop-other g l =
    IsReleasingBeside (g.F.Format.directory l.format l.volume) l.place l.lost l.initial.draft l.other-index l.draft
