use Rattle.vol_mover.proofs.Releases.{IsReleasing}
use Rattle.vol_mover.proofs.change.release.Given as goal

abbrev pub invariant-loop-place : goal.invariant-loop-place
invariant-loop-place g l =
    IsReleasing (g.F.Format.directory l.format l.volume) l.skipped l.places l.initial.draft.tasks l.place-index l.unit l.draft
