use Rattle.std.proofs.Common.{◌≡◌}
use Rattle.std.proofs.Math.ListN.{take}
use Rattle.std.specs.Prelude.{filter, not, ◌&&◌, slice_index_or, false}
use Rattle.vol_format.specs.Directory.{is_free}
use Rattle.vol_check.proofs.standing.lost_of.Given as goal

abbrev pub invariant-loop-number : goal.invariant-loop-number
invariant-loop-number g l =
    let directory = g.F.Format.directory l.format l.volume in
    l.lost.items ≡ filter (λ place. not (is_free directory place) && not (slice_index_or l.taken place false)) (take l.number directory.available)
