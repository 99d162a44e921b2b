use Rattle.std.proofs.Common.{◌≡◌, ◌≤◌, ◌-◌, length}
use Rattle.file_edits.proofs.Firsts.{free_of}
use Rattle.file_edits.proofs.places.first_places.Given as goal

abbrev pub invariant-loop-place : goal.invariant-loop-place
invariant-loop-place g l =
    (l.places.items ≡ free_of (g.F.Format.directory l.format l.volume) l.number)
    × (l.number ≤ length (g.F.Format.directory l.format l.volume).available)
    × (length l.places.items ≤ l.count)

abbrev pub decreases-loop-place : goal.decreases-loop-place
decreases-loop-place g l = length (g.F.Format.directory l.format l.volume).available - l.number
