use Rattle.std.proofs.Common.{◌≡◌, ◌*◌}
use Rattle.dos_vtoc.specs.Count.{free_below}
use Rattle.dos_vtoc.proofs.count.free_in_map.Given as goal

abbrev pub invariant-loop-group : goal.invariant-loop-group
invariant-loop-group l = l.free ≡ free_below l.fn.vtoc (64 * l.group)

abbrev pub invariant-loop-track : goal.invariant-loop-track
invariant-loop-track l = l.free ≡ free_below l.fn.vtoc (16 * l.track)
