use Rattle.std.proofs.Common.{◌≡◌, map}
use Rattle.std.specs.List.{range_with_len}
use Rattle.shop_reads.specs.MapSteps.{vacant_state}
use Rattle.shop_reads.proofs.map_states.vacant_states.Given as goal

abbrev pub invariant-loop-place : goal.invariant-loop-place
invariant-loop-place g l =
    l.table.items ≡ map (vacant_state (g.F.Format.directory l.format l.volume)) (range_with_len 0 l.place)
