use Rattle.std.proofs.Common.{◌≡◌, ℕ, ◌<◌, length, get_or}
use Rattle.new_volumes.specs.DosUnits.{map_byte}
use Rattle.new_volumes.proofs.dos.free_map.Given as goal

abbrev pub invariant-loop-at : goal.invariant-loop-at
invariant-loop-at l = (length l.map ≡ 140) × ((k : ℕ) → k < l.at → get_or l.map k 0 ≡ map_byte l.data_disk k)
