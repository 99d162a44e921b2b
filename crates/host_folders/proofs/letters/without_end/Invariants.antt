use Rattle.std.proofs.Common.{◌≡◌, ◌+◌, ◌≤◌, take, length}
use Rattle.std.specs.Prelude.{◌==◌}
use Rattle.std.specs.List.{suffix_len}
use Rattle.host_folders.proofs.letters.without_end.Given as goal

-- what was passed over at the end is the byte that is dropped
abbrev pub invariant-loop-count : goal.invariant-loop-count
invariant-loop-count l =
    (l.count ≤ length l.bytes)
    × (suffix_len (λ byte. byte == l.last) l.bytes + l.count
    ≡ length l.bytes + suffix_len (λ byte. byte == l.last) (take l.count l.bytes))

abbrev pub decreases-loop-count : goal.decreases-loop-count
decreases-loop-count l = l.count
