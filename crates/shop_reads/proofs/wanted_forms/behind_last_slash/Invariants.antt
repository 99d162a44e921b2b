use Rattle.std.proofs.Common.{◌≡◌, ◌+◌, ◌≤◌, take, length}
use Rattle.std.specs.Prelude.{◌==◌, not}
use Rattle.std.specs.List.{suffix_len}
use Rattle.shop_reads.proofs.wanted_forms.behind_last_slash.Given as goal

-- what was passed over at the end is no slash
abbrev pub invariant-loop-start : goal.invariant-loop-start
invariant-loop-start l =
    (l.start ≤ length l.path)
    × (suffix_len (λ byte. not (byte == 0x2f)) l.path + l.start
    ≡ length l.path + suffix_len (λ byte. not (byte == 0x2f)) (take l.start l.path))

abbrev pub decreases-loop-start : goal.decreases-loop-start
decreases-loop-start l = l.start
