use Rattle.std.proofs.Common.{◌≡◌, ◌+◌, ◌≤◌, ℕ, List, Bor, length, map}
use Rattle.applesoft.specs.Scan.{first_standing}
use Rattle.applesoft.proofs.words.first_standing.Given as goal

abbrev pub invariant-loop-words : goal.invariant-loop-words
invariant-loop-words l = (l.token + length l.words ≤ 107)
    × (first_standing 0 (map (λ (w : Bor (List ℕ)). w.now) l.initial.words) l.codes
    ≡ first_standing l.token (map (λ (w : Bor (List ℕ)). w.now) l.words) l.codes)

abbrev pub decreases-loop-words : goal.decreases-loop-words
decreases-loop-words l = length l.words
