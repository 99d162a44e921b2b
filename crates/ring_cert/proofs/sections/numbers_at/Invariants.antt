use Rattle.std.proofs.Common.{◌-◌, ◌≤◌, [], ◌∷◌, length, vec_len}
use Rattle.ring_cert.specs.Certificates.{IsSmall, line}
use Rattle.ring_cert.proofs.Runs.{HasRun}
use Rattle.ring_cert.proofs.sections.numbers_at.Given as goal

abbrev pub invariant-loop-rest : goal.invariant-loop-rest
invariant-loop-rest g l = record {
  run : HasRun IsSmall (λ n. line l.name (n ∷ [])) l.bytes l.numbers.items l.rest;
  few : length l.numbers.items ≤ l.most;
}

abbrev pub decreases-loop-rest : goal.decreases-loop-rest
decreases-loop-rest g l = l.most - vec_len l.numbers
