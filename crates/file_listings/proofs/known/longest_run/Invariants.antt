use Rattle.std.proofs.Common.{◌≡◌, ◌≤◌, ◌<◌, ◌-◌, ℕ}
use Rattle.std.specs.Prelude.{slice_index_or}
use Rattle.file_listings.specs.Known.{end_at}
use Rattle.file_listings.proofs.known.longest_run.Given as goal

abbrev pub invariant-loop-end : goal.invariant-loop-end
invariant-loop-end l = record {
  start : l.start ≡ end_at l.ends l.end-index;
  longest : (file : ℕ) → file < l.end-index → slice_index_or l.ends file 0 - end_at l.ends file ≤ l.longest;
}
