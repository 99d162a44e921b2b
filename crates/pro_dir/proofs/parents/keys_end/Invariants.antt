use Rattle.std.proofs.Common.{◌≡◌, ◌<◌, ℕ, true}
use Rattle.pro_dir.specs.Entry.{is_directory, key_of}
use Rattle.pro_dir.specs.Parents.{entry_in}
use Rattle.pro_dir.proofs.parents.keys_end.Given as goal

abbrev pub invariant-loop-number : goal.invariant-loop-number
invariant-loop-number l = (k : ℕ) → k < l.number → is_directory (entry_in l.entries k) ≡ true → key_of (entry_in l.entries k) < l.end
