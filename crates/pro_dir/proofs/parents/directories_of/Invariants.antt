use Rattle.std.proofs.Common.{◌≡◌, ◌<◌, ℕ, None, length, true, slice_index_or}
use Rattle.pro_dir.specs.Entry.{is_directory, key_of}
use Rattle.pro_dir.specs.Parents.{entry_in, last_directory}
use Rattle.pro_dir.proofs.parents.directories_of.Given as goal

abbrev pub invariant-loop-number : goal.invariant-loop-number
invariant-loop-number g l = record {
  known : (key : ℕ) → slice_index_or l.known.items key None ≡ last_directory l.entries l.number key;
  room : (k : ℕ) → k < length l.entries → is_directory (entry_in l.entries k) ≡ true → key_of (entry_in l.entries k) < length l.known.items;
}
