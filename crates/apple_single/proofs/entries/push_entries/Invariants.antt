use Rattle.std.proofs.Common.{◌≡◌, ◌++◌, take}
use Rattle.std.specs.Prelude.{flat_map}
use Rattle.apple_single.specs.Format.{entry_bytes}
use Rattle.apple_single.proofs.entries.push_entries.Given as goal

abbrev pub invariant-loop-entry : goal.invariant-loop-entry
invariant-loop-entry g l = l.file.items ≡ l.initial.file.items ++ flat_map entry_bytes (take l.entry-index l.entries)
