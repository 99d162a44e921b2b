use Rattle.std.proofs.Common.{◌≡◌, ◌++◌}
use Rattle.std.specs.Prelude.{filter, map}
use Rattle.std.specs.List.{range_with_len}
use Rattle.dos_catalog.specs.Entry.{is_in_use, entry_at}
use Rattle.dos_catalog.proofs.catalog.take_entries.Given as goal

abbrev pub invariant-loop-slot : goal.invariant-loop-slot
invariant-loop-slot g l = l.entries.items ≡ l.fn.entries.items ++ filter is_in_use (map (entry_at l.place l.unit) (range_with_len 0 l.slot))
