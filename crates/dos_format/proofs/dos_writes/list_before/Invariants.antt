-- no list from here on
use Rattle.std.proofs.Common.{◌≢◌, ◌<◌, ◌≤◌, ℕ}
use Rattle.a2_device.specs.declared.part.PartKind.TheVariants.{List as AList}
use Rattle.dos_format.specs.DosHolders.{part_of}
use Rattle.dos_format.proofs.dos_writes.list_before.Given as goal

abbrev pub invariant-loop-list : goal.invariant-loop-list
invariant-loop-list l = (later : ℕ) → l.list ≤ later → later < l.k → (part_of l.parts later).kind ≢ AList
