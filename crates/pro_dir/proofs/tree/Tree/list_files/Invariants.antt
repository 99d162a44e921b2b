use Rattle.std.proofs.Common.{◌≡◌, ◌≤◌, ◌+◌, ◌++◌, ℕ, List, length}
use Rattle.std.specs.Prelude.{All}
use Rattle.pro_dir.specs.declared.entry.Entry.{Entry}
use Rattle.pro_dir.specs.Walk.{IsListing, entries_from}
use Rattle.pro_dir.specs.Within.{IsInSlot, IsWaitingWithin}
use Rattle.pro_dir.proofs.tree.Tree.list_files.Given as goal

abbrev pub invariant-loop-slot : goal.invariant-loop-slot
invariant-loop-slot g l =
    let first = l.fn.self in
    record {
      few : length l.self.entries.items + l.slots.slot ≤ length first.entries.items + l.slot;
      within : (places : ℕ) → IsWaitingWithin places l.slots → All (IsInSlot places) first.entries.items → All (IsInSlot places) l.self.entries.items;
      listed : (store : List (List ℕ)) (others : List Entry)
          → IsListing store first.blocks.items first.entries.items (entries_from l.slots.directory l.slots.place l.unit l.slots.slot ++ others) first.free.items
          → IsListing store first.blocks.items l.self.entries.items (entries_from l.slots.directory l.slots.place l.unit l.slot ++ others) first.free.items;
      blocks : l.self.blocks ≡ first.blocks;
      met : l.self.met ≡ first.met;
      pending : l.self.pending ≡ first.pending;
      free : l.self.free ≡ first.free;
    }
