use Rattle.std.proofs.Common.{◌≤◌, ◌+◌, false, length}
use Rattle.std.specs.Prelude.{All, IsTrue}
use Rattle.a2_device.specs.Device.{OnlyReads}
use Rattle.pro_dir.specs.Walk.{IsTable, IsListing, all_waiting, work}
use Rattle.pro_dir.specs.Within.{IsInSlot, IsKeptWithin, IsWaitingWithin}
use Rattle.pro_dir.proofs.tree.Tree.list_all.Given as goal

abbrev pub invariant-loop-slots : goal.invariant-loop-slots
invariant-loop-slots g l =
    let start = g.D.Device.state l.fn.device in
    let first = l.fn.self in
    record {
      device : OnlyReads false start (g.D.Device.state l.device);
      table : IsTable start.places l.self.met.items l.self.blocks.items;
      waiting : All (IsWaitingWithin start.places) l.self.pending.items;
      within : All (IsInSlot start.places) first.entries.items → All (IsInSlot start.places) l.self.entries.items;
      kept : All (IsKeptWithin start.places) first.free.items → All (IsKeptWithin start.places) l.self.free.items;
      few : length l.self.entries.items + work l.self.met.items l.self.pending.items ≤ length first.entries.items + work first.met.items first.pending.items;
      listed : IsTrue start.honest → IsListing start.store first.blocks.items first.entries.items (all_waiting start.store first.pending.items) first.free.items
          → IsListing start.store l.self.blocks.items l.self.entries.items (all_waiting start.store l.self.pending.items) l.self.free.items;
    }

abbrev pub decreases-loop-slots : goal.decreases-loop-slots
decreases-loop-slots g l = work l.self.met.items l.self.pending.items
