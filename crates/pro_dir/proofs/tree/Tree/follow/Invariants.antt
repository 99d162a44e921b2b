use Rattle.std.proofs.Common.{◌≡◌, ℕ, List, false, count_by}
use Rattle.std.specs.Prelude.{IsTrue, not}
use Rattle.a2_device.specs.Device.{OnlyReads}
use Rattle.pro_dir.specs.Tree.{next_of}
use Rattle.pro_dir.specs.Walk.{HasMetMore, IsTable, IsFollowing}
use Rattle.pro_dir.specs.Within.{IsReadWithin}
use Rattle.pro_dir.proofs.tree.Tree.follow.Given as goal

abbrev pub invariant-loop-next : goal.invariant-loop-next
invariant-loop-next g l =
    let start = g.D.Device.state l.fn.device in
    let first = l.fn.reading in
    record {
      device : OnlyReads false start (g.D.Device.state l.device);
      next : l.next ≡ next_of l.unit;
      table : IsTable start.places l.self.met.items l.self.blocks.items;
      more : HasMetMore l.fn.self.met.items l.self.met.items l.fn.self.blocks.items l.self.blocks.items;
      within : IsReadWithin start.places first.key first.free → IsReadWithin start.places first.key l.reading.free;
      key : l.reading.key ≡ first.key;
      following : IsTrue start.honest → (before : List ℕ) → IsFollowing start.store first.key before l.fn.self.blocks.items first.free first.key l.fn.unit
          → IsFollowing start.store first.key before l.self.blocks.items l.reading.free l.holder l.unit;
      entries : l.self.entries ≡ l.fn.self.entries;
      pending : l.self.pending ≡ l.fn.self.pending;
      free : l.self.free ≡ l.fn.self.free;
    }

abbrev pub decreases-loop-next : goal.decreases-loop-next
decreases-loop-next g l = count_by not l.self.met.items
