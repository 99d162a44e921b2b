use Rattle.std.proofs.Common.{◌≡◌, ◌+◌, ◌*◌, length, false}
use Rattle.std.specs.Prelude.{IsTrue}
use Rattle.a2_device.specs.Device.{OnlyReads, unit_at}
use Rattle.pro_tree.specs.Walk.{IsTaking}
use Rattle.a2_device.specs.Table.{IsTable}
use Rattle.pro_tree.proofs.file_walk.FileWalk.take_tree.Given as goal

abbrev pub invariant-loop-number : goal.invariant-loop-number
invariant-loop-number g l =
    let start = g.D.Device.state l.fn.device in
    record {
      device : OnlyReads false start (g.D.Device.state l.device);
      places : l.self.places ≡ l.fn.self.places;
      size : length l.self.met.items ≡ length l.fn.self.met.items;
      table : IsTable l.fn.self.met.items l.fn.self.parts.items → IsTable l.self.met.items l.self.parts.items;
      read : IsTrue start.honest → unit_at start.store l.master.place ≡ l.unit;
      taking : IsTrue start.honest → IsTaking start.store l.master l.fn.self.parts.items l.self.parts.items l.number (1 + 257 * l.number);
    }
