use Rattle.std.proofs.Common.{◌≡◌, ◌+◌, ◌<◌, ℕ, false, take, length}
use Rattle.std.specs.Prelude.{IsTrue}
use Rattle.a2_device.specs.Device.{OnlyReads, unit_at}
use Rattle.pro_bitmap.specs.Bitmap.{units_in}
use Rattle.pro_bitmap.proofs.bitmap.Bitmap.read.Given as goal

abbrev pub invariant-loop-number : goal.invariant-loop-number
invariant-loop-number g l =
    let start = g.D.Device.state l.fn.device in
    record {
      device : OnlyReads false start (g.D.Device.state l.device);
      all : length l.units.items ≡ l.count;
      sizes : (i : ℕ) → i < l.count → length (unit_at l.units.items i) ≡ 512;
      units : IsTrue start.honest → take l.number l.units.items ≡ units_in start.store l.first l.number;
    }
