use Rattle.std.proofs.Common.{◌≡◌, false, length, count_by}
use Rattle.std.specs.Prelude.{IfSome, IsTrue, not, slice_get}
use Rattle.a2_device.specs.Device.{OnlyReads, unit_at}
use Rattle.dos_catalog.specs.Entry.{free_slots_in}
use Rattle.dos_catalog.specs.Found.{IsSlotOnTrack}
use Rattle.dos_catalog.specs.Walk.{IsTable, IsWalking}
use Rattle.dos_catalog.proofs.OnTrack.{AreSoFar}
use Rattle.dos_catalog.proofs.catalog.Catalog.walk.Given as goal

abbrev pub invariant-loop-unit : goal.invariant-loop-unit
invariant-loop-unit g l =
    let start = g.D.Device.state l.fn.device in
    record {
      device : OnlyReads false start (g.D.Device.state l.device);
      size : length l.met ≡ 16;
      found : AreSoFar l.met l.catalog.entries.items;
      free_found : IfSome l.catalog.free IsSlotOnTrack;
      table : IsTable l.met l.catalog.sectors.items;
      walking : IsTrue start.honest → l.fn.vtoc ≡ unit_at start.store 272
          → IsWalking start.store l.catalog.sectors.items l.catalog.entries.items l.holder l.unit;
      free : IsTrue start.honest → l.fn.vtoc ≡ unit_at start.store 272
          → l.catalog.free ≡ slice_get (free_slots_in start.store l.catalog.sectors.items) 0;
    }

abbrev pub decreases-loop-unit : goal.decreases-loop-unit
decreases-loop-unit g l = count_by not l.met
