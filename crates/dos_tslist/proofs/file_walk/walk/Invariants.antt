use Rattle.std.proofs.Common.{◌≡◌, ◌+◌, ◌≤◌, ◌<◌, false, length, count_by, IfSome, option_to_list}
use Rattle.std.specs.Prelude.{IsTrue, not}
use Rattle.a2_device.specs.Device.{OnlyReads}
use Rattle.dos_tslist.specs.Reach.{entry_pointer}
use Rattle.dos_tslist.specs.Walk.{IsAtList}
use Rattle.a2_device.specs.Table.{IsTable}
use Rattle.dos_tslist.proofs.file_walk.walk.Given as goal

abbrev pub invariant-loop-list : goal.invariant-loop-list
invariant-loop-list g l =
    let start = g.D.Device.state l.fn.device in
    record {
      device : OnlyReads false start (g.D.Device.state l.device);
      file : l.found.file ≡ l.fn.file;
      size : length l.found.met ≡ 560;
      table : IsTable l.found.met l.found.parts.items;
      room : l.number + (count_by not l.found.met + length (option_to_list l.list)) ≤ 560;
      within : IfSome l.list (λ place. place < 560);
      at : IsTrue start.honest → IsAtList start.store l.fn.file (entry_pointer l.fn.entry) l.list l.number l.found.parts.items;
    }

abbrev pub decreases-loop-list : goal.decreases-loop-list
decreases-loop-list g l = count_by not l.found.met + length (option_to_list l.list)
