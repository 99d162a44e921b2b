use Rattle.std.proofs.Common.{◌+◌, false}
use Rattle.std.specs.Prelude.{IsTrue}
use Rattle.a2_device.specs.Device.{OnlyReads}
use Rattle.vol_check.specs.Marks.{KeepsMarks}
use Rattle.vol_check.specs.Walk.{lists, IsSound}
use Rattle.vol_check.specs.Walking.{IsWalking, None}
use Rattle.vol_check.proofs.FileFaults.{IsTelling}
use Rattle.vol_check.proofs.Room.{work}
use Rattle.vol_check.proofs.walk.walk_file.Given as goal

abbrev pub invariant-loop-next : goal.invariant-loop-next
invariant-loop-next g l =
    let format = g.F.Format.meaning l.format in
    let directory = g.F.Format.directory l.format l.volume in
    let start = g.D.Device.state l.fn.device in
    record {
      device : OnlyReads false start (g.D.Device.state l.device);
      sound : IsSound format directory (lists l.walk);
      walking : IsTrue start.honest → IsWalking format directory start.store (l.file + 1) None (lists l.walk);
      telling : IsTrue start.honest → IsTelling format directory start.store l.file (lists l.fn.walk).faults (lists l.walk);
      marks : KeepsMarks (lists l.fn.walk) (lists l.walk);
    }

abbrev pub decreases-loop-next : goal.decreases-loop-next
decreases-loop-next g l = work (lists l.walk)
