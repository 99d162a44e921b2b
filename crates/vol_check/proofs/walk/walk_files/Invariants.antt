use Rattle.std.proofs.Common.{◌≡◌, ◌<◌, ℕ, [], length, false}
use Rattle.std.specs.Prelude.{IsTrue}
use Rattle.std.specs.List.{All, AllZip}
use Rattle.a2_device.specs.Device.{OnlyReads}
use Rattle.vol_check.specs.FaultFiles.{FileFaultAt}
use Rattle.vol_check.specs.Walk.{lists, IsSound}
use Rattle.vol_check.specs.Walking.{IsWalking, None}
use Rattle.vol_check.proofs.walk.walk_files.Given as goal

abbrev pub invariant-loop-file : goal.invariant-loop-file
invariant-loop-file g l =
    let format = g.F.Format.meaning l.format in
    let directory = g.F.Format.directory l.format l.volume in
    let start = g.D.Device.state l.fn.device in
    record {
      device : OnlyReads false start (g.D.Device.state l.device);
      unit_size : length l.unit.items ≡ format.unit_size;
      pending : l.walk.pending.items ≡ [];
      sound : IsSound format directory (lists l.walk);
      walking : IsTrue start.honest → IsWalking format directory start.store l.file None (lists l.walk);
      entries : All (λ (file : ℕ). file < l.file) l.files.items;
      files : IsTrue start.honest → AllZip (FileFaultAt format directory start.store) l.files.items l.walk.faults.items;
    }
