use Rattle.std.proofs.Common.{ℕ, ◌≤◌}
use Rattle.std.specs.Prelude.{IsTrue}
use Rattle.a2_device.specs.Device.{DeviceState}
use Rattle.file_cmds.specs.EachFile.{AreFilesOf}
use Rattle.file_cmds.specs.ReadingOn.{FailedInFile, ReadsOn}
use Rattle.vol_format.specs.Directory.{entries}
use Rattle.volume_compare.specs.Contents.{volume_in}
use Rattle.volume_compare.specs.TooLarge.{IsCountedTo}
use Rattle.volume_compare.proofs.counting.too_large.Given as goal

abbrev pub invariant-loop-file : goal.invariant-loop-file
invariant-loop-file g l = record {
  reads : ReadsOn (g.D.Device.state l.fn.first) (g.D.Device.state l.first);
  kept : AreFilesOf (g.F.Format.meaning l.volumes.format.now) (g.F.Format.directory l.volumes.format.now l.volumes.first)
      (g.D.Device.state l.first) l.files;
  within : l.file ≤ entries (g.F.Format.directory l.volumes.format.now l.volumes.first);
  counted : (start : DeviceState) (most : ℕ) → IsTrue start.honest → ReadsOn start (g.D.Device.state l.fn.first)
      → IsCountedTo (volume_in l.volumes.form (g.F.FileFormat.files l.volumes.format.now) (g.F.Format.meaning l.volumes.format.now)
      (g.F.Format.directory l.volumes.format.now l.volumes.first) start.store)
      (FailedInFile (g.F.Format.meaning l.volumes.format.now) (g.F.Format.directory l.volumes.format.now l.volumes.first) start
      (g.D.Device.state l.fn.first)) most l.fn.from l.fn.left
      → IsCountedTo (volume_in l.volumes.form (g.F.FileFormat.files l.volumes.format.now) (g.F.Format.meaning l.volumes.format.now)
      (g.F.Format.directory l.volumes.format.now l.volumes.first) start.store)
      (FailedInFile (g.F.Format.meaning l.volumes.format.now) (g.F.Format.directory l.volumes.format.now l.volumes.first) start
      (g.D.Device.state l.first)) most l.file l.rest;
}
