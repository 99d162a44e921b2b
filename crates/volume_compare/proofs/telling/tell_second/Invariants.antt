use Rattle.std.proofs.Common.{◌≡◌, ℕ, ◌+◌, ◌^◌, List, Option}
use Rattle.std.specs.Prelude.{IsTrue}
use Rattle.a2_device.specs.Device.{DeviceState}
use Rattle.file_cmds.specs.EachFile.{AreFilesOf}
use Rattle.file_cmds.specs.ReadingOn.{ReadsOn}
use Rattle.volume_compare.specs.CompareText.{AreAtMost}
use Rattle.volume_compare.specs.Findings.{AreToldAloneUpTo, Told, compared_in}
use Rattle.volume_compare.specs.Progress.{IsProgress, IsToldBehind}
use Rattle.volume_compare.proofs.telling.tell_second.Given as goal

abbrev pub invariant-loop-other : goal.invariant-loop-other
invariant-loop-other g l = record {
  reads : ReadsOn (g.E.Device.state l.fn.second) (g.E.Device.state l.second);
  kept : AreFilesOf (g.F.Format.meaning l.volumes.format.now) (g.F.Format.directory l.volumes.format.now l.volumes.second)
      (g.E.Device.state l.second) l.files;
  all : l.progress.all ≡ l.fn.progress.all;
  few : AreAtMost l.progress.report.totals (2 ^ 32 + l.other);
  told : (first first_now start : DeviceState) (most : ℕ) (told : List (Option Told)) → ReadsOn start (g.E.Device.state l.fn.second)
      → IsProgress l.volumes.form most told l.fn.progress
      → IsToldBehind (IsTrue start.honest) (AreToldAloneUpTo (compared_in l.volumes.form (g.F.FileFormat.files l.volumes.format.now)
      (g.F.Format.meaning l.volumes.format.now) (g.F.Format.directory l.volumes.format.now l.volumes.first) (g.F.Format.directory l.volumes.format.now l.volumes.second)
      first first_now start (g.E.Device.state l.second)) l.other) l.volumes.form most told l.other l.progress;
}
