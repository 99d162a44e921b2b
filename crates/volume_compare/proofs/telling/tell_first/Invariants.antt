use Rattle.std.proofs.Common.{◌≡◌}
use Rattle.std.specs.Prelude.{IsTrue}
use Rattle.file_cmds.specs.ReadingOn.{ReadsOn}
use Rattle.volume_compare.specs.CompareText.{AreAtMost}
use Rattle.volume_compare.specs.Findings.{AreToldUpTo, compared_in}
use Rattle.volume_compare.specs.Opened.{AreReaders}
use Rattle.volume_compare.specs.Progress.{IsToldTo}
use Rattle.volume_compare.proofs.telling.tell_first.Given as goal

abbrev pub invariant-loop-file : goal.invariant-loop-file
invariant-loop-file g l = record {
  reads : ReadsOn (g.D.Device.state l.fn.first) (g.D.Device.state l.first);
  other_reads : ReadsOn (g.E.Device.state l.fn.second) (g.E.Device.state l.second);
  kept : AreReaders (g.F.Format.meaning l.volumes.format.now) (g.F.Format.directory l.volumes.format.now l.volumes.first)
      (g.F.Format.directory l.volumes.format.now l.volumes.second) (g.D.Device.state l.first) (g.E.Device.state l.second) l.readers;
  all : l.progress.all ≡ l.all;
  few : AreAtMost l.progress.report.totals l.file;
  told : IsToldTo (IsTrue (g.D.Device.state l.fn.first).honest × IsTrue (g.E.Device.state l.fn.second).honest)
      (AreToldUpTo (compared_in l.volumes.form (g.F.FileFormat.files l.volumes.format.now) (g.F.Format.meaning l.volumes.format.now)
      (g.F.Format.directory l.volumes.format.now l.volumes.first) (g.F.Format.directory l.volumes.format.now l.volumes.second)
      (g.D.Device.state l.fn.first) (g.D.Device.state l.first) (g.E.Device.state l.fn.second) (g.E.Device.state l.second)) l.file)
      l.volumes.form l.most l.file l.progress;
}
