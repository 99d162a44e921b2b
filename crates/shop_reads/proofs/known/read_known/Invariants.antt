use Rattle.std.proofs.Common.{◌≡◌, ◌≤◌, ◌+◌, length}
use Rattle.std.specs.Prelude.{IsTrue}
use Rattle.file_cmds.specs.EachFile.{AreFilesOf}
use Rattle.file_cmds.specs.ReadingOn.{FailedInFile, ReadsOn}
use Rattle.file_listings.specs.Known.{HasRuns, facts_in}
use Rattle.vol_format.specs.Directory.{entries}
use Rattle.volume_compare.specs.Contents.{volume_in}
use Rattle.shop_reads.specs.EntriesReply.{AreFactsUpTo, IsCompleteUpTo, bytes_read, wants_places}
use Rattle.shop_reads.proofs.known.read_known.Given as goal

abbrev pub invariant-loop-file : goal.invariant-loop-file
invariant-loop-file g l = record {
  reads : ReadsOn (g.D.Device.state l.fn.device) (g.D.Device.state l.device);
  opened : AreFilesOf (g.F.Format.meaning l.format) (g.F.Format.directory l.format l.volume) (g.D.Device.state l.device) l.files;
  facts : IsTrue (g.D.Device.state l.fn.device).honest
      → AreFactsUpTo (volume_in (g.F.ShownFormat.form l.format) (g.F.FileFormat.files l.format) (g.F.Format.meaning l.format)
      (g.F.Format.directory l.format l.volume) (g.D.Device.state l.fn.device).store) l.options
      (FailedInFile (g.F.Format.meaning l.format) (g.F.Format.directory l.format l.volume) (g.D.Device.state l.fn.device)
      (g.D.Device.state l.device)) l.file (facts_in l.known.files);
  within : l.file ≤ entries (g.F.Format.directory l.format l.volume);
  places : l.known.files.places ≡ wants_places l.options;
  runs : HasRuns l.known.files;
  many : length (facts_in l.known.files) ≡ l.file;
  left : l.left + bytes_read (g.F.Format.meaning l.format).unit_size (facts_in l.known.files) ≡ l.options.most;
  complete : IsCompleteUpTo (g.F.Format.directory l.format l.volume) (facts_in l.known.files) l.file l.known.complete;
}
