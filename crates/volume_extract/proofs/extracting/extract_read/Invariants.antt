use Rattle.std.proofs.Common.{◌≡◌, ◌≤◌, List, length}
use Rattle.file_cmds.specs.EachFile.{AreFilesOf}
use Rattle.file_cmds.specs.ReadingOn.{ReadsOn}
use Rattle.vol_format.specs.Directory.{entries}
use Rattle.volume_extract.specs.Items.{Item}
use Rattle.volume_extract.specs.Progress.{IsExtracting}
use Rattle.volume_extract.specs.Source.{source_of}
use Rattle.volume_extract.proofs.extracting.extract_read.Given as goal

abbrev pub invariant-loop-entry : goal.invariant-loop-entry
invariant-loop-entry g l = record {
  reads : ReadsOn (g.D.Device.state l.fn.device) (g.D.Device.state l.device);
  opened : l.told.opened ≡ l.fn.opened;
  same : (g.O.Folder.state l.folder).honest ≡ (g.O.Folder.state l.fn.folder).honest;
  within : l.entry ≤ entries (g.F.Format.directory l.told.opened.format.now l.told.opened.volume);
  files : AreFilesOf (g.F.Format.meaning l.told.opened.format.now) (g.F.Format.directory l.told.opened.format.now l.told.opened.volume)
      (g.D.Device.state l.device) l.files;
  items : (items : List Item) × (length items ≡ l.entry) × IsExtracting
      (source_of l.told.opened.form l.told.opened.naming l.told.opened.texts (g.F.FileFormat.files l.told.opened.format.now) (g.F.Format.meaning l.told.opened.format.now)
      (g.F.TreeFormat.own l.told.opened.format.now) (g.F.Format.directory l.told.opened.format.now l.told.opened.volume)) l.told.opened.most
      (g.D.Device.state l.fn.device) (g.D.Device.state l.device) (g.O.Folder.state l.fn.folder) (g.O.Folder.state l.folder) items l.told.kept.items l.told.totals l.names;
}
