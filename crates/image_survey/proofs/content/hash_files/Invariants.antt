use Rattle.file_cmds.specs.EachFile.{AreFilesOf}
use Rattle.file_cmds.specs.ReadingOn.{ReadsOn}
use Rattle.volume_compare.specs.Contents.{volume_in}
use Rattle.image_survey.specs.Hashing.{IsHashedTo}
use Rattle.image_survey.proofs.content.hash_files.Given as goal

abbrev pub invariant-loop-named : goal.invariant-loop-named
invariant-loop-named g l = record {
  reads : ReadsOn (g.D.Device.state l.fn.device) (g.D.Device.state l.device);
  opened : AreFilesOf (g.F.Format.meaning l.format) (g.F.Format.directory l.format l.volume) (g.D.Device.state l.device) l.files;
  hashed : IsHashedTo
      (volume_in l.form (g.F.FileFormat.files l.format) (g.F.Format.meaning l.format) (g.F.Format.directory l.format l.volume) (g.D.Device.state l.fn.device).store)
      (g.D.Device.state l.fn.device).unreadable l.order l.named-index l.hashing;
}
