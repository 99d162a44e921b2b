use Rattle.std.proofs.Common.{◌≡◌, ◌+◌, take}
use Rattle.volume_compare.specs.Pairs.{paths_of}
use Rattle.image_survey.specs.Content.{most_path_bytes}
use Rattle.image_survey.specs.Naming.{AreNamed}
use Rattle.image_survey.specs.Ordered.{path_bytes}
use Rattle.image_survey.proofs.ordered.named_files.Given as goal

abbrev pub invariant-loop-file : goal.invariant-loop-file
invariant-loop-file g l = record {
  named : AreNamed (paths_of (g.F.FileFormat.files l.format) (g.F.Format.directory l.format l.volume)) l.file l.named.items;
  left : l.left + path_bytes (take l.file (paths_of (g.F.FileFormat.files l.format) (g.F.Format.directory l.format l.volume))) ≡ most_path_bytes;
}
