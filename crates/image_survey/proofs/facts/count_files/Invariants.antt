use Rattle.std.proofs.Common.{◌≡◌, ◌≤◌, length, take}
use Rattle.std.specs.Prelude.{filter, not}
use Rattle.vol_format.specs.Directory.{Listed, is_directory}
use Rattle.image_survey.proofs.facts.count_files.Given as goal

abbrev pub invariant-loop-file : goal.invariant-loop-file
invariant-loop-file g l = record {
  counted : l.count ≡ length (filter (λ (entry : Listed). not (is_directory entry)) (take l.file (g.F.Format.directory l.format l.volume).listed));
  few : l.count ≤ l.file;
}
