use Rattle.std.proofs.Common.{flat_map, map, take}
use Rattle.std.specs.Io.KnownBytes.{Appends}
use Rattle.image_survey.specs.Survey.{same_line}
use Rattle.image_survey.specs.Told.{candidate_of}
use Rattle.image_survey.proofs.survey.write_lines.Given as goal

abbrev pub invariant-loop-same : goal.invariant-loop-same
invariant-loop-same g l =
    Appends (g.T.Write.contents l.fn.text) (g.T.Write.contents l.text) (flat_map (same_line l.form l.likeness (map candidate_of l.kept)) (take l.same-index l.lines))
