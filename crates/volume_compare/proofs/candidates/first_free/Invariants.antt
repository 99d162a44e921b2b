use Rattle.volume_compare.specs.Candidates.{NoneFreeIn}
use Rattle.volume_compare.specs.Pairs.{paths_of}
use Rattle.volume_compare.proofs.candidates.first_free.Given as goal

abbrev pub invariant-loop-place : goal.invariant-loop-place
invariant-loop-place g l =
    NoneFreeIn (paths_of (g.F.FileFormat.files l.format) (g.F.Format.directory l.format l.volume)) l.taken l.path l.keys l.place
