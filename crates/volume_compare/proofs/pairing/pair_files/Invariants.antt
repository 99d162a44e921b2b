use Rattle.volume_compare.specs.Candidates.{AreCandidates}
use Rattle.volume_compare.specs.Pairs.{ArePairsUpTo, paths_of}
use Rattle.volume_compare.proofs.pairing.pair_files.Given as goal

abbrev pub invariant-loop-file : goal.invariant-loop-file
invariant-loop-file g l = record {
  pairs : ArePairsUpTo (paths_of (g.F.FileFormat.files l.format) (g.F.Format.directory l.format l.first))
      (paths_of (g.F.FileFormat.files l.format) (g.F.Format.directory l.format l.second)) l.file l.partners.items l.candidates.taken.items;
  candidates : AreCandidates (paths_of (g.F.FileFormat.files l.format) (g.F.Format.directory l.format l.second))
      l.candidates.keys.items l.candidates.fronts.items l.candidates.taken.items;
}
