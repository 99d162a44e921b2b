use Rattle.volume_compare.specs.Candidates.{AreKeysUpTo}
use Rattle.volume_compare.specs.Pairs.{paths_of}
use Rattle.volume_compare.proofs.keys.keys_in_order.Given as goal

abbrev pub invariant-loop-file : goal.invariant-loop-file
invariant-loop-file g l =
    AreKeysUpTo (paths_of (g.F.FileFormat.files l.format) (g.F.Format.directory l.format l.volume)) l.file l.keys.items
