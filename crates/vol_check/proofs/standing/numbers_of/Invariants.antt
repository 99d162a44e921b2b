use Rattle.std.proofs.Common.{◌≡◌}
use Rattle.std.proofs.Math.ListN.{take}
use Rattle.vol_format.specs.Standing.{layout_of}
use Rattle.vol_check.proofs.standing.numbers_of.Given as goal

abbrev pub invariant-loop-part : goal.invariant-loop-part
invariant-loop-part g l = l.at.items ≡ layout_of (g.F.Format.directory l.format l.volume) (take l.part-index l.parts)
