use Rattle.std.proofs.Common.{take}
use Rattle.std.specs.List.{All}
use Rattle.vol_layout.specs.Layouts.{IsMisplaced}
use Rattle.ring_cert.proofs.verifying.part_at_home.Given as goal

abbrev pub invariant-loop-part : goal.invariant-loop-part
invariant-loop-part l = All (IsMisplaced l.at) (take l.part-index l.off)
