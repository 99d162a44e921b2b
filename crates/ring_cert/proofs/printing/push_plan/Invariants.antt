use Rattle.std.proofs.Common.{◌≡◌, ◌++◌, take}
use Rattle.std.specs.List.{All, flat_map}
use Rattle.ring_cert.specs.Certificates.{IsMoveTold, move_line}
use Rattle.ring_cert.proofs.printing.push_plan.Given as goal

abbrev pub invariant-loop-step : goal.invariant-loop-step
invariant-loop-step g l = record {
  text : l.text.items ≡ l.fn.text.items ++ flat_map move_line (take l.step-index l.moves);
  told : All IsMoveTold (take l.step-index l.moves);
}
