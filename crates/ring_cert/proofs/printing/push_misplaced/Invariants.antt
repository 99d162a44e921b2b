use Rattle.std.proofs.Common.{◌≡◌, ◌++◌, take}
use Rattle.std.specs.List.{All, flat_map}
use Rattle.ring_cert.specs.Certificates.{IsSmall, off_line}
use Rattle.ring_cert.proofs.printing.push_misplaced.Given as goal

abbrev pub invariant-loop-part : goal.invariant-loop-part
invariant-loop-part g l = record {
  text : l.text.items ≡ l.fn.text.items ++ flat_map off_line (take l.part-index l.misplaced);
  small : All IsSmall (take l.part-index l.misplaced);
}
