use Rattle.std.proofs.Common.{◌≡◌, ◌++◌, take}
use Rattle.std.specs.List.{All, flat_map}
use Rattle.ring_cert.specs.Certificates.{IsSmall, ring_line}
use Rattle.ring_cert.proofs.printing.push_rings.Given as goal

abbrev pub invariant-loop-ring : goal.invariant-loop-ring
invariant-loop-ring g l = record {
  text : l.text.items ≡ l.fn.text.items ++ flat_map ring_line (take l.ring-index l.rings);
  small : All (All IsSmall) (take l.ring-index l.rings);
}
