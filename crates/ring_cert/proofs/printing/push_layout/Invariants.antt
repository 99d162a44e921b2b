use Rattle.std.proofs.Common.{◌≡◌, ◌++◌, length, take}
use Rattle.std.specs.List.{flat_map}
use Rattle.ring_cert.specs.Certificates.{at_line, first_line, size_line}
use Rattle.ring_cert.proofs.printing.push_layout.Given as goal

abbrev pub invariant-loop-place : goal.invariant-loop-place
invariant-loop-place g l =
    l.text.items ≡ ((l.fn.text.items ++ first_line) ++ size_line (length l.layout.at) l.layout.places) ++ flat_map at_line (take l.place-index l.place-items)
