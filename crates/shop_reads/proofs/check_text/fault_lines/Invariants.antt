use Rattle.std.proofs.Common.{◌≡◌, string_bytes, take}
use Rattle.std.specs.Prelude.{flat_map}
use Rattle.shop_reads.specs.CheckText.{fault_line}
use Rattle.shop_reads.proofs.check_text.fault_lines.Given as goal

abbrev pub invariant-loop-fault : goal.invariant-loop-fault
invariant-loop-fault l = string_bytes l.text ≡ flat_map (fault_line l.form) (take l.fault-index l.faults)
