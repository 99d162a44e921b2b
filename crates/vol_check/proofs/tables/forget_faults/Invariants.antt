use Rattle.std.proofs.Common.{◌≡◌, length}
use Rattle.vol_check.specs.Known.{none_known, place_of}
use Rattle.vol_check.specs.Marks.{IsMarkedBy}
use Rattle.vol_check.proofs.Clearing.{IsMarkedFrom}
use Rattle.vol_check.proofs.tables.forget_faults.Given as goal

abbrev pub invariant-loop-fault : goal.invariant-loop-fault
invariant-loop-fault l = record {
  size : length l.known ≡ length l.fn.known;
  marks : IsMarkedBy none_known place_of l.faults l.fn.known → IsMarkedFrom none_known place_of l.faults l.fault-index l.known;
}
