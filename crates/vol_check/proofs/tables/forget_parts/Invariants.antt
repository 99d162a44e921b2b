use Rattle.std.proofs.Common.{◌≡◌, length, false}
use Rattle.a2_device.specs.declared.part.Part.{Part}
use Rattle.vol_check.specs.Marks.{IsMarkedBy}
use Rattle.vol_check.proofs.Clearing.{IsMarkedFrom}
use Rattle.vol_check.proofs.tables.forget_parts.Given as goal

abbrev pub invariant-loop-part : goal.invariant-loop-part
invariant-loop-part l = record {
  size : length l.visited ≡ length l.fn.visited;
  marks : IsMarkedBy false (λ (part : Part). part.place) l.parts l.fn.visited → IsMarkedFrom false (λ (part : Part). part.place) l.parts l.part-index l.visited;
}
