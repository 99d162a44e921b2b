use Rattle.std.proofs.Common.{◌∙◌, ap, set, get_or, refl, arith}
use Rattle.a2_device.specs.declared.fault.Fault.TheVariants.{Geometry}
use Rattle.vol_check.specs.Known.{none_known, place_of}
use Rattle.vol_check.proofs.Clearing.{one_cleared, all_cleared}
use Rattle.vol_check.proofs.tables.forget_faults.Goals as goal

pub loop-fault-preserved : goal.loop-fault-preserved
loop-fault-preserved c = record {
  size = c.put.auto.table ∙ c.loop-fault.invariant.size;
  marks = λ marked.
      one_cleared none_known place_of c.args.faults.now c.loop-fault.fault-index c.loop-fault.known c.put.new.table
      (get_or c.args.faults.now c.loop-fault.fault-index (Geometry 0)) (Geometry 0) refl
      (c.put.ensures ∙ ap (λ place. set c.loop-fault.known place c.nothing.result) c.place_of.ensures ∙ ap (set c.loop-fault.known _) c.nothing.ensures)
      (c.loop-fault.invariant.marks marked);
}

pub returns : goal.returns
returns c = λ marked.
    all_cleared none_known place_of c.args.faults.now c.loop-fault.known c.loop-fault.fault-index (omega (arith, c.loop-fault-test.false))
    (c.loop-fault.invariant.marks marked) _ c.loop-fault.invariant.size
