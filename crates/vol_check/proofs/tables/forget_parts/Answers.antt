use Rattle.std.proofs.Common.{◌∙◌, false, get_or, refl, arith}
use Rattle.a2_device.specs.declared.part.Part.{Part}
use Rattle.a2_device.specs.declared.part.PartKind.TheVariants.{List as AList}
use Rattle.vol_check.proofs.Clearing.{one_cleared, all_cleared}
use Rattle.vol_check.proofs.tables.forget_parts.Goals as goal

abbrev some_part : Part
some_part = record { file = 0; kind = AList; number = 0; place = 0 }

pub loop-part-preserved : goal.loop-part-preserved
loop-part-preserved c = record {
  size = c.put.auto.table ∙ c.loop-part.invariant.size;
  marks = λ marked.
      one_cleared false (λ (part : Part). part.place) c.args.parts.now c.loop-part.part-index c.loop-part.visited c.put.new.table
      (get_or c.args.parts.now c.loop-part.part-index some_part) some_part refl c.put.ensures (c.loop-part.invariant.marks marked);
}

pub returns : goal.returns
returns c = λ marked.
    all_cleared false (λ (part : Part). part.place) c.args.parts.now c.loop-part.visited c.loop-part.part-index (omega (arith, c.loop-part-test.false))
    (c.loop-part.invariant.marks marked) _ c.loop-part.invariant.size
