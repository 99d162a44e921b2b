use Rattle.a2_device.specs.declared.part.PartKind.TheVariants.{Index}
use Rattle.edit_formats.specs.Filling.{HasPointers}
use Rattle.edit_formats.proofs.table_unit.build_master.Given as goal

abbrev pub invariant-loop-k : goal.invariant-loop-k
invariant-loop-k l = HasPointers l.parts l.places Index 0 0 l.k l.unit
