use Rattle.std.proofs.Common.{◌≡◌, ◌<◌, ◌*◌, ℕ}
use Rattle.a2_device.specs.declared.part.PartKind.TheVariants.{Body}
use Rattle.edit_formats.specs.Order.{part_at}
use Rattle.edit_formats.specs.Filling.{HasPointers}
use Rattle.edit_formats.proofs.table_unit.put_bodies.Given as goal

abbrev pub invariant-loop-k : goal.invariant-loop-k
invariant-loop-k l = record {
  bodies : (m : ℕ) → l.at < m → m < l.k → (part_at l.parts m).kind ≡ Body;
  has : HasPointers l.parts l.places Body (256 * (part_at l.parts l.at).number) l.at l.k l.unit;
}
