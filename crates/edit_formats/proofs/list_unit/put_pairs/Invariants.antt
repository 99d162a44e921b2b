use Rattle.std.proofs.Common.{◌≡◌, ◌<◌, ℕ}
use Rattle.a2_device.specs.declared.part.PartKind.TheVariants.{Body}
use Rattle.edit_formats.specs.Order.{part_at}
use Rattle.edit_formats.specs.Filling.{HasPairs}
use Rattle.edit_formats.proofs.list_unit.put_pairs.Given as goal

abbrev pub invariant-loop-k : goal.invariant-loop-k
invariant-loop-k l = record {
  bodies : (m : ℕ) → l.at < m → m < l.k → (part_at l.parts m).kind ≡ Body;
  has : HasPairs l.parts l.places (part_at l.parts l.at).number l.at l.k l.unit;
}
