use Rattle.std.proofs.Common.{◌≡◌, ◌+◌, ℕ, List, length}
use Rattle.a2_device.specs.Device.{unit_at}
use Rattle.pro_tree.specs.Parts.{rank}
use Rattle.pro_tree.specs.Walk.{IsTaking}
use Rattle.a2_device.specs.Table.{IsTable}
use Rattle.pro_tree.proofs.file_walk.FileWalk.take_bodies.Given as goal

abbrev pub invariant-loop-number : goal.invariant-loop-number
invariant-loop-number g l = record {
  places : l.self.places ≡ l.fn.self.places;
  size : length l.self.met.items ≡ length l.fn.self.met.items;
  table : IsTable l.fn.self.met.items l.fn.self.parts.items → IsTable l.self.met.items l.self.parts.items;
  taking : (store : List (List ℕ)) → length store ≡ l.fn.self.places → unit_at store l.index.place ≡ l.unit
      → IsTaking store l.index l.fn.self.parts.items l.self.parts.items l.number (rank l.index + 1 + l.number);
}
