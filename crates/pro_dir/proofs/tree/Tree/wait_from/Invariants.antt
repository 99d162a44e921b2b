use Rattle.std.proofs.Common.{◌≡◌, ◌≤◌, ◌++◌, drop, map}
use Rattle.std.specs.Prelude.{reverse}
use Rattle.pro_dir.specs.Walk.{whole_block}
use Rattle.pro_dir.proofs.tree.Tree.wait_from.Given as goal

abbrev pub invariant-loop-number : goal.invariant-loop-number
invariant-loop-number g l = record {
  from : l.first ≤ l.number;
  pending : l.self.pending.items ≡ l.fn.self.pending.items ++ reverse (map (whole_block l.key) (drop l.number l.fn.self.blocks.items));
  blocks : l.self.blocks ≡ l.fn.self.blocks;
  met : l.self.met ≡ l.fn.self.met;
  entries : l.self.entries ≡ l.fn.self.entries;
  free : l.self.free ≡ l.fn.self.free;
}
