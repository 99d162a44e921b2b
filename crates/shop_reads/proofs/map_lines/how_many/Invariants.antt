use Rattle.std.proofs.Common.{◌≡◌, ◌≤◌, take}
use Rattle.shop_reads.specs.MapText.{how_many}
use Rattle.shop_reads.proofs.map_lines.how_many.Given as goal

abbrev pub invariant-loop-state : goal.invariant-loop-state
invariant-loop-state l = record {
  counted : l.count ≡ how_many l.character (take l.state-index l.places);
  few : l.count ≤ l.state-index;
}
