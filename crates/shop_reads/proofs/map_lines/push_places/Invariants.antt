use Rattle.std.proofs.Common.{◌≡◌, ◌++◌, map, string_bytes, take}
use Rattle.shop_reads.specs.MapText.{character_of}
use Rattle.shop_reads.proofs.map_lines.push_places.Given as goal

abbrev pub invariant-loop-state : goal.invariant-loop-state
invariant-loop-state l = string_bytes l.text ≡ string_bytes l.fn.text ++ map character_of (take l.state-index l.places)
