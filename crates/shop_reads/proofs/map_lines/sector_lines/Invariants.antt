use Rattle.std.proofs.Common.{◌≡◌, ◌-◌, string_bytes}
use Rattle.std.specs.Prelude.{flat_map}
use Rattle.std.specs.List.{range_with_len}
use Rattle.shop_reads.specs.MapText.{sector_line}
use Rattle.shop_reads.proofs.map_lines.sector_lines.Given as goal

abbrev pub invariant-loop-below : goal.invariant-loop-below
invariant-loop-below l = string_bytes l.text ≡ flat_map (λ below. sector_line l.places (15 - below)) (range_with_len 0 l.below)
