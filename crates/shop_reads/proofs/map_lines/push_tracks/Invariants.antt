use Rattle.std.proofs.Common.{◌≡◌, ◌++◌, map, string_bytes}
use Rattle.std.specs.List.{range_with_len}
use Rattle.shop_reads.specs.MapText.{sector_character}
use Rattle.shop_reads.proofs.map_lines.push_tracks.Given as goal

abbrev pub invariant-loop-track : goal.invariant-loop-track
invariant-loop-track l =
    string_bytes l.text ≡ string_bytes l.fn.text ++ map (sector_character l.places l.sector) (range_with_len 0 l.track)
