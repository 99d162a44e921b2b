-- How many sectors are free, counted over some tracks.
use Rattle.std.specs.Prelude.{ℕ, ◌+◌, List, count_by, count_ones, slice_index}
use Rattle.std.specs.List.{range_with_len}
use Rattle.dos_vtoc.specs.Vtoc.{is_free}

-- how many of the sectors before a place are free
unfoldable pub free_below : List ℕ → ℕ → ℕ
free_below vtoc place = count_by (is_free vtoc) (range_with_len 0 place)

-- how many bits are 1 in the two used bytes of a track, which begin here
abbrev pub ones_of_track : List ℕ → ℕ → ℕ
ones_of_track vtoc at = count_ones (slice_index vtoc at) + count_ones (slice_index vtoc (at + 1))
