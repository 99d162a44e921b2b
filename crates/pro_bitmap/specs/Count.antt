-- The bits of some bytes.
use Rattle.std.specs.Prelude.{ℕ, zero, suc, ◌+◌, List, count_ones, slice_index}

-- how many bits are 1 in so many bytes from one on
abbrev pub ones_from : List ℕ → ℕ → ℕ → ℕ
ones_from unit at zero = 0
ones_from unit at (suc bytes) = count_ones (slice_index unit at) + ones_from unit (at + 1) bytes
