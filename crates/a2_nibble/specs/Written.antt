-- The values of a content in the order in which they are written.
use Rattle.std.specs.Prelude.{ℕ, ◌+◌, ◌-◌, ◌*◌, ◌/◌, ◌%◌, List, slice_index, nat_lt, if◌then◌else◌}

-- two bits in the other order
abbrev pub swapped : ℕ → ℕ
swapped pair = pair % 2 * 2 + pair / 2 % 2

-- the low two bits of byte i as they are written, 0 where there is no such byte
abbrev pub low_pair : List ℕ → ℕ → ℕ
low_pair content i = swapped (slice_index content i % 4)

-- the k-th value: 86 groups of low pairs, then the high six bits of each byte
unfoldable pub written_value : List ℕ → ℕ → ℕ
written_value content k =
    if nat_lt k 86
    then low_pair content k + 4 * low_pair content (k + 86) + 16 * low_pair content (k + 172)
    else slice_index content (k - 86) / 4
