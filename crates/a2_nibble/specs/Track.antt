-- A track: 6,656 bytes on a ring, as a drive reads them from the turning disk.
use Rattle.std.specs.Prelude.{◌≡◌, ℕ, ◌+◌, ◌-◌, ◌%◌, ◌≤◌, List, slice_index, EachIndex, map}
use Rattle.std.specs.List.{range_with_len}

-- the byte at a place
unfoldable pub nibble_at : List ℕ → ℕ → ℕ
nibble_at nibbles place = slice_index nibbles (place % 6656)

-- these bytes stand from a place on
abbrev pub StandsAt : List ℕ → ℕ → List ℕ → Type 0
StandsAt nibbles place bytes =
    EachIndex bytes (λ k. nibble_at nibbles (place + k) ≡ slice_index bytes k)

-- the 343 bytes from a place on
unfoldable pub field_at : List ℕ → ℕ → List ℕ
field_at nibbles place = map (nibble_at nibbles) (range_with_len place 343)

-- how far a place stands behind another on the ring
abbrev pub behind : ℕ → ℕ → ℕ
behind from place = (place + (6656 - from)) % 6656

-- both tracks agree but for the 343 bytes from a place on
abbrev pub SameOutside : List ℕ → List ℕ → ℕ → Type 0
SameOutside old new at = (q : ℕ) → 343 ≤ behind at q → nibble_at new q ≡ nibble_at old q
