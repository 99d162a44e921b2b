-- Units of 00s in which some bytes stand.
use Rattle.std.specs.Prelude.{ℕ, List, [], ◌∷◌, replicate}
use Rattle.pro_dir.specs.Writes.{with_bytes}

-- so many 00s
unfoldable pub zeros : ℕ → List ℕ
zeros size = replicate size 0

-- a unit with some fields written, each of them some bytes from an offset on
abbrev pub with_fields : List (ℕ × List ℕ) → List ℕ → List ℕ
with_fields [] unit = unit
with_fields (field ∷ fields) unit = with_fields fields (with_bytes field.0 field.1 unit)

-- a unit of 00s but for these fields
abbrev pub unit_with : ℕ → List (ℕ × List ℕ) → List ℕ
unit_with size fields = with_fields fields (zeros size)
