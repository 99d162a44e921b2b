-- The numbers that were met so far.
use Rattle.std.specs.Prelude.{◌≡◌, ◌==◌, ℕ, Bool, false, List, length, nat_lt, slice_index_or, if◌then◌else◌}
use Rattle.std.specs.List.{list_any}
use Rattle.std.specs.Ordering.{nat_cmp}
use Rattle.std.specs.BTreeSet.{contains}
use Rattle.vol_layout.specs.Layouts.{AreDistinct}
use Rattle.ring_cert.specs.declared.seen.Seen.{Seen}

-- whether a number was met: those of parts stand in the table, the others in the set
abbrev pub is_seen : {A : Type 0} → Seen A → ℕ → Bool
is_seen s number = if nat_lt number (length s.parts.items) then slice_index_or s.parts.items number false
    else contains nat_cmp s.others number

-- the numbers met are those of a list, which has none twice
pub record HasMet {A : Type 0} (s : Seen A) (numbers : List ℕ) : Type 0 where
  pub seen : (k : ℕ) → is_seen s k ≡ list_any (λ x. x == k) numbers
  pub distinct : AreDistinct numbers
