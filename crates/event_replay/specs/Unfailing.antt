-- A device that fails nothing by itself.
use Rattle.std.specs.Prelude.{◌≡◌, IsTrue, ℕ, Bool, true, false, not, ◌&&◌, List, [], ◌∷◌, Option, Some, None, zero}
use Rattle.a2_device.specs.Device.{DeviceState}

abbrev pub is_none : {A : Type 0} → Option A → Bool
is_none None = true
is_none (Some value) = false

abbrev pub is_empty : {A : Type 0} → List A → Bool
is_empty [] = true
is_empty (first ∷ rest) = false

abbrev pub has_no_reads : Option ℕ → Bool
has_no_reads (Some zero) = true
has_no_reads failures = false

abbrev pub has_no_writes : Option (List Bool) → Bool
has_no_writes (Some []) = true
has_no_writes failures = false

-- each place can be read, no failure is to come, and each write is passed on
abbrev pub fails_nothing : DeviceState → Bool
fails_nothing device =
    is_empty device.unreadable && (has_no_reads device.read_failures
    && (has_no_writes device.write_failures && is_none device.passes))

-- A device that is taken to fail nothing: it is honest where the one in it is, and that has failed nothing and has
-- nothing to fail. All of its writes are those that stand.
abbrev pub unfailing : Bool → DeviceState → DeviceState
unfailing failed device = record device {
  honest = device.honest && (not failed && fails_nothing device);
  unreadable = [];
  read_failures = Some 0;
  write_failures = Some [];
  passes = None;
  standing = device.writes;
}

-- a device, and the one within it that is handed back once no failure is ordered any more
pub record HandsBack (outer inner : DeviceState) : Type 0 where
  pub places : inner.places ≡ outer.places
  pub unit_size : inner.unit_size ≡ outer.unit_size
  pub image : inner.image ≡ outer.image
  pub store : inner.store ≡ outer.store
  pub writes : inner.writes ≡ outer.standing
  pub unfailing : IsTrue outer.honest → IsTrue (inner.honest && fails_nothing inner)
