-- What the calls of a device do, as contracts see it.
use Rattle.std.specs.Prelude.{◌≡◌, ◌==◌, ◌<◌, ◌⊎◌, ℕ, ◌+◌, ◌-◌, Bool, if◌then◌else◌, List, [], ◌∷◌, Contains, length, slice_index_or, slice_set, Option, Some, None, Result, Err, is_err, IsTrue, IsFalse}
use Rattle.a2_device.specs.declared.order.Order.{Order}
use Rattle.a2_device.specs.declared.device.DeviceError.{DeviceError}
use Rattle.a2_device.specs.declared.device.DeviceError.TheVariants.{Spent}

-- the image that the units of a device lie in: the order of its sectors, how many bytes it has, and each of them that
-- no write may change
pub record ImageForm : Type 0 where
  pub order : Order
  pub bytes : ℕ
  pub kept : List (Option ℕ)

-- A device: how many places it has, the size of a unit, the image that its units lie in, if any, the two counts
-- that it tells, whether it is honest; and the units that it would answer now, the places that can't be read, the
-- failures that may still come (`None` is no bound; for a write, whether the new unit stands), how many writes it will
-- still pass on (`None` is no limit; each is passed on or refused, and a refused one leaves the old unit), and how many
-- writes stand. What a call does to the last six is known of an honest device alone, but that none changes the places
-- that can't be read.
pub record DeviceState : Type 0 where
  pub places : ℕ
  pub unit_size : ℕ
  pub image : Option ImageForm
  pub writes : ℕ
  pub faults : ℕ
  pub honest : Bool
  pub store : List (List ℕ)
  pub unreadable : List ℕ
  pub read_failures : Option ℕ
  pub write_failures : Option (List Bool)
  pub passes : Option ℕ
  pub standing : ℕ

-- the unit at a place
abbrev pub unit_at : List (List ℕ) → ℕ → List ℕ
unit_at store place = slice_index_or store place []

-- an honest device has a unit of its size at each place
pub record IsWhole (device : DeviceState) : Type 0 where
  pub all : length device.store ≡ device.places
  pub units : (place : ℕ) → place < device.places → length (unit_at device.store place) ≡ device.unit_size

-- the last value of a counter
abbrev pub last_count : ℕ
last_count = 18446744073709551615

-- one more, unless it stands at its last value
abbrev pub counted : ℕ → ℕ
counted n = if n == last_count then n else (n + 1)

-- the count of refusals after a call
abbrev pub faults_after : {T E : Type 0} → Result T E → ℕ → ℕ
faults_after result faults = if is_err result then counted faults else faults

-- the count of writes after a write
abbrev pub writes_after : {T : Type 0} → Result T DeviceError → ℕ → ℕ
writes_after (Err Spent) writes = writes
writes_after result writes = writes + 1

-- what no call changes
pub record IsSameDevice (old new : DeviceState) : Type 0 where
  pub places : new.places ≡ old.places
  pub unit_size : new.unit_size ≡ old.unit_size
  pub image : new.image ≡ old.image
  pub honest : new.honest ≡ old.honest
  pub unreadable : new.unreadable ≡ old.unreadable

-- a failure to come is used, where there is a bound; else nothing is said
abbrev pub UsesRead : Option ℕ → Option ℕ → Type 0
UsesRead None new = Unit {0}
UsesRead (Some n) new = (rest : ℕ) × (n ≡ rest + 1) × (new ≡ Some rest)

abbrev pub UsesWrite : Option (List Bool) → Bool → Option (List Bool) → Type 0
UsesWrite None took new = Unit {0}
UsesWrite (Some orders) took new = (rest : List Bool) × (orders ≡ took ∷ rest) × (new ≡ Some rest)

-- a read that met a failure to come
abbrev pub MeetsReadFailure : DeviceState → DeviceState → Type 0
MeetsReadFailure old new =
    UsesRead old.read_failures new.read_failures
    × (new ≡ record old { faults = counted old.faults; read_failures = new.read_failures })

-- a read that failed: a failure to come was met, or the place is one that can't be read
abbrev pub FailsRead : ℕ → DeviceState → DeviceState → Type 0
FailsRead place old new =
    MeetsReadFailure old new
    ⊎ (Contains old.unreadable place × (new ≡ record old { faults = counted old.faults }))

-- Calls that read alone: one that told no failure of the device changes nothing, and one that did has met one, at some
-- place.
pub record OnlyReads (failed : Bool) (old new : DeviceState) : Type 0 where
  pub same : IsSameDevice old new
  pub faults : new.faults ≡ (if failed then counted old.faults else old.faults)
  pub kept : IsTrue old.honest → IsFalse failed → new ≡ old
  pub met : IsTrue old.honest → IsTrue failed → (place : ℕ) × FailsRead place old new

-- the writes that will still be passed on, after one that was
abbrev pub one_fewer : Option ℕ → Option ℕ
one_fewer None = None
one_fewer (Some n) = Some (n - 1)

-- a write that stands
abbrev pub written : ℕ → List ℕ → DeviceState → DeviceState
written place unit device = record device {
  writes = device.writes + 1;
  store = slice_set device.store place unit;
  passes = one_fewer device.passes;
  standing = device.standing + 1;
}

-- a write that met a failure to come, and left the old unit or the new one; with the old one it was passed on or not
abbrev pub MeetsWriteFailure : ℕ → List ℕ → DeviceState → DeviceState → Type 0
MeetsWriteFailure place unit old new =
    (took : Bool) × UsesWrite old.write_failures took new.write_failures
    × ((new.passes ≡ old.passes) ⊎ (new.passes ≡ one_fewer old.passes))
    × (new ≡ record (if took then written place unit old
    else (record old { writes = old.writes + 1; passes = new.passes })) {
      faults = counted old.faults;
      write_failures = new.write_failures;
    })

-- No write to a place can stand: the place is one that can't be read, or no more writes are passed on.
abbrev pub IsClosed : ℕ → DeviceState → Type 0
IsClosed place device = Contains device.unreadable place ⊎ (device.passes ≡ Some 0)

-- a write that was refused: the counts alone change
abbrev pub refused : DeviceState → DeviceState
refused device = record device {
  writes = device.writes + 1;
  faults = counted device.faults;
  passes = one_fewer device.passes;
}

-- a write that failed: a failure to come was met, or no write to the place can stand
abbrev pub FailsWrite : ℕ → List ℕ → DeviceState → DeviceState → Type 0
FailsWrite place unit old new = MeetsWriteFailure place unit old new ⊎ (IsClosed place old × (new ≡ refused old))

-- the units are as they were
pub record KeepsUnits (old new : DeviceState) : Type 0 where
  pub store : new.store ≡ old.store
  pub standing : new.standing ≡ old.standing
