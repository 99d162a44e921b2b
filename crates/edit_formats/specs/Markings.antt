-- The units of the map that have marks of some places, in rising order.
use Rattle.std.specs.Prelude.{◌≡◌, ◌<◌, ◌==◌, nat_lt, if◌then◌else◌, ℕ, Bool, Option, Some, None, List, [], ◌∷◌, ◌++◌, length, filter, All, AllPairs, Contains, IsTrue}
use Rattle.a2_device.specs.Device.{DeviceState}
use Rattle.vol_format.specs.Directory.{Directory, map_place}
use Rattle.vol_format.specs.Meaning.{Meaning}
use Rattle.vol_laws.specs.Markings.{marking_write}
use Rattle.edit_formats.specs.declared.writes.Prepared.{Prepared}
use Rattle.edit_formats.specs.Prepared.{write_of}

-- the nearer of two units from a number on
abbrev pub nearer : ℕ → Option ℕ → ℕ → Option ℕ
nearer from None at = if nat_lt at from then None else Some at
nearer from (Some best) at = if nat_lt at from then Some best else (if nat_lt at best then Some at else Some best)

-- the nearest unit from a number on, of those that have the marks of some places, or one that is known
abbrev pub nearest : Directory → ℕ → Option ℕ → List ℕ → Option ℕ
nearest directory from best [] = best
nearest directory from best (place ∷ places) =
    nearest directory from (nearer from best (map_place directory place)) places

-- those of some places that have their marks in a unit
abbrev pub marked_in : Directory → ℕ → List ℕ → List ℕ
marked_in directory at places = filter (λ place. map_place directory place == at) places

-- a unit that has the mark of one of some places
abbrev pub HasMarkOf : Directory → List ℕ → ℕ → Type 0
HasMarkOf directory places at = (place : ℕ) × Contains places place × (map_place directory place ≡ at)

-- Writes of units of the map below a number, behind others: in rising order, each marks those of some places free, or
-- used, that have their marks there. All units below that number that have marks of these places are among them.
pub record IsMarking {A : Type 0} (format : Meaning) (free : Bool) (directory : Directory) (places : List ℕ)
    (old : DeviceState) (start : List (Prepared A)) (from : ℕ) (writes : List (Prepared A)) : Type 0 where
  pub marked : List (Prepared A)
  pub are : writes ≡ start ++ marked
  pub below : All (λ (write : Prepared A). write.place < from) marked
  pub rising : AllPairs (λ (write later : Prepared A). write.place < later.place) marked
  pub inside : All (λ (write : Prepared A). write.place < directory.places) marked
  pub sizes : All (λ (write : Prepared A). length write.unit.items ≡ old.unit_size) marked
  pub own : All (λ (write : Prepared A). HasMarkOf directory places write.place) marked
  pub each : (place : ℕ) → Contains places place → map_place directory place < from
      → (write : Prepared A) × Contains marked write × (write.place ≡ map_place directory place)
  pub prepared : IsTrue old.honest → All (λ (write : Prepared A). write_of write ≡ marking_write format free old.store
      (record { at = write.place; places = marked_in directory write.place places })) marked

-- the same, with all units that have marks of these places
abbrev pub AreMarked : {A : Type 0} → Meaning → Bool → Directory → List ℕ → DeviceState → List (Prepared A)
    → List (Prepared A) → Type 0
AreMarked format free directory places old start writes =
    (from : ℕ) × IsMarking format free directory places old start from writes
    × ((place : ℕ) → Contains places place → map_place directory place < from)
