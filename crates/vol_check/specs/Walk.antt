-- A walk over the parts of all files: what is known of it whatever the device tells, and what each step does.
use Rattle.std.specs.Prelude.{◌≡◌, ◌≢◌, ◌<◌, ◌≤◌, ◌==◌, ℕ, zero, suc, ◌+◌, Bool, true, false, not, ◌&&◌, if◌then◌else◌, List, [], ◌∷◌, ◌++◌, Option, Some, None, length, replicate, slice_index_or, slice_set, count_by, AllPairs, Contains}
use Rattle.a2_device.specs.Device.{unit_at}
use Rattle.a2_device.specs.declared.part.Part.{Part}
use Rattle.a2_device.specs.declared.fault.Fault.{Fault}
use Rattle.a2_device.specs.declared.fault.Fault.TheVariants.{OutOfRange, StorageType, InSystem, Shared, MarkedFree}
use Rattle.vol_format.specs.declared.link.Link.{Link}
use Rattle.vol_format.specs.declared.link.Link.TheVariants.{Null, Wild, Directory as ToDirectory, OtherType, To}
use Rattle.vol_format.specs.Directory.{Directory, entries, is_system, is_free}
use Rattle.vol_format.specs.Meaning.{Meaning}
use Rattle.vol_check.specs.Known.{is_known, knowing, none_known}
use Rattle.vol_check.specs.declared.known.Known.{Known}
use Rattle.vol_check.specs.declared.walk.Pending.{Pending}
use Rattle.vol_check.specs.declared.walk.Pending.TheVariants.{Visit, Tell}
use Rattle.vol_check.specs.declared.walk.Walk.{Walk}

-- the parts so far, what is to do next with the first of it last, the faults so far, which places were met, and which
-- faults of them are known
pub record Lists : Type 0 where
  pub parts : List Part
  pub pending : List Pending
  pub faults : List Fault
  pub visited : List Bool
  pub known : List Known

abbrev pub lists : {A : Type 0} → Walk A → Lists
lists walk = record {
  parts = walk.parts.items;
  pending = walk.pending.items;
  faults = walk.faults.items;
  visited = walk.visited.items;
  known = walk.known.items;
}

-- a walk that has seen nothing
abbrev pub unseen : ℕ → Lists
unseen places = record {
  parts = [];
  pending = [];
  faults = [];
  visited = replicate places false;
  known = replicate places none_known;
}

-- whether a place was met
abbrev pub is_visited : Lists → ℕ → Bool
is_visited walk place = slice_index_or walk.visited place false

-- a fault is told, unless it was told before
abbrev pub told : Fault → Lists → Lists
told fault walk =
    if not (length walk.faults == 0) && is_known walk.known fault then walk
    else (record walk { faults = walk.faults ++ fault ∷ []; known = knowing walk.known fault })

-- a part is taken up
abbrev pub taken_up : Directory → Part → Lists → Lists
taken_up directory part walk = record walk {
  parts = walk.parts ++ part ∷ [];
  visited = slice_set walk.visited part.place true;
  faults = if is_free directory part.place then walk.faults ++ MarkedFree part.place ∷ [] else walk.faults;
}

-- the fault of a part that cannot be: its place is the system's or was met before
abbrev pub hindrance_of : Directory → Part → Lists → Option Fault
hindrance_of directory part walk =
    if is_system directory part.place then Some (InSystem part.place)
    else (if is_visited walk part.place then Some (Shared part.place)
    else None)

-- it is not where its place is the system's or was met before
abbrev pub is_admitted : Directory → Part → Lists → Bool
is_admitted directory part walk = not (is_system directory part.place) && not (is_visited walk part.place)

abbrev pub admitted : Directory → Part → Lists → Lists
admitted directory part walk =
    if is_system directory part.place then told (InSystem part.place) walk
    else (if is_visited walk part.place then told (Shared part.place) walk
    else taken_up directory part walk)

-- What holds of a walk whatever the device tells: each part that was taken up has used a place up, stands there alone,
-- and not on one of the system's; and the parts that wait stand in the volume.
pub record IsSound (format : Meaning) (directory : Directory) (walk : Lists) : Type 0 where
  pub size : length walk.visited ≡ directory.places
  pub used : length walk.parts + count_by not walk.visited ≡ directory.places
  pub part_place : (part : Part) → Contains walk.parts part → part.place < directory.places
  pub part_file : (part : Part) → Contains walk.parts part → part.file < entries directory
  pub outside_system : (part : Part) → Contains walk.parts part → is_system directory part.place ≡ false
  pub met : (part : Part) → Contains walk.parts part → is_visited walk part.place ≡ true
  pub by_part : (place : ℕ) → is_visited walk place ≡ true
      → (part : Part) × Contains walk.parts part × (part.place ≡ place)
  pub apart : AllPairs (λ part later. part.place ≢ later.place) walk.parts
  pub waiting_place : (part : Part) → Contains walk.pending (Visit part) → part.place < directory.places
  pub waiting_depth : (part : Part) → Contains walk.pending (Visit part) → format.depth part ≤ length walk.parts
  pub waiting_file : (part : Part) → Contains walk.pending (Visit part) → part.file < entries directory

-- something more to do
abbrev pub put_off : Pending → Lists → Lists
put_off pending walk = record walk { pending = walk.pending ++ pending ∷ [] }

-- what a pointer names is noted
abbrev pub noted : ℕ → Link → Lists → Lists
noted holder Null walk = walk
noted holder ToDirectory walk = walk
noted holder Wild walk = put_off (Tell (OutOfRange holder)) walk
noted holder OtherType walk = put_off (Tell (StorageType holder)) walk
noted holder (To part) walk = put_off (Visit part) walk

-- what the first pointers of a unit name is noted, the last of them first
abbrev pub followed : (ℕ → Link) → ℕ → ℕ → Lists → Lists
followed links holder zero walk = walk
followed links holder (suc pointer) walk = followed links holder pointer (noted holder (links pointer) walk)

-- a part is looked at
abbrev pub after_visit : Meaning → Directory → Part → List ℕ → Lists → Lists
after_visit format directory part unit walk =
    if is_admitted directory part walk
    then followed (format.child directory.places part unit) part.place (format.pointers part)
    (admitted directory part walk)
    else admitted directory part walk

-- what is next is done
abbrev pub after_next : Meaning → Directory → Pending → List ℕ → Lists → Lists
after_next format directory (Visit part) unit walk = after_visit format directory part unit walk
after_next format directory (Tell fault) unit walk = told fault walk

-- the unit that is read for it
abbrev pub next_unit : List (List ℕ) → Pending → List ℕ
next_unit store (Visit part) = unit_at store part.place
next_unit store (Tell fault) = []
