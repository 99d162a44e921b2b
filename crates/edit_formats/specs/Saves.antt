-- What a format of volumes is to the command that saves a new file.
use Rattle.std.specs.Prelude.{◌≡◌, ◌≢◌, ◌⊎◌, ◌<◌, ◌≤◌, ℕ, Bool, true, false, List, length, take}
use Rattle.a2_device.specs.Device.{unit_at}
use Rattle.a2_device.specs.declared.part.PartKind.TheVariants.{Body}
use Rattle.vol_format.specs.Directory.{Directory, Listed, entries, is_system, map_place}
use Rattle.vol_format.specs.Meaning.{Meaning}
use Rattle.vol_laws.specs.Marked.{with_marks}
use Rattle.vol_laws.specs.declared.mark.Mark.{Mark}
use Rattle.vol_laws.specs.Built.{Planned, IsBuilt, IsRisingPlan, place_of, unit_of}
use Rattle.vol_laws.specs.Entered.{HasSameRest}
use Rattle.vol_laws.specs.Inserted.{inserted}
use Rattle.vol_laws.specs.Writes.{Write, store_after}
use Rattle.edit_formats.specs.declared.new_part.NewPart.{NewPart}
use Rattle.edit_formats.specs.Order.{HasStored, part_at}
use Rattle.edit_formats.specs.Placed.{HavePlaces, HasPlaced}
use Rattle.edit_formats.specs.Erasing.{HasWholeUnits}
use Rattle.edit_formats.specs.declared.target.Attributes.{Attributes}
use Rattle.edit_formats.specs.declared.target.Extent.{Extent}
use Rattle.edit_formats.specs.declared.target.Slot.{Slot}
use Rattle.edit_formats.specs.declared.target.Target.{Target}
use Rattle.edit_formats.specs.declared.target.Target.TheVariants.{At}

-- `too_long eof units`: a file of so many bytes in so many units is longer than a file can be. `parts stored` are the
-- parts of a file of which these units are stored, and `kept stored` says of each unit whether it is stored then.
-- `IsTable parts places k unit`: part k is a table, and this is its unit where the parts have these places.
--
-- `may_have path`: the last name of the path is one that a file may get. `IsTarget store path target`: the path of a
-- new file leads to this. `entry store path slot attributes extent` is the number that the entry of the file has among
-- those of the directory, and the entry, and `entering store path slot attributes extent` are the writes that enter it.
pub record SaveMeaning : Type 1 where
  pub too_long : ℕ → ℕ → Bool
  pub parts : List Bool → List NewPart
  pub kept : List Bool → List Bool
  pub IsTable : List NewPart → List ℕ → ℕ → List ℕ → Type 0
  pub may_have : List ℕ → Bool
  pub IsTarget : List (List ℕ) → List ℕ → Target → Type 0
  pub IsEntry : List (List ℕ) → List ℕ → Slot → Attributes → Extent → ℕ → Listed → Type 0
  pub entering : List (List ℕ) → List ℕ → Slot → Attributes → Extent → List Write

-- a slot of a unit of the volume
pub record IsSlotWithin (format : Meaning) (places : ℕ) (slot : Slot) : Type 0 where
  pub place : slot.place < places
  pub directory : slot.directory < places
  pub number : format.HasSlot true slot.number

abbrev pub IsTargetWithin : Meaning → ℕ → Target → Type 0
IsTargetWithin format places (At slot) = IsSlotWithin format places slot
IsTargetWithin format places target = Unit {0}

-- a slot is told only of a path whose last name a file may get
abbrev pub IsTargetOf : SaveMeaning → List ℕ → Target → Type 0
IsTargetOf saves path (At slot) = saves.may_have path ≡ true
IsTargetOf saves path target = Unit {0}

-- each table of a plan has its unit
abbrev pub HasTables : SaveMeaning → List NewPart → List ℕ → List Planned → Type 0
HasTables saves parts places planned =
    (k : ℕ) → k < length parts → (part_at parts k).kind ≢ Body → saves.IsTable parts places k (unit_of planned k)

-- a unit of the map with some marks made
pub record IsMarkedUnit (format : Meaning) (directory : Directory) (old new : List (List ℕ)) (place : ℕ) : Type 0 where
  pub marked : ℕ
  pub inside : marked < directory.places
  pub here : map_place directory marked ≡ place
  pub marks : List Mark
  pub is : unit_at new place ≡ with_marks format (unit_at old place) marks

-- Writes that are no entry's stand: each unit of the system is as it was, or it is one of the map with marks made.
pub record IsElsewhere (format : Meaning) (directory : Directory) (old new : List (List ℕ)) : Type 0 where
  pub size : length new ≡ length old
  pub system : (place : ℕ) → is_system directory place ≡ true
      → (unit_at new place ≡ unit_at old place) ⊎ IsMarkedUnit format directory old new place

-- From the first of these writes on the store has the directory with an entry more, and no unit outside the system is
-- written.
pub record IsEntering (format : Meaning) (directory : Directory) (at : ℕ) (entry : Listed) (store : List (List ℕ))
    (writes : List Write) : Type 0 where
  pub within : at ≤ entries directory
  pub enters : 0 < length writes
  pub described : (n : ℕ) → 0 < n → n ≤ length writes
      → format.Describes (store_after (take n writes) store) (inserted directory at entry)
  pub rest : (n : ℕ) → 0 < n → n ≤ length writes → HasSameRest directory store (store_after (take n writes) store)

-- The entry of the file, and its number. The writes that are made ready on one store enter it on another.
pub record HasEntering (format : Meaning) (saves : SaveMeaning) (now : Directory) (store base : List (List ℕ))
    (path : List ℕ) (slot : Slot) (attributes : Attributes) (extent : Extent) : Type 0 where
  pub at : ℕ
  pub entry : Listed
  pub is : saves.IsEntry store path slot attributes extent at entry
  pub entering : IsEntering format now at entry base (saves.entering store path slot attributes extent)

-- What saving asks of a format. `units`: its parts are the tables and the units that are stored, in rising order.
-- `built`: these at their places, the tables with their units, are what the entry leads to. `enters`: the writes that
-- are made ready on a volume enter the file, once other units are written and places are marked.
pub record IsSavable (format : Meaning) (saves : SaveMeaning) : Type 0 where
  pub units : (stored : List Bool) → saves.too_long 0 (length stored) ≡ false
      → HasStored (saves.kept stored) (saves.parts stored)
  pub some : (stored : List Bool) → saves.too_long 0 (length stored) ≡ false → 0 < length (saves.parts stored)
  pub few : (stored : List Bool) → saves.too_long 0 (length stored) ≡ false → length (saves.parts stored) < 65536
  pub countable : (eof units : ℕ) → saves.too_long eof units ≡ false → units < 65536
  pub shorter : (eof units : ℕ) → saves.too_long eof units ≡ false → saves.too_long 0 units ≡ false
  pub rising : (at : ℕ) (stored : List Bool) (places : List ℕ) (planned : List Planned)
      → saves.too_long 0 (length stored) ≡ false
      → HasPlaced at (saves.parts stored) places planned → IsRisingPlan planned
  pub built : (count at : ℕ) (store : List (List ℕ)) (path : List ℕ) (slot : Slot) (attributes : Attributes)
      (extent : Extent) (entry : Listed)
      (stored : List Bool) (places : List ℕ) (planned : List Planned) → saves.too_long 0 (length stored) ≡ false
      → HavePlaces (format.CanName count) (saves.parts stored) places → HasPlaced at (saves.parts stored) places planned
      → HasTables saves (saves.parts stored) places planned → length store ≡ count
      → saves.IsEntry store path slot attributes extent at entry → extent.units ≡ length stored
      → extent.first ≡ place_of planned 0
      → IsBuilt format count planned entry.root
  pub enters : (store base : List (List ℕ)) (directory now : Directory) (path : List ℕ) (slot : Slot)
      (attributes : Attributes) (extent : Extent)
      → format.Describes store directory → HasWholeUnits format store → saves.IsTarget store path (At slot)
      → saves.too_long attributes.eof extent.units ≡ false → ((count : ℕ) × format.CanName count extent.first)
      → length attributes.date.0 ≡ 4
      → format.Describes base now → IsElsewhere format directory store base
      → HasEntering format saves now store base path slot attributes extent
