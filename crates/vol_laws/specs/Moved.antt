-- A part that moves by one write to the pointer that names it.
use Rattle.std.specs.Prelude.{◌≡◌, ◌<◌, ◌==◌, ℕ, false, if◌then◌else◌, List, length, Contains, slice_set}
use Rattle.a2_device.specs.Device.{unit_at}
use Rattle.a2_device.specs.declared.part.Part.{Part}
use Rattle.vol_format.specs.Accepted.{IsAccepted}
use Rattle.vol_format.specs.Directory.{Directory, is_free, turned, IsSameFrame}
use Rattle.vol_format.specs.Holding.{IsHolder, with_slot}
use Rattle.vol_format.specs.Meaning.{Meaning}
use Rattle.vol_format.specs.Reach.{Reach, SameContents}
use Rattle.vol_format.specs.Standing.{at_place}
use Rattle.vol_format.specs.declared.link.Holder.{Holder}
use Rattle.vol_format.specs.declared.link.Link.TheVariants.{To}
use Rattle.vol_laws.specs.Kept.{IsUnreached}

-- where a part stands once this one has moved to the place
abbrev pub moved : Part → ℕ → Part → Part
moved part place other = if other.place == part.place then at_place other place else other

-- A part can move by one write: the pointer to it stands at the holder, in a whole unit of the volume, and the place is
-- available, marked used and no part's, and has a copy of the part's unit.
pub record IsReady (format : Meaning) (directory : Directory) (store : List (List ℕ)) (part : Part) (holder : Holder)
    (place : ℕ) : Type 0 where
  pub held : IsHolder format directory store part holder
  pub inside : holder.place < length store
  pub whole : length (unit_at store holder.place) ≡ format.unit_size
  pub available : Contains directory.available place
  pub marked : is_free directory place ≡ false
  pub unreached : IsUnreached format directory store place
  pub copied : unit_at store place ≡ unit_at store part.place

-- the store with the pointer there naming the place, and its directory: another where the pointer is an entry's
abbrev pub pointed_store : Meaning → List (List ℕ) → Holder → ℕ → List (List ℕ)
pointed_store format store holder place =
    slice_set store holder.place (with_slot format (unit_at store holder.place) holder place)

abbrev pub pointed : Directory → Part → Holder → ℕ → Directory
pointed directory part holder place =
    if holder.entry then turned directory part.file (To (at_place part place)) else directory

-- The volume is accepted; its files have the same parts with the same contents, each where it stood but for the one
-- that has moved; and the marks are the same.
pub record HasMoved (format : Meaning) (before after : Directory) (part : Part) (place : ℕ)
    (old new : List (List ℕ)) : Type 0 where
  pub frame : IsSameFrame before after
  pub free : after.free ≡ before.free
  pub accepted : IsAccepted format after new
  pub keeps : (other : Part) → Reach format before old other → Reach format after new (moved part place other)
  pub adds_none : (now : Part) → Reach format after new now
      → (other : Part) × Reach format before old other × (now ≡ moved part place other)
  pub contents : SameContents format before after old new
