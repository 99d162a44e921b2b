-- What is told of the stores of a replay.
use Rattle.std.specs.Prelude.{◌≡◌, ◌⊎◌, ◌↔◌, ◌≤◌, ◌<◌, ℕ, ◌+◌, true, List, length, slice_set, All, Contains}
use Rattle.a2_device.specs.declared.part.Part.{Part}
use Rattle.vol_layout.specs.Layouts.{IsTarget}
use Rattle.vol_layout.specs.Rings.{IsDeficit}
use Rattle.move_plan.specs.Planning.{LacksFreePlace}
use Rattle.vol_format.specs.Accepted.{IsAccepted, IsVolume}
use Rattle.vol_format.specs.Directory.{Directory}
use Rattle.vol_format.specs.Meaning.{Meaning}
use Rattle.vol_format.specs.Reach.{IsPartsOf}
use Rattle.vol_format.specs.Standing.{IsLost, layout_of, lost_places}
use Rattle.vol_format.specs.Layout.{HasLayout}
use Rattle.vol_check.specs.Answer.{AreFaults}
use Rattle.vol_mover.specs.Refused.{RefusesAccepted}
use Rattle.vol_mover.specs.declared.error.OpenError.{OpenError}
use Rattle.vol_mover.specs.declared.error.OpenError.TheVariants.{Check, NoFreePlace}
use Rattle.vol_mover.specs.declared.opening.Options.{Options}
use Rattle.vol_mover.specs.Begun.{TakesWrites}
use Rattle.vol_mover.specs.Steps.{MovesOne}
use Rattle.vol_mover.specs.Volume.{SameVolume}
use Rattle.event_replay.specs.Moments.{Moment, Opened}

-- each part of an accepted volume stands at its target, and no place is lost
pub record IsInOrder (format : Meaning) (store : List (List ℕ)) : Type 0 where
  pub at : List ℕ
  pub layout : HasLayout format store at
  pub target : IsTarget at
  pub none_lost : (place : ℕ) → ¬ IsLost format layout.directory store place

-- the deficit of a volume's layout
pub record HasDeficit (format : Meaning) (store : List (List ℕ)) (deficit : ℕ) : Type 0 where
  pub at : List ℕ
  pub layout : HasLayout format store at
  pub is : IsDeficit at deficit

-- a place is this one, or one of those that were lost at first
abbrev pub IsAmong : ℕ → List ℕ → ℕ → Type 0
IsAmong to first place = (place ≡ to) ⊎ Contains first place

-- One place is lost at most, or two where the map has several units. But until the first write after an opening those
-- are lost that were lost then; and where the map has several units, until its first change is whole, which takes one
-- write for each at most, those that are lost were lost then, but for one place.
abbrev pub AreFew : ℕ → Opened → ℕ → List ℕ → Type 0
AreFew units opened writes lost =
    (length lost ≤ 1)
    ⊎ ((2 ≤ units) × (length lost ≤ 2))
    ⊎ ((writes ≡ opened.writes) × (lost ≡ opened.lost))
    ⊎ ((2 ≤ units) × (writes < opened.writes + units) × (length lost ≤ length opened.lost + 1)
    × (to : ℕ) × All (IsAmong to opened.lost) lost)

-- the lost places of a store are these few
pub record HasFewLost (format : Meaning) (opened : Opened) (store : List (List ℕ)) (writes : ℕ) : Type 0 where
  pub directory : Directory
  pub described : format.Describes store directory
  pub lost : List ℕ
  pub all : (place : ℕ) → Contains lost place ↔ IsLost format directory store place
  pub few : AreFew (length directory.map_units) opened writes lost

-- The layout stays; or one part moves, by a legal move, which lowers the deficit by one, and that is a change more.
pub record ChangesLayout (format : Meaning) (old new : List (List ℕ)) (before after : ℕ) : Type 0 where
  pub from : List ℕ
  pub to : List ℕ
  pub was : HasLayout format old from
  pub is : HasLayout format new to
  pub directory : Directory
  pub described : format.Describes new directory
  pub change : ((to ≡ from) × (after ≡ before)) ⊎ (MovesOne (length directory.available) from to × (after ≡ before + 1))

-- One unit write that stands: an accepted volume, the same one, few of whose places are lost and at most one of whose
-- parts has moved.
pub record Writes (format : Meaning) (old new : Moment) : Type 0 where
  pub place : ℕ
  pub unit : List ℕ
  pub written : new.store ≡ slice_set old.store place unit
  pub only : new ≡ record old { store = new.store; writes = old.writes + 1; moves = new.moves }
  pub volume : IsVolume format new.store
  pub same : SameVolume format old.store new.store
  pub layout : ChangesLayout format old.store new.store old.moves new.moves
  pub few : HasFewLost format old.opened new.store new.writes

-- A store on which a session is opened: accepted, with a free place or in order; which of its places are lost, and how
-- many writes bring its parts home.
pub record Opens (format : Meaning) (store : List (List ℕ)) (lost : List ℕ) (writes : ℕ) : Type 0 where
  pub directory : Directory
  pub accepted : IsAccepted format directory store
  pub parts : List Part
  pub are_parts : IsPartsOf format directory store parts
  pub free : ¬ LacksFreePlace (record { at = layout_of directory parts; places = length directory.available })
  pub lost_are : lost ≡ lost_places directory parts
  pub takes : TakesWrites (length directory.map_units) (layout_of directory parts) (lost_places directory parts) writes

-- an accepted volume that has a free place or is in order
pub record HasRoom (format : Meaning) (store : List (List ℕ)) : Type 0 where
  pub directory : Directory
  pub accepted : IsAccepted format directory store
  pub parts : List Part
  pub are_parts : IsPartsOf format directory store parts
  pub free : ¬ LacksFreePlace (record { at = layout_of directory parts; places = length directory.available })

-- the owner allows that lost places are marked free
abbrev pub reclaiming : Options
reclaiming = record { reclaim = true }

-- A store on which no session is opened: it has faults, or some part is misplaced and no place is free.
abbrev pub CantOpen : {A : Type 0} → Meaning → List (List ℕ) → OpenError A → Type 0
CantOpen format store (Check list) = AreFaults format store list.faults
CantOpen format store NoFreePlace = RefusesAccepted {A = Unit {0}} format store reclaiming NoFreePlace
CantOpen format store error = ⊥
