-- A session that was opened and has made nothing yet.
use Rattle.std.specs.Prelude.{◌≡◌, ◌≢◌, ◌⊎◌, ◌≤◌, ℕ, ◌+◌, ◌*◌, true, false, List, [], length, max, IsTrue}
use Rattle.a2_device.specs.Device.{DeviceState, OnlyReads}
use Rattle.vol_layout.specs.Layouts.{misplaced, holes}
use Rattle.vol_layout.specs.Rings.{IsDeficit}
use Rattle.move_plan.specs.Planning.{LacksFreePlace}
use Rattle.vol_format.specs.Accepted.{IsAccepted}
use Rattle.vol_format.specs.Meaning.{Meaning}
use Rattle.vol_format.specs.Reach.{IsPartsOf}
use Rattle.vol_format.specs.Standing.{layout_of, lost_places}
use Rattle.vol_mover.specs.declared.opening.Options.{Options}
use Rattle.vol_mover.specs.Tasks.{Course, at_first, moves_of}
use Rattle.vol_mover.specs.Writes.{writes_of}
use Rattle.vol_mover.specs.Present.{Present, IsSession}

-- How many writes bring the parts of a layout home and mark the lost places free. Where some part is misplaced: two a
-- move, one before each hole run, or before the rings where there is no hole, and one at the end; where the map has
-- several units, at most two for one there, and for the first at most one a unit. Where none is: at most one a unit of
-- the map, and none where no place is lost.
pub record TakesWrites (units : ℕ) (at lost : List ℕ) (writes : ℕ) : Type 0 where
  pub one_unit : units ≡ 1 → misplaced at ≢ [] → (deficit : ℕ) → IsDeficit at deficit
      → writes ≡ 2 * deficit + max (length (holes at)) 1 + 1
  pub least : misplaced at ≢ [] → (deficit : ℕ) → IsDeficit at deficit
      → 2 * deficit + max (length (holes at)) 1 + 1 ≤ writes
  pub most : 2 ≤ units → misplaced at ≢ [] → (deficit : ℕ) → IsDeficit at deficit
      → writes + 1 ≤ 2 * deficit + 2 * max (length (holes at)) 1 + units
  pub in_place : misplaced at ≡ [] → writes ≤ units
  pub some_lost : misplaced at ≡ [] → lost ≢ [] → 1 ≤ writes
  pub none_lost : misplaced at ≡ [] → lost ≡ [] → writes ≡ 0

-- the lost places of a session that has made nothing yet
abbrev pub first_lost : Present → List ℕ
first_lost present = lost_places present.opening present.parts

-- where its work starts
abbrev pub start_of : Present → Course
start_of present = at_first present.at (first_lost present)

-- Of every device: nothing was written, and the session stands at the start of its work, which is the list of the
-- writes of its plan, which the owner has allowed and for which there is a free place. Of an honest one: its directory
-- and its parts are those of the store, which is accepted.
pub record IsBegun (format : Meaning) (options : Options) (device : DeviceState) (present : Present) : Type 0 where
  pub reads : OnlyReads false device present.device
  pub session : IsSession format present (start_of present)
  pub opened : present.closed ≡ false
  pub layout : present.at ≡ layout_of present.opening present.parts
  pub lost : present.lost_at_first ≡ length (first_lost present)
  pub tasks : present.tasks ≡ writes_of present.opening present.at (first_lost present) (moves_of present.tasks)
  pub writes : TakesWrites (length present.opening.map_units) present.at (first_lost present) (length present.tasks)
  pub allowed : (options.reclaim ≡ true) ⊎ (first_lost present ≡ [])
  pub free : ¬ LacksFreePlace (record { at = present.at; places = present.places })
  pub accepted : IsTrue device.honest → IsAccepted format present.opening device.store
  pub parts : IsTrue device.honest → IsPartsOf format present.opening device.store present.parts
