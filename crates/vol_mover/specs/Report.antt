-- What an optimizer has done to a volume, and what it reports.
use Rattle.std.specs.Prelude.{◌≡◌, ◌⊎◌, ◌↔◌, ◌<◌, ◌≤◌, ℕ, List, [], ◌∷◌, ◌++◌, length, take, min, Contains, IsTrue}
use Rattle.a2_device.specs.Device.{DeviceState, IsSameDevice}
use Rattle.vol_layout.specs.Layouts.{IsTarget}
use Rattle.vol_layout.specs.Plans.{IsPlan, after}
use Rattle.vol_layout.specs.Rings.{IsDeficit}
use Rattle.vol_layout.specs.declared.moves.Move.{Move}
use Rattle.move_plan.specs.declared.answer.Plan.{Plan}
use Rattle.ring_cert.specs.Certificates.{certificate_of, certificate_text}
use Rattle.ring_cert.specs.Good.{IsGood}
use Rattle.vol_format.specs.Meaning.{Meaning}
use Rattle.vol_mover.specs.Opening.{IsPlanOf}
use Rattle.vol_mover.specs.declared.opening.Options.{Options}
use Rattle.vol_mover.specs.Tasks.{Course, Task, IsDone, IsFewLost, moves_of}
use Rattle.vol_mover.specs.Begun.{IsBegun, first_lost, start_of}
use Rattle.vol_mover.specs.Failing.{WorksOn, FailsStep}
use Rattle.vol_mover.specs.Open.{IsOpen}
use Rattle.vol_mover.specs.Present.{Present}
use Rattle.vol_mover.specs.Runs.{course_after_all, map_writes_of}
use Rattle.vol_mover.specs.Volume.{SameVolume}
use Rattle.vol_mover.specs.declared.progress.StepError.{StepError}
use Rattle.vol_mover.specs.declared.progress.StepError.TheVariants.{Write}
use Rattle.vol_mover.specs.declared.report.Report.{Report}

-- how far the work has come after these of its writes
abbrev pub course_of : Present → List Task → Course
course_of first made = course_after_all first.opening (start_of first) made

-- The lost places are two at most; or each is one of those that were lost at first, but for one more.
abbrev pub AreFewLost : List ℕ → List ℕ → Type 0
AreFewLost first lost = (length lost ≤ 2)
    ⊎ ((more : ℕ) × ((place : ℕ) → Contains lost place → (place ≡ more) ⊎ Contains first place))

-- The volume was opened, and of the writes of its work these stand. Of an honest device: what stands is what the course
-- says, and the volume is the same. Few places are lost, and the parts have made the moves whose pointers were written.
pub record IsWorked (format : Meaning) (options : Options) (old new : DeviceState) (first : Present)
    (made left : List Task) : Type 0 where
  pub begun : IsBegun format options old first
  pub tasks : first.tasks ≡ made ++ left
  pub device : IsSameDevice old new
  pub stands : IsTrue old.honest → IsOpen format first.opening new.store first.parts (course_of first made)
  pub same : IsTrue old.honest → SameVolume format old.store new.store
  pub few : IsFewLost (length first.opening.map_units) first.lost_at_first (course_of first made) left
  pub lost : AreFewLost (first_lost first) (course_of first made).lost
  pub layout : (course_of first made).at ≡ after first.at (moves_of made)

-- The report of the work up to so many writes, of which each stands, and under which nothing has failed: the
-- certificate of a shortest plan for the layout at first, which is good, the numbers of its rings and misplaced parts,
-- the moves and the writes of the map that were made, and whether all is done.
pub record IsReported {A : Type 0} (format : Meaning) (options : Options) (limit : ℕ) (old new : DeviceState)
    (report : Report A) : Type 0 where
  pub first : Present
  pub made : List Task
  pub left : List Task
  pub worked : IsWorked format options old new first made left
  pub plan : Plan A
  pub planned : IsPlanOf (record { at = first.at; places = first.places }) plan
  pub plan_moves : moves_of first.tasks ≡ plan.moves.items
  pub cert : report.cert.items
      ≡ certificate_text (certificate_of (record { at = first.at; places = first.places }) plan.misplaced.items
      plan.rings.items plan.moves.items)
  pub good : IsGood (record { at = first.at; places = first.places })
      (certificate_of (record { at = first.at; places = first.places }) plan.misplaced.items
      plan.rings.items plan.moves.items)
  pub shortest : (other : List Move) → IsPlan first.at first.places other → IsTarget (after first.at other)
      → length plan.moves.items ≤ length other
  pub rings : report.rings ≡ length plan.rings.items
  pub misplaced : report.misplaced ≡ length plan.misplaced.items
  pub count : length made ≡ min limit (length first.tasks)
  pub works : WorksOn old new (length made)
  pub moves : report.moves ≡ length (moves_of made)
  pub map_writes : report.map_writes ≡ map_writes_of made
  pub layout : (course_of first made).at ≡ after first.at (take report.moves plan.moves.items)
  pub finished : IsTrue report.finished ↔ (length first.tasks ≤ limit)
  pub done : IsTrue report.finished → IsDone (course_of first made) × IsDeficit first.at report.moves

-- The work that one failure of the device has stopped. Some writes were made, fewer than the limit, and nothing has
-- failed under them; then a step failed, and it was the last call. The writes that stand are these, and one more where
-- a write failed whose unit stands.
pub record IsStopped (format : Meaning) (options : Options) (limit : ℕ) (old new : DeviceState)
    (error : StepError) : Type 0 where
  pub first : Present
  pub before : List Task
  pub mid : DeviceState
  pub works : WorksOn old mid (length before)
  pub within : length before < limit
  pub fails : FailsStep format first (course_of first before) error mid new
  pub made : List Task
  pub left : List Task
  pub worked : IsWorked format options old new first made left
  pub stands : (made ≡ before) ⊎ ((error ≡ Write) × (task : Task) × (made ≡ before ++ task ∷ []))
