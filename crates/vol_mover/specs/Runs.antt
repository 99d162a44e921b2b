-- Steps one after the other.
use Rattle.std.specs.Prelude.{◌≡◌, ◌⊎◌, ◌<◌, ◌≤◌, ℕ, ◌+◌, false, List, [], ◌∷◌, ◌++◌, length, Result, Ok, Err, IsTrue}
use Rattle.vol_format.specs.Directory.{Directory}
use Rattle.vol_format.specs.Meaning.{Meaning}
use Rattle.vol_mover.specs.Tasks.{Course, Task, Map, course_after}
use Rattle.vol_mover.specs.Failing.{WorksOn}
use Rattle.vol_mover.specs.Present.{Present, IsSession}
use Rattle.vol_mover.specs.Steps.{IsStep}
use Rattle.vol_mover.specs.Volume.{SameVolume}
use Rattle.vol_mover.specs.declared.progress.StepError.{StepError}

-- the course after some writes
abbrev pub course_after_all : Directory → Course → List Task → Course
course_after_all directory course [] = course
course_after_all directory course (task ∷ tasks) = course_after_all directory (course_after directory course task) tasks

-- how many of some writes are of the map
abbrev pub map_writes_of : List Task → ℕ
map_writes_of [] = 0
map_writes_of (Map at marks ∷ tasks) = map_writes_of tasks + 1
map_writes_of (task ∷ tasks) = map_writes_of tasks

-- A session that has made these of its writes: the others are left, the course is the one after them, and nothing of
-- the device has failed; and of an honest device, the volume is the same.
pub record IsRun (format : Meaning) (old new : Present) (made : List Task) : Type 0 where
  pub works : WorksOn old.device new.device (length made)
  pub tasks : old.tasks ≡ made ++ new.tasks
  pub only : new ≡ record old {
    device = new.device;
    at = new.at;
    tasks = new.tasks;
    map_writes = new.map_writes;
    moves = new.moves;
    unit = new.unit;
  }
  pub map_writes : new.map_writes ≡ old.map_writes + map_writes_of made
  pub session : (course : Course) → IsSession format old course
      → IsSession format new (course_after_all old.opening course made)
  pub same : IsTrue old.device.honest → old.closed ≡ false → (course : Course) → IsSession format old course
      → SameVolume format old.device.store new.device.store

-- Up to so many writes: as many, or all that were left; or fewer, and then a step that answered an error.
abbrev pub RunsTo : {T : Type 0} → Meaning → ℕ → Present → Present → Result T StepError → Type 0
RunsTo format limit old new (Ok done) =
    (made : List Task) × IsRun format old new made × (length made ≤ limit) × ((length made ≡ limit) ⊎ (new.tasks ≡ []))
RunsTo format limit old new (Err error) =
    (made : List Task) × (mid : Present) × IsRun format old mid made × (length made < limit)
    × IsStep format mid new (Err error)
