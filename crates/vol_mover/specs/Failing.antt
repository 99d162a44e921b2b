-- What the device of an optimizer goes through: reads, writes that stand, and one failure at most.
use Rattle.std.specs.Prelude.{◌≡◌, ◌≤◌, ℕ, ◌+◌, ◌-◌, true, List, [], slice_set, Option, Some, None, IsTrue}
use Rattle.a2_device.specs.Device.{DeviceState, IsSameDevice, OnlyReads, counted, last_count}
use Rattle.vol_format.specs.Meaning.{Meaning}
use Rattle.vol_mover.specs.Tasks.{Course, Task, course_after}
use Rattle.vol_mover.specs.Open.{IsOpen}
use Rattle.vol_mover.specs.Present.{Present}
use Rattle.vol_mover.specs.Steps.{RefusesWrite}
use Rattle.vol_mover.specs.declared.progress.StepError.{StepError}
use Rattle.vol_mover.specs.declared.progress.StepError.TheVariants.{Closed, Read, Write}

-- the writes that will still be passed on, after so many
abbrev pub fewer : Option ℕ → ℕ → Option ℕ
fewer None n = None
fewer (Some most) n = Some (most - n)

-- Reads that all came, and so many writes that all stand. Of every device: no refusal was counted. Of an honest one:
-- each of these writes was counted and stands, no other was, and each failure that was to come is still to come.
pub record WorksOn (old new : DeviceState) (writes : ℕ) : Type 0 where
  pub device : IsSameDevice old new
  pub faults : new.faults ≡ old.faults
  pub counted : IsTrue old.honest → new.writes ≡ old.writes + writes
  pub standing : IsTrue old.honest → new.standing ≡ old.standing + writes
  pub read_failures : IsTrue old.honest → new.read_failures ≡ old.read_failures
  pub write_failures : IsTrue old.honest → new.write_failures ≡ old.write_failures
  pub passes : IsTrue old.honest → new.passes ≡ fewer old.passes writes

-- The write that failed: of a unit that, at this place, makes the next of the writes left.
pub record FailsNextWrite (format : Meaning) (first : Present) (course : Course) (old new : DeviceState) : Type 0 where
  pub task : Task
  pub place : ℕ
  pub unit : List ℕ
  pub next : IsOpen format first.opening (slice_set old.store place unit) first.parts
      (course_after first.opening course task)
  pub refused : RefusesWrite place unit old new

-- How a step failed: a read did, and nothing was written in it; or the write did. One refusal was counted, and no other
-- call was made after it.
abbrev pub FailsStep : Meaning → Present → Course → StepError → DeviceState → DeviceState → Type 0
FailsStep format first course Read old new = OnlyReads true old new
FailsStep format first course Write old new =
    (new.faults ≡ counted old.faults) × (IsTrue old.honest → FailsNextWrite format first course old new)
FailsStep format first course Closed old new = ⊥

-- A device of which nothing can fail: each place can be read, no failure is to come, each write is passed on, and the
-- count of writes is far from its last value.
pub record CannotFail (device : DeviceState) : Type 0 where
  pub honest : IsTrue device.honest
  pub readable : device.unreadable ≡ []
  pub reads : device.read_failures ≡ Some 0
  pub writes : device.write_failures ≡ Some []
  pub passes : device.passes ≡ None
  pub room : device.writes + 4294967296 ≤ last_count
