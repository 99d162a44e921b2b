-- What a step of a session does.
use Rattle.std.specs.Prelude.{◌≡◌, ◌⊎◌, ◌↔◌, ◌≤◌, ◌<◌, ℕ, ◌+◌, Bool, true, false, if◌then◌else◌, List, [], ◌∷◌, length, slice_set, Result, Ok, Err, IfOk, IsErr, is_err, IsTrue}
use Rattle.a2_device.specs.Device.{DeviceState, IsSameDevice, OnlyReads, FailsWrite, last_count, counted, written}
use Rattle.vol_layout.specs.Plans.{IsLegal, moved}
use Rattle.vol_layout.specs.Rings.{IsDeficit}
use Rattle.vol_layout.specs.declared.moves.Move.{Move}
use Rattle.vol_format.specs.Meaning.{Meaning}
use Rattle.vol_mover.specs.Tasks.{Course, Task, Map as MapTask, Copy as CopyTask, Pointer as PointerTask, course_after, IsDone, IsFewLost}
use Rattle.vol_mover.specs.Open.{IsOpen}
use Rattle.vol_mover.specs.Present.{Present, IsSession}
use Rattle.vol_mover.specs.Volume.{SameVolume}
use Rattle.vol_mover.specs.declared.progress.Progress.{Progress}
use Rattle.vol_mover.specs.declared.progress.Progress.TheVariants.{Wrote as HasWritten, Done}
use Rattle.vol_mover.specs.declared.progress.Wrote.{Wrote}
use Rattle.vol_mover.specs.declared.progress.Wrote.TheVariants.{Map, Copy, Pointer}
use Rattle.vol_mover.specs.declared.progress.StepError.{StepError}
use Rattle.vol_mover.specs.declared.progress.StepError.TheVariants.{Closed, Read, Write}

-- This unit, written at this place, makes the first of the writes left: what then stands is what the next course says,
-- and the volume is the same.
pub record IsNextWrite (format : Meaning) (old : Present) (course : Course) (place : ℕ) (unit : List ℕ) : Type 0 where
  pub task : Task
  pub rest : List Task
  pub first : old.tasks ≡ task ∷ rest
  pub is_open : IsOpen format old.opening (slice_set old.device.store place unit) old.parts
      (course_after old.opening course task)
  pub same : SameVolume format old.device.store (slice_set old.device.store place unit)

-- which kind of write a task is
abbrev pub kind_of : Task → Wrote
kind_of (MapTask at marks) = Map
kind_of (CopyTask move) = Copy
kind_of (PointerTask move) = Pointer

-- a session once this first of its writes is made, its device and its bytes aside
abbrev pub advanced : Present → Task → List Task → Present
advanced old (MapTask at marks) rest = record old { tasks = rest; map_writes = old.map_writes + 1 }
advanced old (CopyTask move) rest = record old { tasks = rest }
advanced old (PointerTask move) rest = record old { tasks = rest; at = moved old.at move; moves = old.moves + 1 }

-- What a session is after a step, by what the step answers: one write further, on the next course; closed; or as far as
-- before.
abbrev pub StepsTo : Meaning → Result Progress StepError → Present → Present → Course → Type 0
StepsTo format (Ok (HasWritten kind)) old new course =
    (task : Task) × (rest : List Task) × (old.tasks ≡ task ∷ rest) × (kind ≡ kind_of task)
    × (new ≡ record (advanced old task rest) { device = new.device; unit = new.unit })
    × IsSession format new (course_after old.opening course task)
StepsTo format (Err Write) old new course =
    (new ≡ record old { device = new.device; unit = new.unit; closed = true }) × IsSession format new course
StepsTo format result old new course =
    (new ≡ record old { device = new.device; unit = new.unit }) × IsSession format new course

-- one part has moved, by a legal move, which lowers the deficit by one
pub record MovesOne (places : ℕ) (before now : List ℕ) : Type 0 where
  pub move : Move
  pub deficit : ℕ
  pub legal : IsLegal before places move
  pub is : now ≡ moved before move
  pub before_it : IsDeficit before (deficit + 1)
  pub after_it : IsDeficit now deficit

-- the layout after a step: a pointer moves one part, and nothing else moves any
abbrev pub StepsLayout : Result Progress StepError → ℕ → List ℕ → List ℕ → Type 0
StepsLayout (Ok (HasWritten Pointer)) places before now = MovesOne places before now
StepsLayout result places before now = now ≡ before

-- What a store is after a step, whatever the step answers: it stands as the course says, or as the next one does; it
-- has the same volume; few places are lost; and one part has moved at most.
pub record Leaves (format : Meaning) (old : Present) (course : Course) (store : List (List ℕ)) : Type 0 where
  pub now : Course
  pub tasks : List Task
  pub reached : ((now ≡ course) × (tasks ≡ old.tasks))
      ⊎ ((task : Task) × (old.tasks ≡ task ∷ tasks) × (now ≡ course_after old.opening course task))
  pub is_open : IsOpen format old.opening store old.parts now
  pub same : SameVolume format old.device.store store
  pub few : IsFewLost (length old.opening.map_units) old.lost_at_first now tasks
  pub layout : (now.at ≡ course.at) ⊎ MovesOne old.places course.at now.at

-- the count of writes after a step
abbrev pub StepsWrites : Result Progress StepError → ℕ → ℕ → Type 0
StepsWrites (Ok (HasWritten kind)) old new = new ≡ old + 1
StepsWrites (Err Write) old new = new ≤ old + 1
StepsWrites result old new = new ≡ old

-- a write that was refused: the count of writes stands at its last value, or the write failed, and the old unit or the
-- new one stands
abbrev pub RefusesWrite : ℕ → List ℕ → DeviceState → DeviceState → Type 0
RefusesWrite place unit old new =
    ((old.writes ≡ last_count) × (new ≡ record old { faults = counted old.faults })) ⊎ FailsWrite place unit old new

-- whether a step answers a failure of the device
abbrev pub tells_failure : Result Progress StepError → Bool
tells_failure (Err Read) = true
tells_failure (Err Write) = true
tells_failure result = false

-- A unit was read and changed to what the next write needs, and this is the place to which it goes; or the read failed.
pub record Prepares (format : Meaning) (old new : Present) (result : Result ℕ StepError) : Type 0 where
  pub only : new ≡ record old { device = new.device; unit = new.unit }
  pub size : length new.unit ≡ length old.unit
  pub reads : OnlyReads (is_err result) old.device new.device
  pub error : IsErr result → result ≡ Err Read
  pub inside : IfOk result (λ place. place < old.device.places)
  pub write : IsTrue old.device.honest → old.closed ≡ false → (course : Course) → IsSession format old course
      → IfOk result (λ place. IsNextWrite format old course place new.unit)

-- a session whose work is done: each part stands at its target, and no place is lost
abbrev pub HasFinished : Meaning → Present → Type 0
HasFinished format present = (course : Course) × IsSession format present course × IsDone course

-- What a step does, and what it answers when.
pub record IsStep (format : Meaning) (old new : Present) (result : Result Progress StepError) : Type 0 where
  -- every device
  pub device : IsSameDevice old.device new.device
  pub faults : new.device.faults ≡ (if tells_failure result then counted old.device.faults else old.device.faults)
  pub closed : (result ≡ Err Closed) ↔ (old.closed ≡ true)
  pub done : (result ≡ Ok Done) ↔ ((old.closed ≡ false) × (old.tasks ≡ []))
  pub still : (result ≡ Err Closed) ⊎ (result ≡ Ok Done) → new ≡ old
  pub all_done : result ≡ Ok Done → (course : Course) → IsSession format old course → IsDone course
  pub read : result ≡ Err Read → OnlyReads true old.device new.device
  pub goes_on : (course : Course) → IsSession format old course → StepsTo format result old new course
  pub layout : StepsLayout result old.places old.at new.at
  -- an honest device
  pub wrote : IsTrue old.device.honest → (kind : Wrote) → result ≡ Ok (HasWritten kind) → (course : Course)
      → IsSession format old course
      → (place : ℕ) × (unit : List ℕ) × IsNextWrite format old course place unit
      × (new.device ≡ written place unit old.device)
  pub refused : IsTrue old.device.honest → result ≡ Err Write → (course : Course) → IsSession format old course
      → (place : ℕ) × (unit : List ℕ) × IsNextWrite format old course place unit
      × RefusesWrite place unit old.device new.device
  pub leaves : IsTrue old.device.honest → old.closed ≡ false → (course : Course) → IsSession format old course
      → Leaves format old course new.device.store
  pub writes : IsTrue old.device.honest → StepsWrites result old.device.writes new.device.writes
