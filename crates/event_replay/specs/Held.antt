-- What a replay holds at a moment of its run.
use Rattle.std.specs.Prelude.{◌≡◌, ◌⊎◌, ◌≤◌, ℕ, ◌+◌, Bool, true, false, List, [], ◌∷◌, length, take, All, Option, Some, None}
use Rattle.a2_device.specs.Device.{DeviceState, last_count}
use Rattle.vol_format.specs.Accepted.{IsVolume}
use Rattle.vol_format.specs.Meaning.{Meaning}
use Rattle.vol_laws.specs.declared.mark.Mark.{Mark}
use Rattle.vol_mover.specs.Tasks.{ChangesMap, Course, Task, Map}
use Rattle.vol_mover.specs.Present.{Present, IsSession}
use Rattle.event_replay.specs.Holds.{Holds, ASession, ADevice, device_of}
use Rattle.event_replay.specs.Moments.{Moment, Opened, SessionState, Open, Closed, Absent, first_moment}
use Rattle.event_replay.specs.Orders.{MeetsOrders}
use Rattle.event_replay.specs.Runs.{Begins, IsRun, last_of}
use Rattle.event_replay.specs.Volumes.{IsAmong}
use Rattle.event_replay.specs.declared.event.Answer.{Answer}
use Rattle.event_replay.specs.declared.event.Event.{Event}
use Rattle.file_formats.specs.Files.{FileMeaning}

-- how many reads are to fail, and which writes
abbrev pub count_of : Bool → ℕ
count_of true = 1
count_of false = 0

abbrev pub orders_of : Option Bool → List Bool
orders_of None = []
orders_of (Some took) = took ∷ []

-- A device with these failures to come, which it meets in time, and this store, of whose writes so many stand more than
-- at first, and that can count so many more.
pub record IsDeviceAt (base left : ℕ) (device : DeviceState) (fails_read : Bool) (fails_write : Option Bool)
    (store : List (List ℕ)) (writes : ℕ) : Type 0 where
  pub honest : device.honest ≡ true
  pub readable : device.unreadable ≡ []
  pub reads : device.read_failures ≡ Some (count_of fails_read)
  pub orders : device.write_failures ≡ Some (orders_of fails_write)
  pub meets : MeetsOrders device
  pub stands : device.store ≡ store
  pub standing : device.standing ≡ base + writes
  pub room : device.writes + left ≤ last_count

-- how far the work of a session has come since it was opened
pub record HasCome (session : Present) (course : Course) (opened : Opened) (writes moves : ℕ) : Type 0 where
  pub writes_are : writes ≡ opened.writes + course.writes
  pub moves_are : moves ≡ opened.moves + course.moves
  pub lost : session.lost_at_first ≡ length opened.lost

-- how many writes of the map come next
abbrev pub map_writes : List Task → ℕ
map_writes (Map at marks ∷ tasks) = map_writes tasks + 1
map_writes tasks = 0

-- a mark is made of no place but this one, or takes one away
abbrev pub OnlyMarks : ℕ → Mark → Type 0
OnlyMarks to mark = (mark.free ≡ true) ⊎ (mark.place ≡ to)

-- so are all marks of the writes of the map that come next
abbrev pub MarksOnly : ℕ → List Task → Type 0
MarksOnly to (Map at marks ∷ tasks) = All (OnlyMarks to) marks × MarksOnly to tasks
MarksOnly to tasks = Unit {0}

-- In the first change of the map no more writes come than it has units. They mark one place used at most; and that is
-- the one place that is lost now and was not at first.
pub record InFirstChange (units : ℕ) (first : List ℕ) (to : ℕ) (course : Course) (tasks : List Task) : Type 0 where
  pub count : course.writes + map_writes tasks ≤ units
  pub marks : MarksOnly to tasks
  pub lost : All (IsAmong to first) course.lost

abbrev pub BeginsWork : ℕ → List ℕ → ℕ → Course → List Task → Type 0
BeginsWork units first to course tasks =
    course.moves ≡ 0 → course.copied ≡ None → ChangesMap tasks → InFirstChange units first to course tasks

-- what is lost in the first change of the map, and before
pub record HasBegun (units : ℕ) (first : List ℕ) (course : Course) (tasks : List Task) : Type 0 where
  pub none_made : course.writes ≡ 0 → course.lost ≡ first
  pub to : ℕ
  pub begins : BeginsWork units first to course tasks

-- an open session, whose work has come this far
pub record IsOpenAt (format : Meaning) (session : Present) (state : SessionState) (opened : Opened)
    (writes moves : ℕ) : Type 0 where
  pub not_closed : session.closed ≡ false
  pub left : state ≡ Open (length session.tasks)
  pub course : Course
  pub is : IsSession format session course
  pub come : HasCome session course opened writes moves
  pub begun : HasBegun (length session.opening.map_units) opened.lost course session.tasks

-- a session, open or closed, or none
abbrev pub IsHeldAt : Meaning → Holds → SessionState → List (List ℕ) → Opened → ℕ → ℕ → Type 0
IsHeldAt format (ASession session) state store opened writes moves =
    IsVolume format store × (IsOpenAt format session state opened writes moves
    ⊎ ((session.closed ≡ true) × (state ≡ Closed)))
IsHeldAt format (ADevice device) state store opened writes moves = state ≡ Absent

-- What is held is what the moment says, over a device of which so many writes more stand than at first, and that can
-- count so many more.
abbrev pub IsAt : Meaning → ℕ → ℕ → Holds → Moment → Type 0
IsAt format base left held now =
    IsDeviceAt base left (device_of held) now.fails_read now.fails_write now.store now.writes
    × IsHeldAt format held now.session now.store now.opened now.writes now.moves

-- a run from a moment, over events that were answered, to what is held then
pub record HasRun {A : Type 0} (format : Meaning) (files : FileMeaning) (base left : ℕ) (first : Moment)
    (events : List Event) (answers : List (Answer A)) (held : Holds) : Type 0 where
  pub run : List Moment
  pub is_run : IsRun format files first events answers run
  pub at : IsAt format base left held (last_of first run)

-- A run from a moment to a device.
pub record RanTo {A : Type 0} (format : Meaning) (files : FileMeaning) (base : ℕ) (first : Moment) (events : List Event)
    (answers : List (Answer A)) (device : DeviceState) : Type 0 where
  pub run : List Moment
  pub is_run : IsRun format files first (take (length answers) events) answers run
  pub honest : device.honest ≡ true
  pub store : device.store ≡ (last_of first run).store
  pub standing : device.standing ≡ base + (last_of first run).writes

-- A run from the first moment on a store to a device; or there was no memory for the first opening.
pub record RanFrom {A : Type 0} (format : Meaning) (files : FileMeaning) (base : ℕ) (store : List (List ℕ))
    (events : List Event) (answers : List (Answer A)) (device : DeviceState) : Type 0 where
  pub first : Moment
  pub begins : Begins A format store first ⊎ ((answers ≡ []) × (first ≡ first_moment store Absent []))
  pub ran : RanTo format files base first events answers device
