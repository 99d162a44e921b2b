-- The runs of a replay: what each event does, what it answers, and what holds from the first moment to the last.
use Rattle.std.specs.Prelude.{◌≡◌, ◌⊎◌, ◌≤◌, ℕ, ◌+◌, true, false, List, [], ◌∷◌, length, take, All, None, Some, slice_get}
use Rattle.std.specs.List.{AllZip}
use Rattle.a2_device.specs.Device.{DeviceState, last_count}
use Rattle.vol_format.specs.Meaning.{Meaning}
use Rattle.vol_format.specs.Files.{File, HasFiles}
use Rattle.vol_mover.specs.declared.error.OpenError.{OpenError}
use Rattle.vol_mover.specs.Volume.{SameVolume}
use Rattle.file_cmds.specs.FileList.{IsTextOfFirst}
use Rattle.file_formats.specs.FileNames.{GivenPath}
use Rattle.file_formats.specs.Files.{FileMeaning}
use Rattle.file_cmds.specs.Read.{IsTextAt, HasNoFile}
use Rattle.event_replay.specs.Moments.{FailsNothing, HasSession, IsNotOpen, Moment, Open, Closed, Absent, first_moment}
use Rattle.event_replay.specs.Volumes.{CantOpen, HasDeficit, HasFewLost, HasRoom, IsInOrder, Opens, Writes}
use Rattle.event_replay.specs.declared.event.Answer.{Answer}
use Rattle.event_replay.specs.declared.event.Answer.TheVariants.{Stepped, Bytes, Refused, NoMemory}
use Rattle.event_replay.specs.declared.event.Event.{Event}
use Rattle.event_replay.specs.declared.event.Event.TheVariants.{Step, Read, FailRead, FailWrite, Stop}

-- A step of an open session with a write left meets an order to fail a read. Where there is none, it meets an order to
-- fail a write, which closes the session; and where there is none of either, it makes one unit write. Or nothing is
-- left to write, each part stands at its target and no place is lost. Without an open session a step is refused. A step
-- that has nothing to write, or no open session to write it, leaves each order.
pub data Steps {A : Type 0} (format : Meaning) (old : Moment) : Answer A → Moment → Type 0 where
  wrote : (left : ℕ) (new : Moment) → old.session ≡ Open (left + 1) → old.fails_read ≡ false → old.fails_write ≡ None
      → Writes format old new → Steps format old Stepped (record new { session = Open left })
  read_failed : (left : ℕ) → old.session ≡ Open (left + 1) → old.fails_read ≡ true
      → Steps format old Refused (record old { fails_read = false })
  write_failed : (left : ℕ) → old.session ≡ Open (left + 1) → old.fails_read ≡ false → old.fails_write ≡ Some false
      → Steps format old Refused (record old { session = Closed; fails_write = None })
  write_failed_and_stands : (left : ℕ) (new : Moment) → old.session ≡ Open (left + 1) → old.fails_read ≡ false
      → old.fails_write ≡ Some true → Writes format old new
      → Steps format old Refused (record new { session = Closed; fails_write = None })
  nothing_left : old.session ≡ Open 0 → IsInOrder format old.store → Steps format old Stepped old
  not_open : IsNotOpen old.session → Steps format old Refused old

-- the answer gives this text
abbrev pub Gives : {A : Type 0} → Answer A → List ℕ → Type 0
Gives (Bytes bytes) text = bytes.items ≡ text
Gives answer text = ⊥

-- While there is a session, a read meets an order to fail one. Where there is none, it gives the body of the first file
-- that the path names, or no file has the path. Or there is no memory. Without a session it is refused, and the order
-- stays.
pub data Reads {A : Type 0} (format : Meaning) (files : FileMeaning) (path : List ℕ) (old : Moment) : Answer A → Moment
    → Type 0 where
  gave : (answer : Answer A) (text : List ℕ) → HasSession old.session → old.fails_read ≡ false → Gives answer text
      → IsTextAt format files old.store (GivenPath path) false text → Reads format files path old answer old
  no_file : HasSession old.session → old.fails_read ≡ false → HasNoFile format files old.store (GivenPath path)
      → Reads format files path old Refused old
  failed : HasSession old.session → old.fails_read ≡ true
      → Reads format files path old Refused (record old { fails_read = false })
  no_memory : HasSession old.session → Reads format files path old NoMemory old
  no_session : old.session ≡ Absent → Reads format files path old Refused old

-- A stop meets an order to fail a read, and then there is no session. Where there is no such order, a session is opened
-- anew on the same store; or the volume can't be opened, and then there is none.
pub data Stops {A : Type 0} (format : Meaning) (old : Moment) : Answer A → Moment → Type 0 where
  opened : (lost : List ℕ) (writes : ℕ) → old.fails_read ≡ false → Opens format old.store lost writes
      → Stops format old Stepped (record old {
        session = Open writes;
        opened = record { lost = lost; writes = old.writes; moves = old.moves };
      })
  failed : old.fails_read ≡ true → Stops format old Refused (record old { session = Absent; fails_read = false })
  refused : (error : OpenError A) → old.fails_read ≡ false → CantOpen format old.store error
      → Stops format old Refused (record old { session = Absent })

-- what an event does, and what is answered
abbrev pub IsTurn : {A : Type 0} → Meaning → FileMeaning → Moment → Event → Answer A → Moment → Type 0
IsTurn format files old Step answer new = Steps format old answer new
IsTurn format files old (Read path) answer new = Reads format files path.now old answer new
IsTurn format files old FailRead answer new = (answer ≡ Stepped) × (new ≡ record old { fails_read = true })
IsTurn format files old (FailWrite took) answer new =
    (answer ≡ Stepped) × (new ≡ record old { fails_write = Some took })
IsTurn format files old Stop answer new = Stops format old answer new

-- A run: from a moment, event by event, to the moments of the list, with these answers.
abbrev pub IsRun : {A : Type 0} → Meaning → FileMeaning → Moment → List Event → List (Answer A) → List Moment → Type 0
IsRun format files old [] [] [] = Unit {0}
IsRun format files old (event ∷ events) (answer ∷ answers) (new ∷ run) =
    IsTurn format files old event answer new × IsRun format files new events answers run
IsRun format files old events answers run = ⊥

-- the last moment of a run
abbrev pub last_of : Moment → List Moment → Moment
last_of first [] = first
last_of first (next ∷ run) = last_of next run

-- The first moment: a session that was opened on the store, or none, where it can't be opened. No failure is ordered.
pub data Begins (A : Type 0) (format : Meaning) (store : List (List ℕ)) : Moment → Type 0 where
  opened : (lost : List ℕ) (writes : ℕ) → Opens format store lost writes
      → Begins A format store (first_moment store (Open writes) lost)
  refused : (error : OpenError A) → CantOpen format store error → Begins A format store (first_moment store Absent [])

-- a read that gives bytes gives those of the first file of the path, in the list of files at first; no bytes are given
-- for a path that no file of it has
abbrev pub ReadsFile : {A : Type 0} → Meaning → FileMeaning → List File → Event → Answer A → Type 0
ReadsFile format files all (Read path) (Bytes bytes) =
    IsTextOfFirst files format.unit_size all (GivenPath path.now) false bytes.items
ReadsFile format files all event answer = Unit {0}

-- What holds of each moment of a run whose first store is a volume with these files: the store is a volume, with the
-- same files and the same units of the system; the changes of its layout and the deficit now are together the deficit
-- at first; and where it had a free place at first, or was in order, it has one now, or is.
pub record KeepsVolume (format : Meaning) (all : List File) (first now : Moment) : Type 0 where
  pub files : HasFiles format now.store all
  pub same : SameVolume format first.store now.store
  pub deficit : (deficit : ℕ) → HasDeficit format first.store deficit
      → (left : ℕ) × HasDeficit format now.store left × (now.moves + left ≡ deficit)
  pub room : HasRoom format first.store → HasRoom format now.store

-- few places are lost, as at the last opening
abbrev pub LosesFew : Meaning → Moment → Type 0
LosesFew format now = HasFewLost format now.opened now.store now.writes

-- a stop opens a session, unless it met the failure that was ordered
abbrev pub Reopens : Moment → Event → Moment → Type 0
Reopens old Stop new = HasSession new.session ⊎ (old.fails_read ≡ true)
Reopens old event new = Unit {0}

-- so does each stop of a run
abbrev pub AllReopen : Moment → List Event → List Moment → Type 0
AllReopen old [] [] = Unit {0}
AllReopen old (event ∷ events) (new ∷ run) = Reopens old event new × AllReopen new events run
AllReopen old events run = ⊥

-- What holds of a run from a volume with these files. Where that has a free place, or is in order, the volume itself is
-- never a reason not to open a session.
pub record KeepsAll {A : Type 0} (format : Meaning) (files : FileMeaning) (all : List File) (first : Moment)
    (events : List Event) (answers : List (Answer A)) (run : List Moment) : Type 0 where
  pub volumes : All (KeepsVolume format all first) (first ∷ run)
  pub lost : HasSession first.session → All (LosesFew format) (first ∷ run)
  pub reads : AllZip (ReadsFile format files all) events answers
  pub reopens : HasRoom format first.store → AllReopen first events run

-- The events that were answered, a front of the list; the moments of their run; and that it leads from the store of the
-- device that was handed in to that of the device that is handed back, whose count of writes rose by the unit writes
-- that stand. On a volume with a free place, or in order, a session is open at first. The device that is handed back
-- fails nothing either, over as many events more as its count of writes has room for.
pub record IsReplay {A : Type 0} (format : Meaning) (files : FileMeaning) (events : List Event)
    (answers : List (Answer A)) (old new : DeviceState) : Type 0 where
  pub first : Moment
  pub begins : Begins A format old.store first ⊎ ((answers ≡ []) × (first ≡ first_moment old.store Absent []))
  pub opens : HasRoom format old.store → (answers ≡ []) ⊎ HasSession first.session
  pub run : List Moment
  pub is_run : IsRun format files first (take (length answers) events) answers run
  pub store : new.store ≡ (last_of first run).store
  pub writes : new.writes ≡ old.writes + (last_of first run).writes
  pub keeps : (all : List File) → HasFiles format old.store all
      → KeepsAll format files all first (take (length answers) events) answers run
  pub again : (calls : ℕ) → old.writes + length events + calls ≤ last_count → FailsNothing new calls

-- Each event was answered; or none was, since there was no memory at the beginning; or the first that was not is a
-- stop, after which no session could be opened for want of memory.
abbrev pub EndsEarly : {A : Type 0} → List Event → List (Answer A) → Type 0
EndsEarly events answers =
    (length answers ≡ length events) ⊎ (answers ≡ []) ⊎ (slice_get events (length answers) ≡ Some Stop)
