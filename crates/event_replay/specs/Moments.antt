-- The moments of a replay: what stands between two events.
use Rattle.std.specs.Prelude.{◌≡◌, ◌≤◌, ◌+◌, ℕ, Bool, true, false, List, [], Option, Some, None}
use Rattle.a2_device.specs.Device.{DeviceState, last_count}

-- a session: open, with so many writes left; closed, since a write failed; or none
pub data SessionState : Type 0 where
  Open : ℕ → SessionState
  Closed : SessionState
  Absent : SessionState

-- there is a session
abbrev pub HasSession : SessionState → Type 0
HasSession (Open left) = Unit {0}
HasSession Closed = Unit {0}
HasSession Absent = ⊥

-- no session is open
abbrev pub IsNotOpen : SessionState → Type 0
IsNotOpen (Open left) = ⊥
IsNotOpen Closed = Unit {0}
IsNotOpen Absent = Unit {0}

-- What was there when the session was opened last: which places were lost, how many unit writes stood, and how often
-- they had changed the layout.
pub record Opened : Type 0 where
  pub lost : List ℕ
  pub writes : ℕ
  pub moves : ℕ

-- The units that stand; the session; whether the next read is to fail, and the next write, with whether its unit stands
-- then; how many unit writes stand since the first moment, and how often they have changed the layout; and what was
-- there at the last opening.
pub record Moment : Type 0 where
  pub store : List (List ℕ)
  pub session : SessionState
  pub fails_read : Bool
  pub fails_write : Option Bool
  pub writes : ℕ
  pub moves : ℕ
  pub opened : Opened

-- the first moment on a store, with this session, opened when these places were lost
abbrev pub first_moment : List (List ℕ) → SessionState → List ℕ → Moment
first_moment store session lost = record {
  store = store;
  session = session;
  fails_read = false;
  fails_write = None;
  writes = 0;
  moves = 0;
  opened = record { lost = lost; writes = 0; moves = 0 };
}

-- a device of as many places, of units as long, in an image of the same form
pub record HasSameShape (old new : DeviceState) : Type 0 where
  pub places : new.places ≡ old.places
  pub unit_size : new.unit_size ≡ old.unit_size
  pub image : new.image ≡ old.image

-- A device that fails nothing by itself, and that counts so many writes more before its count stands at its last value.
pub record FailsNothing (device : DeviceState) (calls : ℕ) : Type 0 where
  pub honest : device.honest ≡ true
  pub readable : device.unreadable ≡ []
  pub reads : device.read_failures ≡ Some 0
  pub writes : device.write_failures ≡ Some []
  pub passes : device.passes ≡ None
  pub room : device.writes + calls ≤ last_count
