-- A session with another device and other bytes, and closed.
use Rattle.std.specs.Prelude.{true, ℕ, List}
use Rattle.std.specs.declared.vec.Vec.{Vec}
use Rattle.vol_mover.specs.Tasks.{Task}
use Rattle.vol_mover.specs.declared.session.Session.{Session}

abbrev pub with_unit : {D F A V : Type 0} → Session D F A V → D → Vec ℕ A → Session D F A V
with_unit session device unit = record session { device = device; unit = unit }

abbrev pub closed_unit : {D F A V : Type 0} → Session D F A V → D → Vec ℕ A → Session D F A V
closed_unit session device unit = record session { device = device; unit = unit; closed = true }

abbrev pub with_device : {D F A V : Type 0} → D → Session D F A V → Session D F A V
with_device device session = record session { device = device }

abbrev pub closed_with : {D F A V : Type 0} → D → Session D F A V → Session D F A V
closed_with device session = record session { device = device; closed = true }

abbrev pub agenda_of : {D F A V : Type 0} → Session D F A V → List Task
agenda_of session = session.agenda

-- with the work of another
abbrev pub with_work : {D F A V : Type 0} → Session D F A V → Session D F A V → Session D F A V
with_work session other = record session {
  device = other.device;
  layout = other.layout;
  agenda = other.agenda;
  map_writes = other.map_writes;
  moves = other.moves;
  closed = other.closed;
  unit = other.unit;
}

abbrev pub format_of : {D F A V : Type 0} → Session D F A V → F
format_of session = session.format.now
