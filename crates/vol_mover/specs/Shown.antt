-- What a session shows, and a paused one on a device.
use Rattle.a2_device.specs.Device.{DeviceState}
use Rattle.vol_format.specs.Directory.{Directory}
use Rattle.vol_mover.specs.Present.{Present}
use Rattle.vol_mover.specs.declared.paused.Paused.{Paused}
use Rattle.vol_mover.specs.declared.session.Session.{Session}

abbrev pub present : {D F A V : Type 0} → (D → DeviceState) → (F → V → Directory) → Session D F A V → Present
present state directory session = record {
  device = state session.device;
  opening = directory session.format.now session.volume;
  parts = session.parts.items;
  at = session.layout.at;
  places = session.layout.places;
  tasks = session.agenda;
  map_writes = session.map_writes;
  moves = session.moves;
  lost_at_first = session.lost_at_first;
  closed = session.closed;
  unit = session.unit.items;
}

abbrev pub resumed : {F A V : Type 0} → (F → V → Directory) → DeviceState → Paused F A V → Present
resumed directory device paused = record {
  device = device;
  opening = directory paused.format.now paused.volume;
  parts = paused.parts.items;
  at = paused.layout.at;
  places = paused.layout.places;
  tasks = paused.agenda;
  map_writes = paused.map_writes;
  moves = paused.moves;
  lost_at_first = paused.lost_at_first;
  closed = paused.closed;
  unit = paused.unit.items;
}
