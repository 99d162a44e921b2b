-- The units of a file as a device.
use Rattle.std.specs.Prelude.{ℕ, ◌+◌, ◌*◌, List, [], map, slice_range, None}
use Rattle.std.specs.List.{range_with_len}
use Rattle.a2_media.specs.declared.units.UnitKind.{UnitKind}
use Rattle.a2_device.specs.Device.{DeviceState}
use Rattle.a2_media.specs.ImageDevice.{unit_bytes}
use Rattle.a2_media.specs.File.{FileState}

-- the unit that stands at a place of a file
abbrev pub file_unit : ℕ → List ℕ → ℕ → List ℕ
file_unit size bytes place = slice_range bytes (size * place) (size * place + size)

-- so many units of a file, by place
abbrev pub file_units : ℕ → ℕ → List ℕ → List (List ℕ)
file_units size places bytes = map (file_unit size bytes) (range_with_len 0 places)

-- A file by place, after so many writes and faults. Nothing is known of the failures to come, but that one leaves the
-- old unit or the new one.
abbrev pub file_device_state : UnitKind → ℕ → ℕ → ℕ → FileState → DeviceState
file_device_state kind places writes faults file = record {
  places = places;
  unit_size = unit_bytes kind;
  image = None;
  writes = writes;
  faults = faults;
  honest = file.honest;
  store = file_units (unit_bytes kind) places file.bytes;
  unreadable = [];
  read_failures = None;
  write_failures = None;
  passes = None;
  standing = file.standing;
}
