-- A session that goes on over a device with another failure to come.
use Rattle.std.specs.Prelude.{◌≡◌, IsTrue}
use Rattle.std.proofs.Common.{sym, ap, subst}
use Rattle.a2_device.specs.Device.{DeviceState}
use Rattle.vol_format.specs.Meaning.{Meaning}
use Rattle.vol_mover.specs.Tasks.{Course}
use Rattle.vol_mover.specs.Present.{Present, IsSession}
use Rattle.vol_mover.specs.Resuming.{CanResume}

-- the same but for the reads that fail, or for the writes
pub can_read : (old new : DeviceState) → new ≡ record old { read_failures = new.read_failures } → CanResume old new
can_read old new is = record {
  places = ap (λ (d : DeviceState). d.places) is;
  unit_size = ap (λ (d : DeviceState). d.unit_size) is;
  honest = λ honest. subst (λ (d : DeviceState). IsTrue d.honest) is honest;
  store = λ honest. ap (λ (d : DeviceState). d.store) is;
}

pub can_write : (old new : DeviceState) → new ≡ record old { write_failures = new.write_failures } → CanResume old new
can_write old new is = record {
  places = ap (λ (d : DeviceState). d.places) is;
  unit_size = ap (λ (d : DeviceState). d.unit_size) is;
  honest = λ honest. subst (λ (d : DeviceState). IsTrue d.honest) is honest;
  store = λ honest. ap (λ (d : DeviceState). d.store) is;
}

pub resumes : {format : Meaning} {first later : Present} {course : Course} {new : DeviceState} (shown : DeviceState → Present) → IsSession format first course
    → ((device : DeviceState) → shown device ≡ record first { device = device })
    → ((old : DeviceState) (start : Course) → CanResume old new → IsSession format (shown old) start → IsSession format later start)
    → CanResume first.device new → IsSession format later course
resumes {format = format} {first = first} {course = course} shown session same again can =
    again first.device course can (subst (λ p. IsSession format p course) (sym (same first.device)) session)
