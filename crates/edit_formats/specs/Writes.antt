-- The writes of an edit, and what they leave of a device.
use Rattle.std.specs.Prelude.{◌≡◌, ◌≢◌, ◌⊎◌, ◌<◌, ℕ, true, List, [], ◌∷◌, length, take, slice_index_or, if◌then◌else◌, Result, Err, IsTrue, OnOk}
use Rattle.a2_device.specs.Device.{DeviceState, IsSameDevice, OnlyReads, FailsWrite, counted, last_count, written}
use Rattle.edit_formats.specs.declared.error.EditError.{EditError}
use Rattle.edit_formats.specs.declared.error.EditError.TheVariants.{Device}
use Rattle.vol_laws.specs.Writes.{Write}
use Rattle.edit_formats.specs.Refusal.{told_device}

abbrev pub no_write : Write
no_write = record { place = 0; unit = [] }

-- a device once these writes stand, each made in turn
abbrev pub device_after : List Write → DeviceState → DeviceState
device_after [] device = device
device_after (write ∷ writes) device = device_after writes (written write.place write.unit device)

-- a write that was refused: the count of writes stands at its last value, or the write failed, and the old unit or the
-- new one stands
abbrev pub RefusesWrite : Write → DeviceState → DeviceState → Type 0
RefusesWrite write old new =
    ((old.writes ≡ last_count) × (new ≡ record old { faults = counted old.faults }))
    ⊎ FailsWrite write.place write.unit old new

-- Of the writes those before one stand, that one was refused, and none was made after it.
pub record StopsIn (writes : List Write) (old new : DeviceState) : Type 0 where
  pub made : ℕ
  pub below : made < length writes
  pub refused : RefusesWrite (slice_index_or writes made no_write) (device_after (take made writes) old) new

-- What an edit leaves of its device, where `IsEdit` says of a list of writes that it is the edit's. Of every device:
-- one refusal was counted where a failure is told, and none where none is. Of an honest one: done, all writes of the
-- edit stand and nothing else has changed; stopped, a read failed and nothing was written, or a write did and those
-- before it stand; refused for another cause, it is as it was.
pub record HasEdited {T : Type 0} (IsEdit : List Write → Type 0) (result : Result T EditError)
    (old new : DeviceState) : Type 0 where
  pub same : IsSameDevice old new
  pub faults : new.faults ≡ (if told_device result then counted old.faults else old.faults)
  pub done : IsTrue old.honest → OnOk result ((writes : List Write) × IsEdit writes × (new ≡ device_after writes old))
  pub stopped : IsTrue old.honest → result ≡ Err Device
      → OnlyReads true old new ⊎ ((writes : List Write) × IsEdit writes × StopsIn writes old new)
  pub refused : IsTrue old.honest → (error : EditError) → result ≡ Err error → error ≢ Device → new ≡ old
