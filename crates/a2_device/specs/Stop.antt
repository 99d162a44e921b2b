-- Whether a reading of units ended by a failure of the device.
use Rattle.std.specs.Prelude.{◌≡◌, Bool, true, false, Result, Ok, Err, IsErrAnd}
use Rattle.std.proofs.Common.{ap}
use Rattle.a2_device.specs.declared.stop.Stop.{Stop}
use Rattle.a2_device.specs.declared.stop.Stop.TheVariants.{Device, Memory}

abbrev pub is_stop_of_device : Stop → Bool
is_stop_of_device Device = true
is_stop_of_device Memory = false

abbrev pub is_device_stop : {T : Type 0} → Result T Stop → Bool
is_device_stop (Err Device) = true
is_device_stop result = false

-- a call that hands on why it ended tells the device's failure alike
pub same_stop : {T : Type 0} (result : Result T Stop) (stop : Stop) → IsErrAnd result (λ e. e ≡ stop)
    → is_device_stop result ≡ is_stop_of_device stop
same_stop (Ok value) stop is = absurd is
same_stop (Err Device) stop is = ap is_stop_of_device is
same_stop (Err Memory) stop is = ap is_stop_of_device is
