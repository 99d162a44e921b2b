-- How an order to fail is met: by the next call of its kind, and once.
use Rattle.std.specs.Prelude.{◌≡◌, ℕ, ◌+◌, true, false, List, Some, None, Result, Ok, Err, is_err}
use Rattle.a2_device.specs.declared.device.DeviceError.{DeviceError}
use Rattle.a2_device.specs.declared.device.DeviceError.TheVariants.{Fault, Spent}
use Rattle.a2_device.specs.declared.failing.FaultDevice.{FaultDevice}
use Rattle.a2_device.specs.Device.{DeviceState, OnlyReads, last_count}
use Rattle.a2_device.specs.Orders.{counting}
use Rattle.a2_device.specs.Writes.{Writes}

-- A read where one was ordered to fail: a fault of which the device within is not asked, and the order is met. A read
-- where none was is passed on. What is ordered of writes stays.
pub record ReadsToOrder {D T : Type 0} (state : D → DeviceState) (old new : FaultDevice D)
    (result : Result T DeviceError) :
    Type 0 where
  pub ordered : old.read_order ≡ true → result ≡ Err Fault
  pub met : old.read_order ≡ true → new ≡ record old { read_order = false; faults = new.faults }
  pub passed_on : old.read_order ≡ false → new ≡ record old { device = new.device }
  pub asked : old.read_order ≡ false → OnlyReads (is_err result) (state old.device) (state new.device)

-- A write at the last count touches no order and no unit. Without an order it is passed on. An order that leaves the
-- old unit is met, and the device within is not asked. One after which the new unit stands is met once the device
-- within has taken the unit, and stays where that refuses it. What is ordered of reads stays.
pub data WritesToOrder {D T : Type 0} (state : D → DeviceState) (old new : FaultDevice D) (place : ℕ) (unit : List ℕ) :
    Result T DeviceError → Type 0 where
  at_last_count : (counting old.writes old.faults (state old.device)).writes ≡ last_count
      → new ≡ record old { faults = new.faults }
      → WritesToOrder state old new place unit (Err Spent)
  passed_on : (result : Result T DeviceError) → old.write_order ≡ None
      → Writes place unit result (state old.device) (state new.device)
      → new ≡ record old { device = new.device }
      → WritesToOrder state old new place unit result
  old_unit_stands : old.write_order ≡ Some false
      → new ≡ record old { write_order = None; writes = old.writes + 1; faults = new.faults }
      → WritesToOrder state old new place unit (Err Fault)
  new_unit_stands : (value : T) → old.write_order ≡ Some true
      → Writes place unit (Ok value) (state old.device) (state new.device)
      → new ≡ record old { device = new.device; write_order = None; faults = new.faults }
      → WritesToOrder state old new place unit (Err Fault)
  refused_within : (error : DeviceError) → old.write_order ≡ Some true
      → Writes {T = T} place unit (Err error) (state old.device) (state new.device)
      → new ≡ record old { device = new.device }
      → WritesToOrder state old new place unit (Err error)
