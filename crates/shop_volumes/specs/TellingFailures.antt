-- Which replies tell that the device failed.
use Rattle.std.specs.Prelude.{◌≡◌, Bool, true, false}
use Rattle.a2_device.specs.Device.{DeviceState}
use Rattle.shop_replies.specs.declared.refusal.Failure.TheVariants as failures
use Rattle.shop_replies.specs.declared.refusal.Side.TheVariants.{First}
use Rattle.shop_replies.specs.declared.reply.Reply.{Reply}
use Rattle.shop_replies.specs.declared.reply.Status.{Status}
use Rattle.shop_replies.specs.declared.reply.Status.TheVariants as statuses
use Rattle.shop_replies.specs.declared.reply.Told.{Told}
use Rattle.shop_replies.specs.declared.reply.Told.TheVariants as tells
use Rattle.shop_replies.specs.Reply.{failed}
use Rattle.shop_replies.specs.Volume.{LacksUnit}

-- whether a reply tells a failure of the device; of two that of the first
abbrev is_of_device : Told → Bool
is_of_device (tells.Failure failures.Device) = true
is_of_device (tells.FailureOf First failures.Device) = true
is_of_device told = false

abbrev pub fails_device : Status → Told → Bool
fails_device statuses.Done told = false
fails_device statuses.Wrong told = false
fails_device statuses.Refused told = false
fails_device statuses.Failed told = is_of_device told

abbrev pub tells_device : Reply → Bool
tells_device reply = fails_device reply.status reply.told

-- a reply tells that the device failed only where a unit of it can't be read
abbrev pub FailsForLack : DeviceState → Reply → Type 0
FailsForLack device reply = reply ≡ failed failures.Device → LacksUnit device
