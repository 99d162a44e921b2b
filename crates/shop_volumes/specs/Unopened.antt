-- What is told of a volume that is not opened.
use Rattle.std.specs.Prelude.{◌≡◌, ◌⊎◌, Bool, ◌∷◌, [], ◌++◌, codes, decimal}
use Rattle.std.specs.declared.alloc.Global.{Global}
use Rattle.a2_device.specs.Device.{DeviceState}
use Rattle.vol_format.specs.Meaning.{Meaning}
use Rattle.vol_mover.specs.Refused.{IsRefusal}
use Rattle.vol_mover.specs.declared.error.OpenError.{OpenError}
use Rattle.vol_mover.specs.declared.error.OpenError.TheVariants as opens
use Rattle.shop_replies.specs.declared.refusal.Refusal.TheVariants as refusals
use Rattle.shop_replies.specs.declared.refusal.Failure.TheVariants as failures
use Rattle.shop_replies.specs.declared.reply.Reply.{Reply}
use Rattle.shop_replies.specs.Reply.{IsTold, failed, refused, text_of}
use Rattle.shop_replies.specs.declared.reply.Status.TheVariants.{Refused}
use Rattle.shop_replies.specs.Volume.{LacksUnit}

-- the reply to a volume that is not opened; how many places are lost is told
abbrev pub TellsOpening : {A : Type 0} → OpenError A → Reply → Type 0
TellsOpening (opens.Check faults) reply = reply ≡ refused refusals.Check
TellsOpening (opens.Lost count) reply =
    (IsTold Refused reply × (text_of reply ≡ codes "REFUSED Lost " ++ decimal count ++ 10 ∷ []))
    ⊎ (reply ≡ failed failures.Memory)
TellsOpening opens.NoFreePlace reply = reply ≡ refused refusals.NoFreePlace
TellsOpening opens.Device reply = reply ≡ failed failures.Device
TellsOpening opens.Memory reply = reply ≡ failed failures.Memory

-- the volume is not opened: it has faults, lost places that are not reclaimed, or no free place; or a unit can't be
-- read
pub record IsUnopenedReply (reclaim : Bool) (format : Meaning) (device : DeviceState) (reply : Reply) : Type 0 where
  pub error : OpenError Global
  pub refusal : IsRefusal format device.store (record { reclaim = reclaim }) error
  pub lacks : error ≡ opens.Device → LacksUnit device
  pub told : TellsOpening error reply
