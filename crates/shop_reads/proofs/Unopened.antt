-- What is told of a volume that is not opened.
use Rattle.std.proofs.Common.{Bool, Global, subst}
use Rattle.a2_device.specs.Device.{DeviceState}
use Rattle.vol_format.specs.Meaning.{Meaning}
use Rattle.vol_mover.specs.Refused.{IsRefusal}
use Rattle.vol_mover.specs.declared.error.OpenError.{OpenError}
use Rattle.shop_replies.specs.declared.reply.Reply.{Reply}
use Rattle.shop_volumes.specs.Unopened.{IsUnopenedReply, TellsOpening}
use Rattle.shop_volumes.specs.TellingFailures.{FailsForLack}

pub unopened : (reclaim : Bool) (format : Meaning) (device : DeviceState) (error : OpenError Global) (reply : Reply) → FailsForLack device reply
    → IsRefusal format device.store (record { reclaim = reclaim }) error → TellsOpening error reply → IsUnopenedReply reclaim format device reply
unopened reclaim format device error reply lack refusal told = record {
  error = error;
  refusal = refusal;
  lacks = λ is. lack (subst (λ (e : OpenError Global). TellsOpening e reply) is told);
  told = told;
}
