-- Which replies on a volume have nothing that was made.
use Rattle.std.proofs.Common.{ℕ, Bool, List, inl, inr}
use Rattle.std.specs.Prelude.{Option}
use Rattle.a2_device.specs.Device.{DeviceState}
use Rattle.vol_mover.specs.declared.error.OpenError.{OpenError}
use Rattle.vol_mover.specs.declared.error.OpenError.TheVariants as opens
use Rattle.shop_jobs.specs.declared.input.VolumeOptions.{VolumeOptions}
use Rattle.shop_replies.specs.declared.refusal.Refusal.TheVariants as refusals
use Rattle.shop_replies.specs.declared.refusal.Failure.TheVariants as failures
use Rattle.shop_replies.specs.declared.reply.Reply.{Reply}
use Rattle.shop_replies.specs.declared.reply.Status.TheVariants.{Refused}
use Rattle.shop_replies.specs.Reply.{IsMade}
use Rattle.shop_replies.proofs.NotMade.{failed_not_made, refused_not_made, told_not_made}
use Rattle.shop_volumes.specs.Unopened.{TellsOpening}
use Rattle.shop_volumes.specs.VolumeReply.{IsUntaken, IsVolumeReply}

-- that to a volume that is not opened has none
pub unopened_told_not_made : {A : Type 0} (error : OpenError A) (reply : Reply) → TellsOpening error reply → ¬ IsMade reply
unopened_told_not_made (opens.Check faults) reply is made = refused_not_made refusals.Check reply is made
unopened_told_not_made (opens.Lost count) reply is made = elim is [
  | inl told ↦ told_not_made Refused reply told.0 made
  | inr failed ↦ failed_not_made failures.Memory reply failed made
]
unopened_told_not_made opens.NoFreePlace reply is made = refused_not_made refusals.NoFreePlace reply is made
unopened_told_not_made opens.Device reply is made = failed_not_made failures.Device reply is made
unopened_told_not_made opens.Memory reply is made = failed_not_made failures.Memory reply is made

-- nor has that where there is no volume
pub untaken_not_made : (volume : VolumeOptions) (reserve : Option (List ℕ)) (image : List ℕ) (reply : Reply) → IsUntaken volume reserve image reply → ¬ IsMade reply
untaken_not_made volume reserve image reply is made = elim is [
  | inl refused ↦ refused_not_made refusals.Reserve reply refused.0 made
  | inr (inl refused) ↦ refused_not_made refusals.Length reply refused.0 made
  | inr (inr failed) ↦ failed_not_made failures.Memory reply failed made
]

pub volume_not_made : (volume : VolumeOptions) (reserve : Option (List ℕ)) (image : List ℕ) (Tells : List Bool → DeviceState → Reply → Type 0) (reply : Reply)
    → ((reserved : List Bool) (device : DeviceState) → Tells reserved device reply → ¬ IsMade reply)
    → IsVolumeReply volume reserve image Tells reply → ¬ IsMade reply
volume_not_made volume reserve image Tells reply never is made = elim is [
  | inl untaken ↦ untaken_not_made volume reserve image reply untaken made
  | inr told ↦ never told.0 _ told.2.3 made
]

pub volume_made : (volume : VolumeOptions) (reserve : Option (List ℕ)) (image : List ℕ) (Tells : List Bool → DeviceState → Reply → Type 0) (reply : Reply) (P : Type 0)
    → ((reserved : List Bool) (device : DeviceState) → Tells reserved device reply → P) → IsVolumeReply volume reserve image Tells reply → IsMade reply → P
volume_made volume reserve image Tells reply P told is made = elim is [
  | inl untaken ↦ absurd (untaken_not_made volume reserve image reply untaken made)
  | inr tells ↦ told tells.0 _ tells.2.3
]
