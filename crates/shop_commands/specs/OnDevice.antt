-- What a job does to the device that has its volume, and what it tells of it.
use Rattle.std.specs.Prelude.{◌≡◌, ◌⊎◌, ℕ, List, Option, None, Some, IfSome}
use Rattle.a2_device.specs.Device.{DeviceState}
use Rattle.file_listings.specs.DosText.{Text}
use Rattle.shop_jobs.specs.Input.{InputView, ReadingView, reserve_of, volume_of}
use Rattle.shop_jobs.specs.Job.{ChangeView, LookView}
use Rattle.shop_jobs.specs.declared.input.VolumeOptions.{VolumeOptions}
use Rattle.shop_replies.specs.declared.refusal.Refusal.{Refusal}
use Rattle.shop_replies.specs.declared.refusal.Refusal.TheVariants as refusals
use Rattle.shop_replies.specs.declared.reply.Reply.{Reply}
use Rattle.shop_replies.specs.Reply.{refused}
use Rattle.shop_replies.specs.Volume.{HasUnitsOf}
use Rattle.shop_reads.specs.Extra.{ExtraView}
use Rattle.shop_reads.specs.GoingOn.{ReadsFor}
use Rattle.shop_reads.specs.Look.{IsLookReply, shown_by}
use Rattle.shop_volumes.specs.Reserving.{IsDeviceReply}
use Rattle.shop_changes.specs.Changing.{IsChangeOutcome, IsWorkOutcome}
use Rattle.shop_changes.specs.EditRules.{changed_by}
use Rattle.shop_changes.specs.Work.{WorkView}
use Rattle.shop_changes.specs.declared.outcome.Outcome.{Outcome}
use Rattle.shop_changes.specs.declared.outcome.Outcome.TheVariants.{Unfinished}
use Rattle.shop_commands.specs.Answer.{AsksFor, RefusesWords, WhereKnown, extra_of}

-- the device has the units of the volume that the image is read as, where that is known
abbrev pub HasUnitsFor : ReadingView → DeviceState → Type 0
HasUnitsFor reading device =
    IfSome (volume_of reading) (λ (volume : VolumeOptions). HasUnitsOf volume.file_system device)

-- A look was told of a device that has this volume, with these bytes beside it: what it tells of the volume, and of the
-- places that the words reserve.
abbrev pub IsLookTold : LookView → Option Text → ExtraView → DeviceState → VolumeOptions → Reply → Type 0
IsLookTold look reserve extra device volume reply =
    IsDeviceReply volume.file_system reserve
    (λ reserved. IsLookReply look extra (shown_by volume reserved) device reply) reply

-- so it was of the volume that the job reads; where that is not known, the look is refused
abbrev pub IsToldOnDevice : LookView → InputView → List ℕ → DeviceState → Reply → Type 0
IsToldOnDevice look input bytes device reply = WhereKnown (volume_of input.reading)
    (IsLookTold look (reserve_of input.reading) (extra_of input.beside bytes) device) reply

-- What a look does to the device, and that nothing failed under it, or is not told so. Where the volume is not known
-- nothing is done to it, and the look is refused.
abbrev pub ReadsIn : Option VolumeOptions → LookView → Reply → DeviceState → DeviceState → Type 0
ReadsIn None look reply old new = (new ≡ old) × (reply ≡ refused refusals.Unknown)
ReadsIn (Some volume) look reply old new = ReadsFor look reply old new

-- A change of this volume, with these bytes of a file beside it: its words are refused, and the device is as it was; or
-- the work that it asks for was done on the device, with the places reserved that the words name.
abbrev pub IsChangeDone : ChangeView → Option Text → List ℕ → DeviceState → DeviceState → VolumeOptions → Outcome
    → Type 0
IsChangeDone change reserve bytes old new volume outcome =
    ((refusal : Refusal) × RefusesWords volume change refusal × (outcome ≡ Unfinished (refused refusal)) × (new ≡ old))
    ⊎ ((work : WorkView) × AsksFor volume change bytes work
    × IsChangeOutcome volume.file_system reserve
    (λ reserved. IsWorkOutcome work (changed_by volume reserved)) old new outcome)

-- where the volume is not known, the change is refused, and the device is as it was
abbrev pub IsOutcomeIn : Option VolumeOptions → ChangeView → Option Text → List ℕ → DeviceState → DeviceState → Outcome
    → Type 0
IsOutcomeIn None change reserve bytes old new outcome =
    (outcome ≡ Unfinished (refused refusals.Unknown)) × (new ≡ old)
IsOutcomeIn (Some volume) change reserve bytes old new outcome =
    IsChangeDone change reserve bytes old new volume outcome

-- so it was of the volume that the image is read as
abbrev pub IsJobOutcome : ChangeView → ReadingView → List ℕ → DeviceState → DeviceState → Outcome → Type 0
IsJobOutcome change reading bytes old new outcome =
    IsOutcomeIn (volume_of reading) change (reserve_of reading) bytes old new outcome
