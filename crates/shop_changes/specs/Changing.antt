-- What becomes of a device on which work is done that changes its volume.
use Rattle.std.specs.Prelude.{◌≡◌, ◌≢◌, ◌⊎◌, Bool, List, Option, IsTrue}
use Rattle.a2_device.specs.Device.{DeviceState}
use Rattle.file_listings.specs.DosText.{Text}
use Rattle.shop_jobs.specs.declared.input.FileSystem.{FileSystem}
use Rattle.shop_replies.specs.declared.refusal.Refusal.TheVariants as refusals
use Rattle.shop_replies.specs.declared.refusal.Failure.TheVariants as failures
use Rattle.shop_replies.specs.declared.reply.Reply.{Reply}
use Rattle.shop_replies.specs.Reply.{failed, refused}
use Rattle.shop_replies.specs.Volume.{form_of}
use Rattle.shop_volumes.specs.Reserving.{NamesPlaces, OfReserved}
use Rattle.shop_changes.specs.EditOutcome.{IsEditOutcome}
use Rattle.shop_changes.specs.EditRules.{ChangedMeaning}
use Rattle.shop_changes.specs.MakingOutcome.{IsMakingOutcome}
use Rattle.shop_changes.specs.OptimizeOutcome.{IsOptimizeOutcome}
use Rattle.shop_changes.specs.ReclaimOutcome.{IsReclaimOutcome}
use Rattle.shop_changes.specs.SaidFile.{IsSaidOutcome}
use Rattle.shop_changes.specs.Work.{WorkView, Optimize, EditOf, MakeDirectory, Reclaim, Replace, Save}
use Rattle.shop_changes.specs.declared.outcome.Outcome.{Outcome}
use Rattle.shop_changes.specs.declared.outcome.Outcome.TheVariants.{Unfinished}

-- what each work makes of a volume where it stands; no file is replaced there
abbrev pub IsWorkOutcome : WorkView → ChangedMeaning → DeviceState → DeviceState → Outcome → Type 0
IsWorkOutcome (Optimize reclaim limit) format old new outcome =
    IsOptimizeOutcome reclaim limit format.units old new outcome
IsWorkOutcome (EditOf edit name) format old new outcome =
    IsEditOutcome edit name format.files format.edits format.units old new outcome
IsWorkOutcome (Save path said) format old new outcome =
    IsSaidOutcome path said format.edits.save format.units old new outcome
IsWorkOutcome (Replace path said) format old new outcome =
    (outcome ≡ Unfinished (refused refusals.InPlace)) × (new ≡ old)
IsWorkOutcome Reclaim format old new outcome = IsReclaimOutcome format.units old new outcome
IsWorkOutcome (MakeDirectory path date) format old new outcome =
    IsMakingOutcome path date format.directories format.units old new outcome

-- there was no memory for the work, and the device is as it was
abbrev pub LacksMemory : DeviceState → DeviceState → Outcome → Type 0
LacksMemory old new outcome = (outcome ≡ Unfinished (failed failures.Memory)) × (new ≡ old)

-- where the work is not done and no failure of the device is told, the device is as it was
abbrev pub KeepsDevice : DeviceState → DeviceState → Outcome → Type 0
KeepsDevice old new outcome = IsTrue old.honest → (reply : Reply) → outcome ≡ Unfinished reply
    → reply ≢ failed failures.Device → new ≡ old

-- `Reserve` for a text that is no list of places, or want of memory, and the device is as it was; or this is said of
-- what the work makes of the volume, where the words reserve these places
abbrev pub IsTriedChange : FileSystem → Option Text → (List Bool → DeviceState → DeviceState → Outcome → Type 0)
    → DeviceState → DeviceState → Outcome → Type 0
IsTriedChange file_system reserve Works old new outcome =
    ((outcome ≡ Unfinished (refused refusals.Reserve)) × (¬ NamesPlaces (form_of file_system) reserve) × (new ≡ old))
    ⊎ LacksMemory old new outcome
    ⊎ OfReserved file_system reserve (λ reserved. Works reserved old new outcome)

-- the work was tried, and where it is not done and no failure of the device is told, the device is as it was
pub record IsChangeOutcome (file_system : FileSystem) (reserve : Option Text)
    (Works : List Bool → DeviceState → DeviceState → Outcome → Type 0)
    (old new : DeviceState) (outcome : Outcome) : Type 0 where
  pub tried : IsTriedChange file_system reserve Works old new outcome
  pub kept : KeepsDevice old new outcome
