-- What is told of the files of a folder that are added to the volume of an image.
use Rattle.std.specs.Prelude.{◌≡◌, ◌≢◌, ◌⊎◌, ◌-◌, ℕ, ◌++◌, List, Option, None, Some, IfSome, codes, length, slice_index_or, take}
use Rattle.std.specs.declared.alloc.Global.{Global}
use Rattle.a2_device.specs.Device.{DeviceState}
use Rattle.disk_container.specs.declared.shell.Shell.{Shell}
use Rattle.file_listings.specs.DosText.{Text, line}
use Rattle.folder_adding.specs.Added.{AreAdded, HasAdded}
use Rattle.folder_adding.specs.AddedText.{added_text}
use Rattle.folder_adding.specs.Directories.{AreKept, HasDirectories, HasNoDirectory, Making, making_by}
use Rattle.folder_adding.specs.HostEntries.{EntryView}
use Rattle.folder_adding.specs.Items.{BatchView, new_files}
use Rattle.folder_adding.specs.Plan.{IsFirstRefused, IsPlan, PlanView}
use Rattle.folder_adding.specs.Reads.{AreGivenBack}
use Rattle.folder_adding.specs.Refused.{HasRefused}
use Rattle.folder_adding.specs.Verdicts.{AddedFolder}
use Rattle.folder_adding.specs.declared.adding.Refused.{Refused as RefusedItem}
use Rattle.folder_adding.specs.declared.host_entry.HostKind.TheVariants.{Other}
use Rattle.folder_adding.specs.declared.making.Unmade.{Unmade}
use Rattle.pro_dates.specs.SaidDates.{IsDateOf, NamesDate}
use Rattle.pro_dir.specs.declared.date.ProDate.{ProDate}
use Rattle.edit_formats.specs.Saves.{SaveMeaning}
use Rattle.shop_changes.specs.EditRules.{ChangedMeaning, changed_by}
use Rattle.shop_changes.specs.ImageBytes.{AreBytesOf, KeepsBytes}
use Rattle.shop_volumes.specs.VolumeReply.{IsVolumeReply}
use Rattle.shop_jobs.specs.Input.{ReadingView, reserve_of, volume_of}
use Rattle.shop_jobs.specs.Job.{AdditionView}
use Rattle.shop_jobs.specs.declared.input.VolumeOptions.{VolumeOptions}
use Rattle.shop_replies.specs.ContainerReply.{IsInShell}
use Rattle.shop_replies.specs.Reply.{IsHanded, IsTold, failed, made_of, refused, text_of}
use Rattle.shop_replies.specs.Volume.{LacksUnit}
use Rattle.shop_replies.specs.declared.refusal.Failure.TheVariants as failures
use Rattle.shop_replies.specs.declared.refusal.Failure.{Failure}
use Rattle.shop_replies.specs.declared.refusal.Refusal.TheVariants as refusals
use Rattle.shop_replies.specs.declared.refusal.Refusal.{Refusal}
use Rattle.shop_replies.specs.declared.reply.Reply.{Reply}
use Rattle.shop_replies.specs.declared.reply.Status.TheVariants.{Done, Refused}
use Rattle.shop_replies.specs.declared.reply.Told.TheVariants as tells
use Rattle.shown_text.specs.Escaping.{escaped}
use Rattle.vol_format.specs.Accepted.{IsVolume}
use Rattle.vol_format.specs.Meaning.{Meaning}

-- ---- one entry of the folder

-- a refusal for what an entry says or holds; that the volume is not accepted is none
abbrev pub IsOfEntry : Reply → Type 0
IsOfEntry reply = (reply.status ≡ Refused) × (reply.told ≢ tells.Refusal refusals.Check)

-- a line with the path of an entry in the place of its end
abbrev pub line_at : Text → Text → Text
line_at told path = take (length told - 1) told ++ line (codes " " ++ escaped path)

-- a refusal for an entry is told with its path behind it, or there was no memory for that; anything else as it is
abbrev pub TellsAt : Text → Reply → Reply → Type 0
TellsAt path told reply =
    (¬ IsOfEntry told × (reply ≡ told))
    ⊎ (IsOfEntry told × ((IsTold Refused reply × (text_of reply ≡ line_at (text_of told) path))
    ⊎ (reply ≡ failed failures.Memory)))

-- the path of the entry of a number
abbrev pub path_of : List EntryView → ℕ → Text
path_of entries number = (slice_index_or entries number (record { path = codes ""; kind = Other })).path

-- ---- the items of a plan

-- what is added: the folder, its plan and the date of each file and directory
pub record AdditionTo : Type 0 where
  pub folder : AddedFolder
  pub plan : PlanView
  pub date : ProDate

abbrev pub batch_of : AdditionTo → BatchView
batch_of adding = record {
  file_system = adding.folder.file_system;
  date = adding.date;
  items = adding.plan.items;
  files = adding.plan.files;
}

-- What is told where all were saved, with the image that is now under the device.
pub record TellsAdded (adding : AdditionTo) (device : DeviceState) (reply : Reply) : Type 0 where
  pub done : IsHanded Done reply
  pub told : text_of reply ≡ added_text (batch_of adding) adding.folder.entries adding.plan.passed
  pub made : AreBytesOf device (made_of reply)

-- All items were saved, one after the other, and nothing else was done to the device. From each readable form that
-- stands beside a file just the bytes of that are taken. The text tells the items and what was passed over, and the
-- image is the one under the device.
pub record IsAllAdded (adding : AdditionTo) (holds : Option (ℕ → List ℕ)) (saves : SaveMeaning) (format : Meaning)
    (device : DeviceState) (reply : Reply) : Type 0 where
  pub left : DeviceState
  pub added : AreAdded (batch_of adding) holds saves format 0 adding.plan.items device left
  pub stored : IfSome holds (λ contents. HasAdded saves format
      (new_files (batch_of adding) contents 0 adding.plan.items) device.store left.store)
  pub alike : IfSome holds (λ contents. AreGivenBack (batch_of adding) contents)
  pub tells : TellsAdded adding left reply
  pub kept : KeepsBytes device (made_of reply)

-- An item was not saved: those before it were, and it is told why, with the path of its entry, or of the readable form
-- beside it.
pub record IsNotAllAdded {H : Type 0} (may_fail : H → ℕ → Failure → Type 0) (adding : AdditionTo)
    (holds : Option (ℕ → List ℕ))
    (saves : SaveMeaning) (format : Meaning) (device : DeviceState) (reply : Reply) : Type 0 where
  pub left : DeviceState
  pub item : RefusedItem
  pub refused : HasRefused may_fail (batch_of adding) holds saves format device left item
  pub told : TellsAt (path_of adding.folder.entries item.file) item.reply reply

-- what became of the items of a plan on a volume that has its directories
abbrev pub AreToldItems : {H : Type 0} → (H → ℕ → Failure → Type 0) → AdditionTo → Option (ℕ → List ℕ) → SaveMeaning
    → Meaning → DeviceState → Reply → Type 0
AreToldItems may_fail adding holds saves format device reply =
    IsAllAdded adding holds saves format device reply ⊎ IsNotAllAdded may_fail adding holds saves format device reply

-- ---- a plan

abbrev pub making_of : AdditionTo → ChangedMeaning → Making
making_of adding format = making_by format.directories format.units adding.date

-- All directories are there, and this is told of the items on the volume that has them.
pub record IsToldBehind {H : Type 0} (may_fail : H → ℕ → Failure → Type 0) (adding : AdditionTo)
    (holds : Option (ℕ → List ℕ))
    (format : ChangedMeaning) (device : DeviceState) (reply : Reply) : Type 0 where
  pub between : DeviceState
  pub kept : AreKept (making_of adding format) adding.plan.directories device between
  pub stored : HasDirectories (making_of adding format) adding.plan.directories device.store between.store
  pub told : AreToldItems may_fail adding holds format.edits.save format.units between reply

-- A directory is not there and was not made: those before it are there, and it is told why, with the path of its
-- folder.
pub record IsNotAllMade (adding : AdditionTo) (format : ChangedMeaning) (device : DeviceState)
    (reply : Reply) : Type 0 where
  pub left : DeviceState
  pub unmade : Unmade
  pub refused : HasNoDirectory (making_of adding format) adding.plan.directories device left unmade
  pub told : TellsAt (path_of adding.folder.entries (slice_index_or adding.plan.folders unmade.directory 0))
      unmade.reply reply

abbrev pub IsPlanTold : {H : Type 0} → (H → ℕ → Failure → Type 0) → AdditionTo → Option (ℕ → List ℕ) → ChangedMeaning
    → DeviceState → Reply → Type 0
IsPlanTold may_fail adding holds format device reply =
    IsToldBehind may_fail adding holds format device reply ⊎ IsNotAllMade adding format device reply

-- What is told of a plan: that the volume is not accepted, or could not be looked at; or what became of its directories
-- and items on a volume that is accepted.
abbrev pub IsPlanReply : {H : Type 0} → (H → ℕ → Failure → Type 0) → AdditionTo → Option (ℕ → List ℕ) → ChangedMeaning
    → DeviceState → Reply → Type 0
IsPlanReply may_fail adding holds format device reply =
    ((reply ≡ refused refusals.Check) × ¬ IsVolume format.units device.store)
    ⊎ ((reply ≡ failed failures.Device) × LacksUnit device)
    ⊎ (reply ≡ failed failures.Memory)
    ⊎ (IsVolume format.units device.store × IsPlanTold may_fail adding holds format device reply)

-- ---- the folder

-- What is told of the folder: the first entry that is refused, before anything is read; or what is told of its plan.
abbrev pub IsFolderReply : {H : Type 0} → (H → ℕ → Failure → Type 0) → AddedFolder → ProDate → Option (ℕ → List ℕ)
    → ChangedMeaning → DeviceState → Reply → Type 0
IsFolderReply may_fail folder date holds format device reply =
    (reply ≡ failed failures.Memory)
    ⊎ ((number : ℕ) × (refusal : Refusal) × IsFirstRefused folder number refusal
    × TellsAt (path_of folder.entries number) (refused refusal) reply)
    ⊎ ((plan : PlanView) × IsPlan folder plan
    × IsPlanReply may_fail (record { folder = folder; plan = plan; date = date }) holds format device reply)

-- the entries of a folder, added as words say it
abbrev pub folder_by : VolumeOptions → AdditionView → List EntryView → AddedFolder
folder_by volume words entries = record { file_system = volume.file_system; into = words.into; entries = entries }

-- What is told of an image: `Date` first, where the words say none; then what is told of its volume.
abbrev pub IsAddReply : {H : Type 0} → (H → ℕ → Failure → Type 0) → VolumeOptions → Option Text → AdditionView
    → List EntryView → Option (ℕ → List ℕ) → List ℕ → Reply → Type 0
IsAddReply may_fail volume reserve words entries holds image reply =
    ((reply ≡ refused refusals.Date) × ¬ NamesDate words.date)
    ⊎ ((date : ProDate) × IsDateOf words.date date
    × IsVolumeReply volume reserve image (λ reserved device told.
    IsFolderReply may_fail (folder_by volume words entries) date holds (changed_by volume reserved) device told) reply)

-- the image that is handed out stands in the shell of the container, where there is one
abbrev pub IsShelled : Option (Shell Global) → Reply → Reply → Type 0
IsShelled None told reply = reply ≡ told
IsShelled (Some shell) told reply = IsInShell shell.front.items shell.back.items told reply

-- What is answered where the volume is known, and `Unknown` where it is left to the image and not settled.
abbrev pub IsAddAnswerOf : {H : Type 0} → (H → ℕ → Failure → Type 0) → Option VolumeOptions → Option Text → AdditionView
    → List EntryView → Option (ℕ → List ℕ) → List ℕ → Option (Shell Global) → Reply → Type 0
IsAddAnswerOf may_fail None reserve words entries holds image shell reply = reply ≡ refused refusals.Unknown
IsAddAnswerOf may_fail (Some volume) reserve words entries holds image shell reply =
    (told : Reply) × IsAddReply may_fail volume reserve words entries holds image told × IsShelled shell told reply

-- What is answered to a job that adds the files of a folder, of which these are the entries, to the volume that an
-- image is read as.
abbrev pub IsAddAnswer : {H : Type 0} → (H → ℕ → Failure → Type 0) → ReadingView → AdditionView → List EntryView
    → Option (ℕ → List ℕ) → List ℕ → Option (Shell Global) → Reply → Type 0
IsAddAnswer may_fail reading words entries holds image shell reply =
    IsAddAnswerOf may_fail (volume_of reading) (reserve_of reading) words entries holds image shell reply
