-- What a job that puts the files of a volume into a folder does, and what it tells.
use Rattle.std.specs.Prelude.{◌≡◌, ◌⊎◌, ◌==◌, ℕ, Bool, List, [], Option, if◌then◌else◌}
use Rattle.std.specs.Io.KnownBytes.{Appends}
use Rattle.a2_device.specs.Device.{DeviceState}
use Rattle.vol_format.specs.Directory.{Listed}
use Rattle.host_folders.specs.Folder.{FolderState}
use Rattle.host_folders.specs.declared.folder.FolderFailure.{FolderFailure}
use Rattle.host_folders.specs.declared.folder.FolderFailure.TheVariants as folders
use Rattle.volume_extract.specs.ExtractText.{extract_text, totals_of}
use Rattle.volume_extract.specs.Extraction.{IsExtraction, IsRefused, NothingIsMade, Plan, plan_of}
use Rattle.volume_extract.specs.Items.{Item}
use Rattle.volume_extract.specs.Names.{dos_own, pro_own}
use Rattle.volume_extract.specs.declared.error.ExtractError.{ExtractError}
use Rattle.volume_extract.specs.declared.error.ExtractError.TheVariants as errors
use Rattle.volume_extract.specs.declared.texts.Options.{Options}
use Rattle.shop_jobs.specs.declared.folders.ExtractOptions.{ExtractOptions}
use Rattle.shop_jobs.specs.declared.input.FileSystem.{FileSystem}
use Rattle.shop_jobs.specs.declared.input.FileSystem.TheVariants.{Dos, Prodos}
use Rattle.shop_jobs.specs.declared.input.VolumeOptions.{VolumeOptions}
use Rattle.shop_replies.specs.declared.refusal.Failure.TheVariants as failures
use Rattle.shop_replies.specs.declared.refusal.Refusal.TheVariants as refusals
use Rattle.shop_replies.specs.Reply.{AppendsFront, failed, refused}
use Rattle.shop_replies.specs.Volume.{form_of, meaning_of}
use Rattle.shop_volumes.specs.VolumeFiles.{files_of}
use Rattle.shop_commands.specs.declared.extracting.NotExtracted.{NotExtracted}
use Rattle.shop_commands.specs.declared.extracting.NotExtracted.TheVariants.{Refused, Folder, Text}

-- the own name of an entry in a file system
abbrev pub own_of : FileSystem → Listed → List ℕ
own_of Dos = dos_own
own_of Prodos = pro_own

-- how the files of a volume are put into a folder, in the words of the extraction
abbrev pub options_of : ExtractOptions → Options
options_of options = record { naming = options.naming; texts = options.texts; most = options.most }

-- how a volume of a file system is extracted, on a data disk or another
abbrev pub plan_in : FileSystem → Bool → ExtractOptions → Plan
plan_in file_system data_disk options =
    plan_of (form_of file_system) (options_of options) (files_of file_system)
    (meaning_of file_system data_disk []) (own_of file_system)

-- how one that is read so is extracted: no places are reserved
abbrev pub plan_for : VolumeOptions → ExtractOptions → Plan
plan_for volume options = plan_in volume.file_system volume.data_disk options

-- the status of an extraction: 1 where a file can't be read
abbrev pub extract_status : List Item → ℕ
extract_status items = if (totals_of items).unreadable == 0 then 0 else 1

-- all of its text was told, and this is the status
abbrev pub IsExtractTold : ℕ → Option (List ℕ) → Option (List ℕ) → List Item → Type 0
IsExtractTold status old new items = (status ≡ extract_status items) × Appends old new (extract_text items)

-- a front of it was told, to a writer that failed
abbrev pub IsExtractCut : Option (List ℕ) → Option (List ℕ) → List Item → Type 0
IsExtractCut old new items = AppendsFront old new (extract_text items)

-- why nothing is extracted where a call of the folder failed
abbrev pub by_folder : FolderFailure → NotExtracted
by_folder folders.Memory = Refused (failed failures.Memory)
by_folder folders.Failed = Folder

-- why nothing is extracted
abbrev pub not_extracted : ExtractError → NotExtracted
not_extracted errors.Check = Refused (refused refusals.Check)
not_extracted errors.Device = Refused (failed failures.Device)
not_extracted errors.TooDeep = Refused (refused refusals.TooDeep)
not_extracted errors.TooLarge = Refused (refused refusals.TooLarge)
not_extracted (errors.Folder failure) = by_folder failure
not_extracted errors.Memory = Refused (failed failures.Memory)

-- Why nothing is extracted, and what was made then; or there was no memory before anything was made.
abbrev pub RefusesBy : {O : Type 0} → (O → FolderState) → (O → FolderFailure → Type 0) → Plan → DeviceState
    → DeviceState → FolderState → FolderState → NotExtracted → Type 0
RefusesBy state may_fail plan device device_now folder folder_now error =
    ((cause : ExtractError) × (error ≡ not_extracted cause)
    × IsRefused state may_fail plan device device_now folder folder_now cause)
    ⊎ ((error ≡ Refused (failed failures.Memory)) × NothingIsMade folder folder_now)

-- Why the files of a volume were not put into a folder and told. The files are refused, or something failed, and
-- nothing was told; or all of them are in the folder, and the text could not be written.
abbrev pub IsNotExtractedBy : {O : Type 0} → (O → FolderState) → (O → FolderFailure → Type 0) → Plan → DeviceState
    → DeviceState → FolderState → FolderState → Option (List ℕ) → Option (List ℕ) → NotExtracted → Type 0
IsNotExtractedBy state may_fail plan device device_now folder folder_now old new Text =
    IsExtraction plan device device_now folder folder_now (IsExtractCut old new)
IsNotExtractedBy state may_fail plan device device_now folder folder_now old new (Refused reply) =
    (new ≡ old) × RefusesBy state may_fail plan device device_now folder folder_now (Refused reply)
IsNotExtractedBy state may_fail plan device device_now folder folder_now old new Folder =
    (new ≡ old) × RefusesBy state may_fail plan device device_now folder folder_now Folder
