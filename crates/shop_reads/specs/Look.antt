-- What is told of a volume that is looked at.
use Rattle.std.specs.Prelude.{Bool, true, false, List, []}
use Rattle.a2_device.specs.Device.{DeviceState}
use Rattle.vol_layout.specs.declared.form.PlaceForm.{PlaceForm}
use Rattle.vol_format.specs.Meaning.{Meaning}
use Rattle.file_formats.specs.Files.{FileMeaning}
use Rattle.shop_jobs.specs.Job.{LookView, Catalog, Entries, Check, Map, Compare, Read, Plan, Verify}
use Rattle.shop_jobs.specs.declared.input.FileSystem.{FileSystem}
use Rattle.shop_jobs.specs.declared.input.VolumeOptions.{VolumeOptions}
use Rattle.shop_replies.specs.declared.reply.Reply.{Reply}
use Rattle.shop_replies.specs.Volume.{form_of, meaning_of}
use Rattle.shop_volumes.specs.VolumeFiles.{files_of}
use Rattle.shop_reads.specs.BodiesReply.{IsCheckedWhole}
use Rattle.shop_reads.specs.CatalogReply.{IsListed}
use Rattle.shop_reads.specs.CheckReply.{IsChecked}
use Rattle.shop_reads.specs.CompareReply.{IsComparedBeside}
use Rattle.shop_reads.specs.EntriesReply.{IsEntriesTold}
use Rattle.shop_reads.specs.Extra.{ExtraView, given_bytes}
use Rattle.shop_reads.specs.FileNames.{named_by}
use Rattle.shop_reads.specs.MapReply.{IsMapped}
use Rattle.shop_reads.specs.PlanReply.{IsPlanned}
use Rattle.shop_reads.specs.PlanWords.{IsPlannedInWords}
use Rattle.shop_reads.specs.ReadReply.{IsRead}
use Rattle.shop_reads.specs.VerifyReply.{IsVerified}

-- what a format of volumes is to who is told of one: how its places are named, its files, what its units mean, and what
-- they mean where nothing is reserved
pub record ShownMeaning : Type 1 where
  pub form : PlaceForm
  pub files : FileMeaning
  pub units : Meaning
  pub unreserved : Meaning

-- that of a file system, on a data disk or another, where these places are reserved
abbrev pub shown_in : FileSystem → Bool → List Bool → ShownMeaning
shown_in file_system data_disk reserved = record {
  form = form_of file_system;
  files = files_of file_system;
  units = meaning_of file_system data_disk reserved;
  unreserved = meaning_of file_system data_disk [];
}

-- that of a volume that is read so, where these places are reserved
abbrev pub shown_by : VolumeOptions → List Bool → ShownMeaning
shown_by volume reserved = shown_in volume.file_system volume.data_disk reserved

-- the look reads a file of the volume, and its bytes go to a new file
abbrev pub GoesToFile : LookView → Type 0
GoesToFile (Read name form true) = Unit {0}
GoesToFile look = ⊥

-- what is told of each look at the volume of a device, with what is read beside it: another image, for `compare`, or a
-- certificate, for `verify`
abbrev pub IsLookReply : LookView → ExtraView → ShownMeaning → DeviceState → Reply → Type 0
IsLookReply Catalog extra format device reply = IsListed format.form format.units device reply
IsLookReply (Entries options) extra format device reply =
    IsEntriesTold options format.form format.files format.units device reply
IsLookReply (Check false) extra format device reply = IsChecked format.form format.units device reply
IsLookReply (Check true) extra format device reply = IsCheckedWhole format.form format.files format.units device reply
IsLookReply Map extra format device reply = IsMapped format.form format.units format.unreserved device reply
IsLookReply (Compare options) extra format device reply =
    IsComparedBeside options extra format.form format.files format.units device reply
IsLookReply (Read name form to_file) extra format device reply =
    IsRead (named_by name) form to_file format.form format.files format.units device reply
IsLookReply (Plan reclaim false) extra format device reply = IsPlanned reclaim format.units device reply
IsLookReply (Plan reclaim true) extra format device reply =
    IsPlannedInWords format.form format.files reclaim format.units device reply
IsLookReply (Verify reclaim) extra format device reply =
    IsVerified reclaim (given_bytes extra) format.units device reply
