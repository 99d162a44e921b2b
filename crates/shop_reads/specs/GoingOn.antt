-- What a look does where a unit can't be read.
use Rattle.std.specs.Prelude.{◌≢◌, ℕ, Bool, Contains, IsTrue, if◌then◌else◌}
use Rattle.a2_device.specs.Device.{DeviceState, OnlyReads}
use Rattle.file_cmds.specs.ReadingOn.{FailedAt, FailedBetween, ReadsOn}
use Rattle.shop_jobs.specs.Job.{LookView, Entries, Check, Compare}
use Rattle.shop_jobs.specs.declared.looks.ListOptions.{ListOptions}
use Rattle.shop_replies.specs.declared.refusal.Failure.TheVariants as failures
use Rattle.shop_replies.specs.declared.reply.Reply.{Reply}
use Rattle.shop_replies.specs.Reply.{failed}
use Rattle.shop_replies.specs.Volume.{LacksUnit}
use Rattle.shop_reads.specs.EntriesReply.{reads_files}
use Rattle.shop_volumes.specs.TellingFailures.{FailsForLack, tells_device}

-- It ends there; or it goes on, and tells which file can't be read, or which unit.
pub data Going : Type 0 where
  Ends : Going
  TellsFile : Going
  TellsUnit : Going

abbrev pub list_going : ListOptions → Going
list_going options = if reads_files options then TellsFile else Ends

abbrev pub check_going : Bool → Going
check_going bodies = if bodies then TellsUnit else Ends

abbrev pub going_of : LookView → Going
going_of (Entries options) = list_going options
going_of (Check bodies) = check_going bodies
going_of (Compare options) = TellsFile
going_of look = Ends

-- Calls that read alone, some of which may have failed; a failure of the device is told only where one has.
pub record ReadsAll (reply : Reply) (old new : DeviceState) : Type 0 where
  pub reads : ReadsOn old new
  pub told : IsTrue (tells_device reply) → IsTrue old.honest → FailedBetween old new

-- Calls that read alone: of a look that ends where one fails, one failed where the reply tells it.
abbrev pub ReadsBy : Going → Reply → DeviceState → DeviceState → Type 0
ReadsBy Ends reply old new = OnlyReads (tells_device reply) old new
ReadsBy TellsFile reply old new = ReadsAll reply old new
ReadsBy TellsUnit reply old new = ReadsAll reply old new

-- What failed has failed since a unit can't be read; where units are told, since that very unit can't be.
abbrev pub FailsForLackBy : Going → Reply → DeviceState → DeviceState → Type 0
FailsForLackBy Ends reply old new = FailsForLack old reply
FailsForLackBy TellsFile reply old new = FailedBetween old new → LacksUnit old
FailsForLackBy TellsUnit reply old new = (place : ℕ) → FailedAt place old new → Contains old.unreadable place

-- No failure is told, or what failed has failed since a unit can't be read.
abbrev pub HasNotFailedBy : Going → Reply → DeviceState → DeviceState → Type 0
HasNotFailedBy Ends reply old new = reply ≢ failed failures.Device
HasNotFailedBy TellsFile reply old new = FailsForLackBy TellsFile reply old new
HasNotFailedBy TellsUnit reply old new = FailsForLackBy TellsUnit reply old new

-- ---- by the look

abbrev pub ReadsFor : LookView → Reply → DeviceState → DeviceState → Type 0
ReadsFor look reply old new = ReadsBy (going_of look) reply old new

abbrev pub FailsForLackIn : LookView → Reply → DeviceState → DeviceState → Type 0
FailsForLackIn look reply old new = FailsForLackBy (going_of look) reply old new

abbrev pub HasNotFailed : LookView → Reply → DeviceState → DeviceState → Type 0
HasNotFailed look reply old new = HasNotFailedBy (going_of look) reply old new
