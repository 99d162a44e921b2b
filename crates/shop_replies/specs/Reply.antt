-- What a job answers, and how it is told.
use Rattle.std.specs.Prelude.{◌≡◌, ◌⊎◌, ◌-◌, ℕ, List, [], ◌++◌, Option, Some, None, IsSome, length, option_map, unwrap_or, take, codes, string_bytes}
use Rattle.std.specs.Io.KnownBytes.{Appends, Keeps}
use Rattle.a2_image.specs.declared.error.ImageError.{ImageError}
use Rattle.a2_image.specs.declared.error.ImageError.TheVariants as images
use Rattle.disk_container.specs.declared.error.ContainerFault.{ContainerFault}
use Rattle.disk_container.specs.declared.error.ContainerFault.TheVariants as container_faults
use Rattle.file_listings.specs.ProLines.{listed_in, listed_text}
use Rattle.file_listings.specs.ProSteps.{plan_in, plan_text}
use Rattle.shop_replies.specs.declared.refusal.Refusal.{Refusal}
use Rattle.shop_replies.specs.declared.refusal.Refusal.TheVariants as refusals
use Rattle.shop_replies.specs.declared.refusal.Failure.{Failure}
use Rattle.shop_replies.specs.declared.refusal.Failure.TheVariants as failures
use Rattle.shop_replies.specs.declared.refusal.Side.{Side}
use Rattle.shop_replies.specs.declared.refusal.Side.TheVariants.{First, Second}
use Rattle.shop_replies.specs.declared.reply.Reply.{Reply}
use Rattle.shop_replies.specs.declared.reply.Status.{Status}
use Rattle.shop_replies.specs.declared.reply.Status.TheVariants as statuses
use Rattle.shop_replies.specs.declared.reply.Told.{Told}
use Rattle.shop_replies.specs.declared.reply.Told.TheVariants as tells

abbrev pub container_line : ContainerFault → List ℕ
container_line container_faults.Magic = codes "REFUSED Container Magic\n"
container_line container_faults.Header = codes "REFUSED Container Header\n"
container_line container_faults.Format = codes "REFUSED Container Format\n"
container_line container_faults.Data = codes "REFUSED Container Data\n"
container_line container_faults.Length = codes "REFUSED Container Length\n"

abbrev pub refusal_line : Refusal → List ℕ
refusal_line refusals.InPlace = codes "REFUSED InPlace\n"
refusal_line (refusals.Container fault) = container_line fault
refusal_line refusals.Protected = codes "REFUSED Protected\n"
refusal_line refusals.Type = codes "REFUSED Type\n"
refusal_line refusals.Date = codes "REFUSED Date\n"
refusal_line refusals.Reserve = codes "REFUSED Reserve\n"
refusal_line refusals.Length = codes "REFUSED Length\n"
refusal_line refusals.Check = codes "REFUSED Check\n"
refusal_line refusals.NotFound = codes "REFUSED NotFound\n"
refusal_line refusals.Name = codes "REFUSED Name\n"
refusal_line refusals.Exists = codes "REFUSED Exists\n"
refusal_line refusals.Locked = codes "REFUSED Locked\n"
refusal_line refusals.TooLong = codes "REFUSED TooLong\n"
refusal_line refusals.DirFull = codes "REFUSED DirFull\n"
refusal_line refusals.VolumeFull = codes "REFUSED VolumeFull\n"
refusal_line refusals.NoFreePlace = codes "REFUSED NoFreePlace\n"
refusal_line refusals.Folder = codes "REFUSED Folder\n"
refusal_line refusals.TooDeep = codes "REFUSED TooDeep\n"
refusal_line refusals.TooLarge = codes "REFUSED TooLarge\n"
refusal_line refusals.Form = codes "REFUSED Form\n"
refusal_line refusals.InputTooLong = codes "REFUSED InputTooLong\n"
refusal_line refusals.Single = codes "REFUSED Single\n"
refusal_line refusals.NoSector = codes "REFUSED NoSector\n"
refusal_line refusals.Host = codes "REFUSED Host\n"
refusal_line refusals.Differs = codes "REFUSED Differs\n"
refusal_line refusals.Ambiguous = codes "REFUSED Ambiguous\n"
refusal_line refusals.Unknown = codes "REFUSED Unknown\n"

abbrev pub failure_line : Failure → List ℕ
failure_line failures.Input = codes "FAILED Input\n"
failure_line failures.Device = codes "FAILED Device\n"
failure_line failures.Memory = codes "FAILED Memory\n"

-- a line with the number of an image in the place of its end
abbrev pub number_end : Side → List ℕ
number_end First = codes " 1\n"
number_end Second = codes " 2\n"

abbrev pub numbered : Side → List ℕ → List ℕ
numbered side line = take (length line - 1) line ++ number_end side

-- the status as the program's: 0 done, 1 something is wrong, 3 refused, 4 failed
abbrev pub status_number : Status → ℕ
status_number statuses.Done = 0
status_number statuses.Wrong = 1
status_number statuses.Refused = 3
status_number statuses.Failed = 4

-- the text of what is told
abbrev pub told_text : Told → List ℕ
told_text tells.Ok = codes "OK\n"
told_text (tells.Text text) = string_bytes text
told_text (tells.Bytes bytes) = bytes.items
told_text (tells.Report line certificate) = string_bytes line ++ certificate.items
told_text (tells.Faults text files) = string_bytes text
told_text (tells.Listing lines) = listed_text (listed_in lines)
told_text (tells.Plan lines) = plan_text (plan_in lines)
told_text (tells.Refusal refusal) = refusal_line refusal
told_text (tells.Failure failure) = failure_line failure
told_text (tells.RefusalOf side refusal) = numbered side (refusal_line refusal)
told_text (tells.FailureOf side failure) = numbered side (failure_line failure)

-- the certificate that is told behind the line of a report; none of anything else
abbrev pub certificate_in : Told → Option (List ℕ)
certificate_in (tells.Report line certificate) = Some certificate.items
certificate_in told = None

-- the lines that name the files of faults: they are kept beside the lines of the faults, and not told
abbrev pub fault_files_in : Told → Option (List ℕ)
fault_files_in (tells.Faults text files) = Some (string_bytes files)
fault_files_in told = None

-- of a reply the status, what is written of it, and what the output file gets
abbrev pub status_of : Reply → ℕ
status_of reply = status_number reply.status

abbrev pub text_of : Reply → List ℕ
text_of reply = told_text reply.told

abbrev pub made_of : Reply → List ℕ
made_of reply = unwrap_or (option_map (λ image. image.items) reply.image) []

-- a job was refused, or something failed under it
abbrev pub refused : Refusal → Reply
refused refusal = record { status = statuses.Refused; told = tells.Refusal refusal; image = None }

abbrev pub failed : Failure → Reply
failed failure = record { status = statuses.Failed; told = tells.Failure failure; image = None }

-- the same of one of two images
abbrev pub refused_of : Side → Refusal → Reply
refused_of side refusal = record { status = statuses.Refused; told = tells.RefusalOf side refusal; image = None }

abbrev pub failed_of : Side → Failure → Reply
failed_of side failure = record { status = statuses.Failed; told = tells.FailureOf side failure; image = None }

-- what is told, with the image of which it refuses or fails; want of memory is of none
abbrev pub told_of_image : Side → Told → Told
told_of_image side (tells.Refusal refusal) = tells.RefusalOf side refusal
told_of_image side (tells.Failure failures.Input) = tells.FailureOf side failures.Input
told_of_image side (tells.Failure failures.Device) = tells.FailureOf side failures.Device
told_of_image side told = told

abbrev pub of_image : Side → Reply → Reply
of_image side reply = record reply { told = told_of_image side reply.told }

-- a reply with a status, which hands out no image, or hands one out
abbrev pub IsTold : Status → Reply → Type 0
IsTold status reply = (reply.status ≡ status) × (reply.image ≡ None)

abbrev pub IsMade : Reply → Type 0
IsMade reply = IsSome reply.image

abbrev pub IsHanded : Status → Reply → Type 0
IsHanded status reply = (reply.status ≡ status) × IsMade reply

-- the image that a job has made, with `OK`, and the image as it stands after a failure of the device
abbrev pub IsMadeReply : Reply → Type 0
IsMadeReply reply = IsHanded statuses.Done reply × (reply.told ≡ tells.Ok)

abbrev pub IsInterrupted : Reply → Type 0
IsInterrupted reply = IsHanded statuses.Failed reply × (reply.told ≡ tells.Failure failures.Device)

-- what the writers of the text and of the output file hold, where that is known
pub record Held : Type 0 where
  pub text : Option (List ℕ)
  pub out : Option (List ℕ)

abbrev pub held : Option (List ℕ) → Option (List ℕ) → Held
held text out = record { text = text; out = out }

-- a writer took a front of these bytes, behind what it had
abbrev pub AppendsFront : Option (List ℕ) → Option (List ℕ) → List ℕ → Type 0
AppendsFront old new bytes = (n : ℕ) × Appends old new (take n bytes)

-- bytes were written, and this is the status; or the writer failed behind a front of them, and it is 4
abbrev pub IsWritten : ℕ → List ℕ → ℕ → Option (List ℕ) → Option (List ℕ) → Type 0
IsWritten status bytes result old new =
    ((result ≡ status) × Appends old new bytes) ⊎ ((result ≡ 4) × AppendsFront old new bytes)

-- A reply was told and its image handed out, behind what the writers had. Or a writer failed, and the status is 4: the
-- text's, behind a front of the text, and nothing was handed out; or the output file's, behind a front of the image,
-- once all of the text was told.
abbrev pub IsDelivered : Reply → ℕ → Held → Held → Type 0
IsDelivered reply status old new =
    ((status ≡ status_of reply) × Appends old.text new.text (text_of reply) × Appends old.out new.out (made_of reply))
    ⊎ ((status ≡ 4) × AppendsFront old.text new.text (text_of reply) × Keeps old.out new.out)
    ⊎ ((status ≡ 4) × Appends old.text new.text (text_of reply) × AppendsFront old.out new.out (made_of reply))

-- the image of a reply is handed out, once its text is told: the status is the reply's, or a writer failed
abbrev pub HandsOut : Reply → ℕ → Option (List ℕ) → Option (List ℕ) → Type 0
HandsOut reply status old new = Appends old new (text_of reply) × ((status ≡ status_of reply) ⊎ (status ≡ 4))

-- some reply's image is handed out
abbrev pub HandsImage : ℕ → Option (List ℕ) → Option (List ℕ) → Type 0
HandsImage status old new = (reply : Reply) × IsMade reply × HandsOut reply status old new

-- the reply to an image that is not taken
abbrev pub reply_to_image : ImageError → Reply
reply_to_image images.Memory = failed failures.Memory
reply_to_image images.Length = refused refusals.Length
reply_to_image images.Number = refused refusals.Length
reply_to_image images.NoSector = refused refusals.NoSector
