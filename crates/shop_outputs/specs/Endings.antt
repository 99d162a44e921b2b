-- How a job with output files ends.
use Rattle.std.specs.Prelude.{◌≡◌, ◌≢◌, ◌⊎◌, ℕ, codes, List, Option, Some, None}
use Rattle.std.specs.Io.KnownBytes.{Keeps}
use Rattle.std.specs.declared.io.ErrorKind.{ErrorKind}
use Rattle.std.specs.declared.io.ErrorKind.TheVariants.{OutOfMemory}
use Rattle.shop_replies.specs.Reply.{AppendsFront, IsWritten, failure_line, status_of, text_of}
use Rattle.shop_replies.specs.declared.reply.Reply.{Reply}
use Rattle.shop_replies.specs.declared.refusal.Failure.TheVariants.{Memory}
use Rattle.shop_outputs.specs.declared.ending.Ending.{Ending}
use Rattle.shop_outputs.specs.declared.ending.Unwritten.{Unwritten}
use Rattle.shop_outputs.specs.declared.ending.Unwritten.TheVariants.{Text, Image, ImageAfterText, ImageAfterCertificate, Certificate, Folder}

-- something could not be written, and the status is 4
abbrev pub stopped : Unwritten → Ending
stopped unwritten = record { status = 4; unwritten = Some unwritten }

-- want of memory was told, and nothing else
abbrev pub IsOutOfMemory : Ending → Option (List ℕ) → Option (List ℕ) → Type 0
IsOutOfMemory ending old new = (ending.unwritten ≡ None) × IsWritten 4 (failure_line Memory) ending.status old new

-- the image or the certificate could not take its place
abbrev pub IsOutOfPlace : Unwritten → Type 0
IsOutOfPlace unwritten = (unwritten ≡ ImageAfterText) ⊎ (unwritten ≡ ImageAfterCertificate) ⊎ (unwritten ≡ Certificate)

-- An output file could not be put onto the disk, for such a reason: want of memory was told, or nothing was, and it is
-- known which file that is.
abbrev pub IsUnflushed : ErrorKind → Unwritten → Ending → Option (List ℕ) → Option (List ℕ) → Type 0
IsUnflushed kind unwritten ending old new =
    ((kind ≡ OutOfMemory) × IsOutOfMemory ending old new)
    ⊎ ((kind ≢ OutOfMemory) × (ending ≡ stopped unwritten) × Keeps old new)

-- the image or the certificate could not be put onto the disk
abbrev pub IsOffDisk : Unwritten → Type 0
IsOffDisk unwritten = (unwritten ≡ Image) ⊎ (unwritten ≡ Certificate)

-- where the image could not be written, nothing was told
abbrev pub IsImageUntold : Ending → Option (List ℕ) → Option (List ℕ) → Type 0
IsImageUntold ending old new =
    ((ending ≡ stopped Image) ⊎ (ending ≡ stopped ImageAfterText) ⊎ (ending ≡ stopped ImageAfterCertificate))
    → Keeps old new

-- where the image could not be written before anything was told, nothing was
abbrev pub IsUntold : Ending → Option (List ℕ) → Option (List ℕ) → Type 0
IsUntold ending old new = ending ≡ stopped Image → Keeps old new

-- the output file or the new folder could not be written, before anything was told
abbrev pub LacksOutput : Ending → Type 0
LacksOutput ending = (ending.unwritten ≡ Some Image) ⊎ (ending.unwritten ≡ Some Folder)

-- That is told on a line, with status 4 whether the line is written or not; of any other ending nothing more is told.
abbrev pub IsOutputTold : Ending → Ending → Option (List ℕ) → Option (List ℕ) → Type 0
IsOutputTold ending result old new =
    (LacksOutput ending × (result.unwritten ≡ ending.unwritten)
    × IsWritten 4 (codes "FAILED Output\n") result.status old new)
    ⊎ ((¬ LacksOutput ending) × (result ≡ ending) × Keeps old new)

-- where the certificate could not be written, nothing was told
abbrev pub IsCertificateUntold : Ending → Option (List ℕ) → Option (List ℕ) → Type 0
IsCertificateUntold ending old new = ending ≡ stopped Certificate → Keeps old new

abbrev pub IsUnflushedEnding : Ending → Option (List ℕ) → Option (List ℕ) → Type 0
IsUnflushedEnding ending old new =
    (kind : ErrorKind) × (unwritten : Unwritten) × IsOffDisk unwritten × IsUnflushed kind unwritten ending old new

-- an output file could not take its place, once the text was told
abbrev pub IsUnplacedEnding : ℕ → List ℕ → Ending → Option (List ℕ) → Option (List ℕ) → Type 0
IsUnplacedEnding status told ending old new =
    (unwritten : Unwritten) × IsOutOfPlace unwritten × (ending ≡ stopped unwritten)
    × IsWritten status told status old new

-- A job without an image has ended: its text was told with its status, or a front of it to a writer that failed.
abbrev pub IsToldEnding : ℕ → List ℕ → Ending → Option (List ℕ) → Option (List ℕ) → Type 0
IsToldEnding status told ending old new =
    ((ending.unwritten ≡ None) × IsWritten status told ending.status old new)
    ⊎ ((ending ≡ stopped Text) × AppendsFront old new told)

-- A job with output files has ended: as one without an image; or a file could not be put onto the disk, and its text
-- was not told; or its text was told, and then a file could not take its place.
abbrev pub IsEnding : ℕ → List ℕ → Ending → Option (List ℕ) → Option (List ℕ) → Type 0
IsEnding status told ending old new =
    IsToldEnding status told ending old new ⊎ IsUnflushedEnding ending old new
    ⊎ IsUnplacedEnding status told ending old new

-- A job that writes no image in its own file has ended, by its reply: as any with the reply's status and text; or there
-- was no memory for that text, and no part of it was told.
abbrev pub IsReplyEnding : Reply → Ending → Option (List ℕ) → Option (List ℕ) → Type 0
IsReplyEnding reply ending old new =
    IsEnding (status_of reply) (text_of reply) ending old new ⊎ IsOutOfMemory ending old new
