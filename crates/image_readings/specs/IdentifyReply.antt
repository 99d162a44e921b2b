-- The reply to `identify`.
use Rattle.std.specs.Prelude.{◌≡◌, ◌≢◌, ◌⊎◌, ℕ, ◌==◌, ◌%◌, nat_le, ◌&&◌, Bool, List, [], ◌∷◌, ◌++◌, length, map, filter, All}
use Rattle.a2_device.specs.declared.order.Order.{Order}
use Rattle.a2_device.specs.declared.order.Order.TheVariants as orders
use Rattle.disk_container.specs.declared.container.Container.{Container}
use Rattle.disk_container.specs.declared.error.ContainerFault.{ContainerFault}
use Rattle.disk_container.specs.Container.{IsContainer, payload_in}
use Rattle.disk_container.specs.Faults.{IsFault}
use Rattle.disk_container.specs.Format.{BeginsLikeContainer}
use Rattle.shop_jobs.specs.declared.input.FileSystem.{FileSystem}
use Rattle.shop_jobs.specs.declared.input.FileSystem.TheVariants as systems
use Rattle.shop_replies.specs.declared.refusal.Refusal.TheVariants as refusals
use Rattle.shop_replies.specs.declared.refusal.Failure.TheVariants as failures
use Rattle.shop_replies.specs.declared.reply.Reply.{Reply}
use Rattle.shop_replies.specs.Reply.{IsTold, failed, refused, text_of}
use Rattle.shop_replies.specs.Disk.{disk_bytes}
use Rattle.shop_replies.specs.declared.reply.Status.TheVariants.{Done, Wrong}
use Rattle.image_readings.specs.declared.reading.Reading.{Reading}
use Rattle.image_readings.specs.declared.ranking.Verdict.{Verdict}
use Rattle.image_readings.specs.declared.ranking.Verdict.TheVariants.{Best, Ambiguous, NoVolume}
use Rattle.image_readings.specs.Ranking.{IsVerdict}
use Rattle.image_readings.specs.Readings.{IsReadingOf}
use Rattle.image_readings.specs.IdentifyText.{container_text, identify_text}

-- the ways to read an image, in the order in which they are told
abbrev pub ways : List (FileSystem × Order)
ways = (systems.Dos, orders.Dos) ∷ (systems.Dos, orders.Prodos) ∷ (systems.Dos, orders.Nibble)
    ∷ (systems.Prodos, orders.Dos) ∷ (systems.Prodos, orders.Prodos) ∷ (systems.Prodos, orders.Nibble) ∷ []

-- whether a volume may be read in this way from so many bytes: those of a disk, or in ProDOS order 16 to 65,535 blocks
abbrev pub allows : ℕ → FileSystem × Order → Bool
allows bytes (systems.Prodos, orders.Prodos) = bytes % 512 == 0 && nat_le 8192 bytes && nat_le bytes 33553920
allows bytes (file_system, order) = bytes == disk_bytes order

abbrev pub way_of : Reading → FileSystem × Order
way_of reading = (reading.file_system, reading.order)

-- the readings of an image, one in each of these ways that its length allows
pub record AreReadingsIn (asked : List (FileSystem × Order)) (image : List ℕ) (readings : List Reading) : Type 0 where
  pub in_order : map way_of readings ≡ filter (allows (length image)) asked
  pub each : All (IsReadingOf image) readings

abbrev pub AreReadings : List ℕ → List Reading → Type 0
AreReadings image readings = AreReadingsIn ways image readings

-- a best reading is told as a job that is done, else as what is wrong
abbrev pub Reports : Verdict → Reply → Type 0
Reports (Best number) reply = IsTold Done reply
Reports Ambiguous reply = IsTold Wrong reply
Reports NoVolume reply = IsTold Wrong reply

-- these readings were ranked and told behind this text, or there was no memory for it
pub record IsRanked (head : List ℕ) (readings : List Reading) (reply : Reply) : Type 0 where
  pub verdict : Verdict
  pub is : IsVerdict readings verdict
  pub reports : Reports verdict reply
  pub text : text_of reply ≡ head ++ identify_text readings verdict

abbrev pub TellsRanked : List ℕ → List Reading → Reply → Type 0
TellsRanked head readings reply = IsRanked head readings reply ⊎ (reply ≡ failed failures.Memory)

-- the readings of an image were told behind this text, and the verdict
pub record IsIdentified (head image : List ℕ) (reply : Reply) : Type 0 where
  pub readings : List Reading
  pub are : AreReadings image readings
  pub some : readings ≢ []
  pub ranked : IsRanked head readings reply

-- The reply to an image: the readings and the verdict, behind this text; `Length` where the length allows no reading;
-- or want of memory.
abbrev pub IsImageReply : List ℕ → List ℕ → Reply → Type 0
IsImageReply head image reply =
    IsIdentified head image reply
    ⊎ ((reply ≡ refused refusals.Length) × (filter (allows (length image)) ways ≡ []))
    ⊎ (reply ≡ failed failures.Memory)

-- The reply to a file: that to an image; that to the payload of a container, behind what the container says; or what is
-- wrong with a file that begins like a container and is none.
abbrev pub IsIdentifyReply : List ℕ → Reply → Type 0
IsIdentifyReply file reply =
    ((¬ BeginsLikeContainer file) × IsImageReply [] file reply)
    ⊎ ((container : Container) × IsContainer file container
    × IsImageReply (container_text container) (payload_in file container) reply)
    ⊎ ((fault : ContainerFault) × BeginsLikeContainer file × IsFault file fault
    × (reply ≡ refused (refusals.Container fault)))
