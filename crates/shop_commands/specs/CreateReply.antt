-- What `create` answers: the image of a new volume without a file.
use Rattle.std.specs.Prelude.{◌≡◌, ◌⊎◌, ℕ, true, List, Option, Some, None, codes}
use Rattle.edit_formats.specs.ProNames.{is_pro_name}
use Rattle.file_listings.specs.DosText.{Text}
use Rattle.new_volumes.specs.NewImage.{IsNewImage, RefusesNew}
use Rattle.new_volumes.specs.Wanted.{NewDos, NewPro, Wanted}
use Rattle.new_volumes.specs.declared.error.NewVolumeError.{NewVolumeError}
use Rattle.new_volumes.specs.declared.error.NewVolumeError.TheVariants as errors
use Rattle.pro_dates.specs.SaidDates.{IsDateOf, NamesDate}
use Rattle.pro_dir.specs.Paths.{folded}
use Rattle.pro_dir.specs.declared.date.ProDate.{ProDate}
use Rattle.shop_jobs.specs.Job.{CreationView, DosVolume, NewVolumeView, ProdosVolume}
use Rattle.shop_replies.specs.declared.refusal.Failure.TheVariants as failures
use Rattle.shop_replies.specs.declared.refusal.Refusal.{Refusal}
use Rattle.shop_replies.specs.declared.refusal.Refusal.TheVariants as refusals
use Rattle.shop_replies.specs.declared.reply.Reply.{Reply}
use Rattle.shop_replies.specs.Reply.{IsMadeReply, failed, made_of, refused}

-- the name that is said of a volume, `UNTITLED` where none is
abbrev pub name_said : Option Text → Text
name_said None = codes "UNTITLED"
name_said (Some name) = name

-- such words say a ProDOS volume: its name may be one of a file, and is stored in capitals
pub record SaysProdos (blocks : ℕ) (name date : Option Text) (volume : Wanted) : Type 0 where
  pub moment : ProDate
  pub of : IsDateOf date moment
  pub named : is_pro_name (name_said name) ≡ true
  pub is : volume ≡ NewPro blocks (folded (name_said name)) moment.0

-- the volume that the words say, with this volume number
abbrev pub SaysVolume : NewVolumeView → ℕ → Wanted → Type 0
SaysVolume (DosVolume data_disk) number volume = volume ≡ NewDos number data_disk
SaysVolume (ProdosVolume blocks name date) number volume = SaysProdos blocks name date volume

-- the words say no volume: `Date` for a date that is none, first, and `Name` for a name that no volume may have
abbrev pub RefusesVolume : NewVolumeView → Refusal → Type 0
RefusesVolume (ProdosVolume blocks name date) refusals.Date = ¬ NamesDate date
RefusesVolume (ProdosVolume blocks name date) refusals.Name = NamesDate date × ¬ (is_pro_name (name_said name) ≡ true)
RefusesVolume volume refusal = ⊥

-- what is told of an image that is not made
abbrev pub reply_to_new_error : NewVolumeError → Reply
reply_to_new_error errors.Length = refused refusals.Length
reply_to_new_error errors.BootLength = refused refusals.Length
reply_to_new_error errors.NoSector = refused refusals.NoSector
reply_to_new_error errors.Memory = failed failures.Memory
reply_to_new_error errors.Refused = refused refusals.Check

-- what is told of a volume in this order, and of the bytes of an image whose system is copied, if there is one
abbrev pub IsVolumeMade : CreationView → Option (List ℕ) → Wanted → Reply → Type 0
IsVolumeMade words boot volume reply =
    (IsMadeReply reply × IsNewImage volume words.order words.number boot (made_of reply))
    ⊎ ((error : NewVolumeError) × RefusesNew volume words.order boot error × (reply ≡ reply_to_new_error error))

-- What `create` answers: its words say no volume; or the image of the one that they say, or why it is not made.
abbrev pub IsCreateReply : CreationView → Option (List ℕ) → Reply → Type 0
IsCreateReply words boot reply =
    ((refusal : Refusal) × (reply ≡ refused refusal) × RefusesVolume words.volume refusal)
    ⊎ ((volume : Wanted) × SaysVolume words.volume words.number volume × IsVolumeMade words boot volume reply)
