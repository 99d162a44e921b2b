-- What the program answers to a job on an image, and to words.
use Rattle.std.specs.Prelude.{◌≡◌, ◌⊎◌, ℕ, Bool, true, false, List, [], ◌++◌, Option, Some, None, IfSome, IsSome, codes, option_and_then, option_map, string_bytes}
use Rattle.a2_device.specs.declared.order.Order.{Order}
use Rattle.apple_text.specs.declared.form.HighBit.{HighBit}
use Rattle.apple_text.specs.declared.form.HighBit.TheVariants as high_bits
use Rattle.std.specs.Io.KnownBytes.{Appends, Keeps}
use Rattle.disk_container.specs.declared.container.Container.{Container}
use Rattle.disk_container.specs.Container.{HasParts, IsContainer}
use Rattle.file_listings.specs.DosText.{Text}
use Rattle.file_forms.specs.declared.form.GivenForm.{GivenForm}
use Rattle.file_forms.specs.declared.form.GivenForm.TheVariants as given
use Rattle.shop_changes.specs.GivenWords.{kind_named}
use Rattle.shop_changes.specs.SaidFile.{SaidView}
use Rattle.pro_dates.specs.SaidDates.{IsDateOf, NamesDate}
use Rattle.pro_dir.specs.declared.date.ProDate.{ProDate}
use Rattle.shop_jobs.specs.Input.{AsBytes, BesideView, FileBeside, FolderBeside, FromFile, ImageBeside, InputView, IsRead, IsReadBeside, NothingBeside, Nowhere, ReadingView, SourceView, StandardInput, known_order, order_of, reserve_of, volume_of}
use Rattle.shop_jobs.specs.Job.{AddTo, AskView, AttributesView, Catalog, ChangeOf, ChangeView, Compare, Convert, Create, EditOf, ExtractFrom, Identify, JobView, LookAt, LookView, MakeDirectory, OfTheVolume, Optimize, Reclaim, Save, Survey, Unwrap, VolumeAskView, Wrap, is_in_place}
use Rattle.shop_jobs.specs.declared.changes.SaveForm.{SaveForm}
use Rattle.shop_jobs.specs.declared.changes.SaveForm.TheVariants as save_forms
use Rattle.shop_jobs.specs.declared.input.FileSystem.{FileSystem}
use Rattle.shop_jobs.specs.declared.input.FileSystem.TheVariants as systems
use Rattle.shop_jobs.specs.declared.input.OrderSaid.{OrderSaid}
use Rattle.shop_jobs.specs.declared.input.OrderSaid.TheVariants.{ByContainer, ByReading, Is}
use Rattle.shop_jobs.specs.declared.input.VolumeOptions.{VolumeOptions}
use Rattle.shop_words.specs.Asked.{asked_job, IsTaken}
use Rattle.shop_help.specs.Fault.{IsFaultOf}
use Rattle.shop_help.specs.declared.fault.WordsFault.{WordsFault}
use Rattle.shop_help.specs.declared.fault.WordsFault.TheVariants as words
use Rattle.shop_replies.specs.declared.refusal.Failure.{Failure}
use Rattle.shop_replies.specs.declared.refusal.Failure.TheVariants as failures
use Rattle.shop_replies.specs.declared.refusal.Refusal.{Refusal}
use Rattle.shop_replies.specs.declared.refusal.Refusal.TheVariants as refusals
use Rattle.shop_replies.specs.declared.refusal.Side.{Side}
use Rattle.shop_replies.specs.declared.reply.Reply.{Reply}
use Rattle.shop_replies.specs.ContainerReply.{IsInShell, IsUnwrapReply, IsWrapReply}
use Rattle.shop_replies.specs.ConvertReply.{IsConvertReply}
use Rattle.shop_replies.specs.Disk.{most_bytes}
use Rattle.shop_replies.specs.Reading.{IsReadFailure, most_beside, most_of_image}
use Rattle.shop_replies.specs.Reply.{HandsImage, Held, IsDelivered, IsWritten, failed, failure_line, of_image, refused}
use Rattle.shop_reads.specs.Extra.{ExtraView, FileBytes, ImageBytes}
use Rattle.shop_reads.specs.FileNames.{named_by}
use Rattle.shop_changes.specs.EditRules.{changed_by}
use Rattle.shop_changes.specs.Work.{WorkView}
use Rattle.shop_changes.specs.Work as works
use Rattle.shop_changes.specs.ChangeReply.{IsChangeReply}
use Rattle.shop_reads.specs.DosCatalogReply.{IsDosCatalogReply}
use Rattle.shop_reads.specs.ImageLook.{IsImageLook}
use Rattle.shop_reads.specs.Look.{GoesToFile}
use Rattle.shop_volumes.specs.VolumeReply.{IsVolumeReply}
use Rattle.image_readings.specs.IdentifyReply.{IsIdentifyReply}
use Rattle.shop_commands.specs.CreateReply.{IsCreateReply}

-- after how many writes to stop; without a limit there are never so many
abbrev pub limit_of : Option ℕ → ℕ
limit_of None = 18446744073709551615
limit_of (Some limit) = limit

abbrev pub IsStatus : ℕ → Type 0
IsStatus status = (status ≡ 0) ⊎ (status ≡ 1) ⊎ (status ≡ 3) ⊎ (status ≡ 4)

-- ---- what is asked of a volume

-- the type that the words name, in a file system, or that they name none
abbrev pub kind_said : FileSystem → Option Text → Option (Option ℕ)
kind_said file_system None = Some None
kind_said file_system (Some word) = option_map Some (kind_named file_system word)

-- the highest bit that the texts of a file system have
abbrev pub usual_high : FileSystem → HighBit
usual_high systems.Dos = high_bits.On
usual_high systems.Prodos = high_bits.Off

-- the highest bit of the bytes of a text: the one that is said, or that of the texts of the file system
abbrev pub high_in : FileSystem → Option HighBit → HighBit
high_in file_system (Some high) = high
high_in file_system None = usual_high file_system

-- the form in which a file is given, in a file system
abbrev pub given_in : FileSystem → SaveForm → GivenForm
given_in file_system (save_forms.Text high) = given.Text (high_in file_system high)
given_in file_system save_forms.Applesoft = given.Applesoft
given_in file_system save_forms.Single = given.Single

-- such words and these bytes, given in this form, say the file, in a file system
pub record IsSaid (file_system : FileSystem) (words : AttributesView) (form : Option SaveForm) (content : List ℕ)
    (said : SaidView) : Type 0 where
  pub system : said.file_system ≡ file_system
  pub kind : kind_said file_system words.kind ≡ Some said.kind
  pub aux : said.aux ≡ words.aux
  pub date : IsDateOf words.date said.date
  pub form_is : said.form ≡ option_map (given_in file_system) form
  pub bytes : said.bytes ≡ content

-- such words say no file: `Type` for a type that the file system does not have, first, and `Date` for a date that is
-- none
abbrev pub RefusesAttributes : FileSystem → AttributesView → Refusal → Type 0
RefusesAttributes file_system words refusals.Type = kind_said file_system words.kind ≡ None
RefusesAttributes file_system words refusals.Date = IsSome (kind_said file_system words.kind) × ¬ NamesDate words.date
RefusesAttributes file_system words refusal = ⊥

-- a file that is saved takes the place of another one or not
abbrev pub saving_work : Bool → Text → SaidView → WorkView
saving_work true name said = works.Replace name said
saving_work false name said = works.Save name said

-- a directory is made, with this path and the date that the words say
abbrev pub IsMakingWork : Text → Option Text → WorkView → Type 0
IsMakingWork path said work = (date : ProDate) × IsDateOf said date × (work ≡ works.MakeDirectory path date)

-- they say no date
abbrev pub RefusesDate : Option Text → Refusal → Type 0
RefusesDate said refusals.Date = ¬ NamesDate said
RefusesDate said refusal = ⊥

-- the work that a change asks of its volume, with the bytes of a file beside the image
abbrev pub AsksFor : VolumeOptions → ChangeView → List ℕ → WorkView → Type 0
AsksFor volume (Optimize reclaim stop_after) bytes work = work ≡ works.Optimize reclaim (limit_of stop_after)
AsksFor volume (EditOf name edit) bytes work = work ≡ works.EditOf edit (named_by name)
AsksFor volume (Save name attributes form replace) bytes work =
    (said : SaidView) × IsSaid volume.file_system attributes form bytes said × (work ≡ saving_work replace name said)
AsksFor volume Reclaim bytes work = work ≡ works.Reclaim
AsksFor volume (MakeDirectory path date) bytes work = IsMakingWork path date work

-- the words of a change are refused: those of a saving, and of a directory that is made those of its date
abbrev pub RefusesWords : VolumeOptions → ChangeView → Refusal → Type 0
RefusesWords volume (Save name attributes form replace) refusal =
    RefusesAttributes volume.file_system attributes refusal
RefusesWords volume (MakeDirectory path date) refusal = RefusesDate date refusal
RefusesWords volume change refusal = ⊥

-- ---- what is read

-- the bytes of the image; a job that has none has no bytes
abbrev pub image_bytes : SourceView → List ℕ → List ℕ
image_bytes Nowhere bytes = []
image_bytes StandardInput bytes = bytes
image_bytes (FromFile path) bytes = bytes

-- the bytes of what is read beside the image, where they are known; where nothing is read there are none
abbrev pub beside_bytes : BesideView → Option (List ℕ) → Option (List ℕ)
beside_bytes NothingBeside extra = Some []
beside_bytes (FileBeside path) extra = extra
beside_bytes (ImageBeside Nowhere order) extra = Some []
beside_bytes (ImageBeside StandardInput order) extra = extra
beside_bytes (ImageBeside (FromFile path) order) extra = extra
beside_bytes (FolderBeside path) extra = Some []

-- these bytes as a look takes them: those of another image with its order, where that is known
abbrev pub extra_in : OrderSaid → List ℕ → ExtraView
extra_in (Is order) bytes = ImageBytes order bytes
extra_in ByReading bytes = FileBytes bytes
extra_in ByContainer bytes = FileBytes bytes

abbrev pub extra_of : BesideView → List ℕ → ExtraView
extra_of (ImageBeside source order) bytes = extra_in order bytes
extra_of NothingBeside bytes = FileBytes bytes
extra_of (FileBeside path) bytes = FileBytes bytes
extra_of (FolderBeside path) bytes = FileBytes bytes

-- the bytes of the image whose system is copied, where there is another image
abbrev pub boot_of : BesideView → List ℕ → Option (List ℕ)
boot_of (ImageBeside source order) bytes = Some bytes
boot_of NothingBeside bytes = None
boot_of (FileBeside path) bytes = None
boot_of (FolderBeside path) bytes = None

-- the most bytes that are taken of the image: a job that takes whatever they are has those of a container
abbrev pub most_for : AskView → ReadingView → ℕ
most_for Identify reading = most_of_image AsBytes
most_for Unwrap reading = most_of_image AsBytes
most_for ask reading = most_of_image reading

-- the most bytes that are taken of what is read beside it: of an image whose system is copied those of the order of the
-- new volume, of one that is compared those of its own, and of a file those of a file
abbrev pub most_of_look : LookView → BesideView → ℕ
most_of_look (Compare options) beside = most_beside beside
most_of_look look beside = most_beside NothingBeside

abbrev pub most_extra : AskView → BesideView → ℕ
most_extra (Create words) beside = most_bytes words.order
most_extra (OfTheVolume (LookAt look)) beside = most_of_look look beside
most_extra ask beside = most_beside NothingBeside

-- ---- what is told

-- what is told where this is known; where it is left to the image and not settled, the job is refused
abbrev pub WhereKnown : {A : Type 0} → Option A → (A → Reply → Type 0) → Reply → Type 0
WhereKnown None Tells reply = reply ≡ refused refusals.Unknown
WhereKnown (Some known) Tells reply = Tells known reply

-- the order of the image, where it is known
abbrev pub order_in : ReadingView → Option Order
order_in reading = option_and_then known_order (order_of reading)

-- What is told of a change of the volume in these bytes, with these of a file beside the image: that its words are
-- refused, or what the work that it asks for tells of the volume.
abbrev pub IsChangeTold : ChangeView → Option Text → List ℕ → List ℕ → VolumeOptions → Reply → Type 0
IsChangeTold change reserve image extra volume reply =
    ((refusal : Refusal) × (reply ≡ refused refusal) × RefusesWords volume change refusal)
    ⊎ ((work : WorkView) × AsksFor volume change extra work
    × IsVolumeReply volume reserve image (λ reserved. IsChangeReply work (changed_by volume reserved)) reply)

-- What is told of the volume in these bytes: of a look what it tells of it; of an extraction and of files that are
-- added that there is no folder.
abbrev pub IsToldOfVolume : VolumeAskView → InputView → List ℕ → List ℕ → Reply → Type 0
IsToldOfVolume (LookAt look) input image extra reply = WhereKnown (volume_of input.reading)
    (λ volume. IsImageLook look (extra_of input.beside extra) volume (reserve_of input.reading) image) reply
IsToldOfVolume (ExtractFrom options) input image extra reply = reply ≡ refused refusals.Folder
IsToldOfVolume (AddTo words) input image extra reply = reply ≡ refused refusals.Folder
IsToldOfVolume (ChangeOf change) input image extra reply =
    WhereKnown (volume_of input.reading) (IsChangeTold change (reserve_of input.reading) image extra) reply

-- What is told of what is asked, on these bytes of an image, with these bytes of what is read beside it: of a
-- conversion and of a container by the order of the image; of a new volume what is told of its words, with the other
-- bytes as those of the image whose system is copied; of a survey that there is no folder.
abbrev pub IsToldOfAsk : AskView → InputView → List ℕ → List ℕ → Reply → Type 0
IsToldOfAsk Identify input image extra reply = IsIdentifyReply image reply
IsToldOfAsk (Survey form) input image extra reply = reply ≡ refused refusals.Folder
IsToldOfAsk (Convert to volume) input image extra reply =
    WhereKnown (order_in input.reading) (λ order. IsConvertReply order to volume image) reply
IsToldOfAsk (Wrap words) input image extra reply =
    WhereKnown (order_in input.reading) (λ order. IsWrapReply order words image) reply
IsToldOfAsk Unwrap input image extra reply = IsUnwrapReply image reply
IsToldOfAsk (Create words) input image extra reply = IsCreateReply words (boot_of input.beside extra) reply
IsToldOfAsk (OfTheVolume ask) input image extra reply = IsToldOfVolume ask input image extra reply

-- what is told of a job on these bytes of its image, with these bytes of what is read beside it
abbrev pub IsReplyToBytes : JobView → List ℕ → List ℕ → Reply → Type 0
IsReplyToBytes job image extra reply = IsToldOfAsk job.ask job.input image extra reply

-- what stands in front of the payload of a container, the payload, and what stands behind it
pub record Parts : Type 0 where
  pub front : List ℕ
  pub payload : List ℕ
  pub back : List ℕ

abbrev pub parts_of : List ℕ → List ℕ → List ℕ → Parts
parts_of front payload back = record { front = front; payload = payload; back = back }

-- the image that a change hands out stands where the payload stood; what another job hands out is no image of the
-- container
abbrev pub IsHandedOut : AskView → Parts → Reply → Reply → Type 0
IsHandedOut (OfTheVolume (ChangeOf change)) parts told reply = IsInShell parts.front parts.back told reply
IsHandedOut ask parts told reply = reply ≡ told

-- what is told of each job on a container: what is told of its payload
abbrev pub IsReplyToPayload : JobView → Parts → List ℕ → Reply → Type 0
IsReplyToPayload job parts extra reply =
    (told : Reply) × IsReplyToBytes job parts.payload extra told × IsHandedOut job.ask parts told reply

-- the three make a container, which says so
abbrev pub joined : Parts → List ℕ
joined parts = parts.front ++ parts.payload ++ parts.back

abbrev pub AreOfContainer : Parts → Container → Type 0
AreOfContainer parts container =
    IsContainer (joined parts) container × HasParts (joined parts) container parts.front parts.payload parts.back

-- what is asked writes the image: it changes it or adds files to it, or its output file takes the place of the image's
abbrev pub WritesImage : AskView → Bool → Type 0
WritesImage (OfTheVolume (ChangeOf change)) replaces = Unit {0}
WritesImage (OfTheVolume (AddTo words)) replaces = Unit {0}
WritesImage (Convert to volume) replaces = replaces ≡ true
WritesImage ask replaces = ⊥

-- the container of the image says that it is not to be written, and the job writes it
abbrev pub IsProtected : JobView → Bool → Container → Type 0
IsProtected job replaces container = (container.protected ≡ true) × WritesImage job.ask replaces

-- the reply to a job: `InPlace` where the image is to be changed in its own file, which bytes are not; else what is
-- told of the bytes, where those of what is read beside the image are known
abbrev pub IsReplyTo : JobView → List ℕ → Option (List ℕ) → Reply → Type 0
IsReplyTo job image extra reply =
    ((is_in_place job.output ≡ true) × (reply ≡ refused refusals.InPlace))
    ⊎ ((is_in_place job.output ≡ false) × IfSome (beside_bytes job.input.beside extra)
    (λ bytes. IsReplyToBytes job (image_bytes job.input.image image) bytes reply))

-- ---- what is read and written

-- the job reads the image, where it has one
abbrev pub ReadsImage : JobView → Type 0
ReadsImage job = IsRead job.input.image × (is_in_place job.output ≡ false)

-- the job reads a file or another image beside the image
abbrev pub ReadsExtra : JobView → Type 0
ReadsExtra job = IsReadBeside job.input.beside × (is_in_place job.output ≡ false)

-- what is asked changes a volume
abbrev pub ChangesVolume : AskView → Type 0
ChangesVolume (OfTheVolume (ChangeOf change)) = Unit {0}
ChangesVolume ask = ⊥

-- the job makes an image for the output file, or the bytes of a file for a new one
abbrev pub MakesOf : AskView → Bool → Type 0
MakesOf Identify in_place = ⊥
MakesOf (Survey form) in_place = ⊥
MakesOf (Convert to volume) in_place = Unit {0}
MakesOf (Wrap words) in_place = Unit {0}
MakesOf Unwrap in_place = Unit {0}
MakesOf (Create words) in_place = Unit {0}
MakesOf (OfTheVolume (LookAt look)) in_place = GoesToFile look
MakesOf (OfTheVolume (ExtractFrom options)) in_place = ⊥
MakesOf (OfTheVolume (AddTo words)) in_place = ⊥
MakesOf (OfTheVolume (ChangeOf change)) in_place = in_place ≡ false

abbrev pub MakesImage : JobView → Type 0
MakesImage job = MakesOf job.ask (is_in_place job.output)

-- an image is handed out once `OK` is told
abbrev pub HandsOutTelling : ℕ → Option (List ℕ) → Option (List ℕ) → Type 0
HandsOutTelling status old new = Appends old new (codes "OK\n") × ((status ≡ 0) ⊎ (status ≡ 4))

-- of a change it is, but for that of the optimizer, which has its own reply
abbrev pub HandsOutOfChange : ChangeView → ℕ → Option (List ℕ) → Option (List ℕ) → Type 0
HandsOutOfChange (Optimize reclaim stop_after) status old new = HandsImage status old new
HandsOutOfChange (EditOf name edit) status old new = HandsOutTelling status old new
HandsOutOfChange (Save name attributes form replace) status old new = HandsOutTelling status old new
HandsOutOfChange Reclaim status old new = HandsOutTelling status old new
HandsOutOfChange (MakeDirectory path date) status old new = HandsOutTelling status old new

-- the image of a job is handed out, once its text is told: `OK` for a conversion, a container that is made or
-- unwrapped, a new volume, a file that is read, an edit, a saving, lost places marked free or a directory that is made,
-- else that of the optimizer's reply
abbrev pub HandsOutOf : AskView → ℕ → Option (List ℕ) → Option (List ℕ) → Type 0
HandsOutOf (Convert to volume) status old new = HandsOutTelling status old new
HandsOutOf (Wrap words) status old new = HandsOutTelling status old new
HandsOutOf Unwrap status old new = HandsOutTelling status old new
HandsOutOf (Create words) status old new = HandsOutTelling status old new
HandsOutOf (OfTheVolume (LookAt look)) status old new = HandsOutTelling status old new
HandsOutOf (OfTheVolume (ChangeOf change)) status old new = HandsOutOfChange change status old new
HandsOutOf ask status old new = HandsImage status old new

abbrev pub HandsOutFor : JobView → ℕ → Option (List ℕ) → Option (List ℕ) → Type 0
HandsOutFor job status old new = HandsOutOf job.ask status old new

-- what is told where bytes could not be read; a comparison says of which of its images
abbrev pub of_side : AskView → Side → Reply → Reply
of_side (OfTheVolume (LookAt (Compare options))) side reply = of_image side reply
of_side ask side reply = reply

abbrev pub unread_reply : JobView → Side → Failure → Reply
unread_reply job side failure = of_side job.ask side (failed failure)

-- the bytes of a job that reads them could not be read
abbrev pub IsUnread : JobView → Reply → Type 0
IsUnread job reply =
    (ReadsImage job ⊎ ReadsExtra job)
    × ((failure : Failure) × (side : Side) × IsReadFailure failure × (reply ≡ unread_reply job side failure))

-- a job was answered by one reply, told and handed out behind what the writers had: the reply to its bytes, or that
-- they could not be read
abbrev pub IsAnswer : JobView → List ℕ → Option (List ℕ) → ℕ → Held → Held → Type 0
IsAnswer job image extra status old new =
    (reply : Reply) × (IsReplyTo job image extra reply ⊎ IsUnread job reply) × IsDelivered reply status old new

-- a job in place was answered with `InPlace`, whatever the readers have
abbrev pub IsInPlaceAnswer : JobView → ℕ → Held → Held → Type 0
IsInPlaceAnswer job status old new =
    is_in_place job.output ≡ true → IsDelivered (refused refusals.InPlace) status old new

-- A job that lists a DOS 3.3 disk has such a reply: no words of a listing reserve places. Of another job this says
-- nothing.
abbrev pub IsDosCatalogOf : AskView → JobView → List ℕ → ℕ → Held → Held → Type 0
IsDosCatalogOf (OfTheVolume (LookAt Catalog)) job image status old new = (volume : VolumeOptions)
    → volume_of job.input.reading ≡ Some volume → volume.file_system ≡ systems.Dos
    → reserve_of job.input.reading ≡ None → is_in_place job.output ≡ false
    → (reply : Reply) × (IsDosCatalogReply volume.order (image_bytes job.input.image image) reply
    ⊎ ((failure : Failure) × IsReadFailure failure × (reply ≡ failed failure)))
    × IsDelivered reply status old new
IsDosCatalogOf ask job image status old new = Unit {0}

abbrev pub IsDosCatalogAnswer : JobView → List ℕ → ℕ → Held → Held → Type 0
IsDosCatalogAnswer job image status old new = IsDosCatalogOf job.ask job image status old new

-- ---- words

-- words that are no job were told: the help that they ask for, a refusal with the text for the user, or want of memory
abbrev pub IsWordsAnswer : WordsFault → ℕ → Option (List ℕ) → Option (List ℕ) → Type 0
IsWordsAnswer (words.Help text) status old new = IsWritten 0 (string_bytes text) status old new
IsWordsAnswer (words.Refused text) status old new = IsWritten 2 (string_bytes text) status old new
IsWordsAnswer words.Memory status old new = IsWritten 4 (failure_line failures.Memory) status old new

-- Words that are no job were told: with help, and only words that may ask for it; refused, and only mistaken words,
-- which the workshop does not take; or for want of memory. What is told is one text.
abbrev pub TellsNoJob : List Text → ℕ → Option (List ℕ) → Option (List ℕ) → Type 0
TellsNoJob list status old new =
    (fault : WordsFault) × (IsTaken list → fault ≡ words.Memory) × IsFaultOf list fault
    × IsWordsAnswer fault status old new

-- so they were, and nothing is handed out
abbrev pub AreToldNoJob : List Text → ℕ → Held → Held → Type 0
AreToldNoJob list status old new = TellsNoJob list status old.text new.text × Keeps old.out new.out

-- words were answered: as no job, or as the job that they ask for
abbrev pub IsCommandAnswer : List Text → List ℕ → Option (List ℕ) → ℕ → Held → Held → Type 0
IsCommandAnswer list image extra status old new =
    AreToldNoJob list status old new
    ⊎ ((job : JobView) × (asked_job list ≡ Some job) × IsAnswer job image extra status old new)

-- words that ask for a job in place were answered with `InPlace` or as no job, whatever the readers have
abbrev pub IsInPlaceCommandAnswer : List Text → ℕ → Held → Held → Type 0
IsInPlaceCommandAnswer list status old new = (job : JobView) → asked_job list ≡ Some job → is_in_place job.output ≡ true
    → AreToldNoJob list status old new ⊎ IsDelivered (refused refusals.InPlace) status old new

-- the image is read for the job that the words ask for
abbrev pub CommandReadsImage : List Text → Type 0
CommandReadsImage list = (job : JobView) × (asked_job list ≡ Some job) × ReadsImage job

-- something is read beside the image for the job that the words ask for
abbrev pub CommandReads : List Text → Type 0
CommandReads list = (job : JobView) × (asked_job list ≡ Some job) × ReadsExtra job

-- an image was handed out for the job that the words ask for
abbrev pub CommandHandsOut : List Text → ℕ → Option (List ℕ) → Option (List ℕ) → Type 0
CommandHandsOut list status old new =
    (job : JobView) × (asked_job list ≡ Some job) × MakesImage job × HandsOutFor job status old new
