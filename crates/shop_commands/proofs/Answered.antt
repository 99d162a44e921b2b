-- What was read of an image answers for the whole image, and words for their job.
use Rattle.std.proofs.Common.{◌≡◌, ◌≢◌, ◌∙◌, ℕ, ◌+◌, Bool, true, false, List, take, refl, sym, ap, subst, arith, inl, inr, ⊎_elim}
use Rattle.std.proofs.lemmas.Bool.{false≢true}
use Rattle.std.proofs.lemmas.Option.{same_Some}
use Rattle.std.specs.Io.KnownBytes.{Appends, Keeps}
use Rattle.std.specs.Prelude.{◌⊎◌, Option, Some, None, IfSome, codes, option_and_then}
use Rattle.a2_device.specs.Device.{DeviceState}
use Rattle.a2_device.specs.declared.order.Order.{Order}
use Rattle.shop_changes.specs.GivenFile.{most_input}
use Rattle.shop_changes.specs.SaidFile.{SaidView}
use Rattle.shop_jobs.specs.Input.{AsBytes, AsSectors, AsVolume, BesideView, FileBeside, FolderBeside, ImageBeside, InputView, NothingBeside, ReadingView, known_order, options_of, order_of, reserve_of, volume_of}
use Rattle.shop_jobs.specs.Job.{AddTo, AskView, AttributesView, ChangeOf, CreationView, ChangeView, Convert, Create, EditOf, EditView, ExtractFrom, Identify, JobView, LookAt, LookView, MakeDirectory, Catalog, Entries, Check, Map, Compare, OfTheVolume, Read, Plan, Verify, Optimize, Reclaim, Save, Survey, Unwrap, Wrap, is_in_place}
use Rattle.shop_jobs.specs.declared.changes.SaveForm.{SaveForm}
use Rattle.shop_jobs.specs.declared.input.FileSystem.{FileSystem}
use Rattle.shop_jobs.specs.declared.looks.CompareOptions.{CompareOptions}
use Rattle.shop_jobs.specs.declared.input.OrderSaid.{OrderSaid}
use Rattle.shop_jobs.specs.declared.input.OrderSaid.TheVariants.{ByContainer, ByReading, Is}
use Rattle.pro_dir.specs.declared.date.ProDate.{ProDate}
use Rattle.shop_jobs.specs.declared.input.VolumeOptions.{VolumeOptions}
use Rattle.shop_words.specs.Asked.{asked_job}
use Rattle.shop_help.specs.declared.fault.WordsFault.{WordsFault}
use Rattle.shop_help.specs.declared.fault.WordsFault.TheVariants as words
use Rattle.shop_replies.specs.declared.refusal.Failure.{Failure}
use Rattle.shop_replies.specs.declared.refusal.Refusal.TheVariants as refusals
use Rattle.shop_replies.specs.declared.reply.Reply.{Reply}
use Rattle.shop_replies.specs.declared.reply.Status.{Status}
use Rattle.shop_replies.specs.declared.reply.Told.{Told}
use Rattle.shop_replies.specs.Disk.{most_bytes}
use Rattle.shop_replies.specs.Reply.{HandsOut, Held, IsDelivered, IsMade, IsMadeReply, failed, held, refused, status_number, told_text}
use Rattle.shop_replies.specs.ContainerReply.{IsWrapReply}
use Rattle.shop_replies.specs.ConvertReply.{IsConvertReply}
use Rattle.shop_replies.proofs.Fronts.{convert-whole, unwrap-whole, wrap-whole}
use Rattle.shop_replies.proofs.NotMade.{converted_image, refused_not_made, unwrapped_image, wrapped_image}
use Rattle.file_formats.specs.FileNames.{FileNameView}
use Rattle.shop_reads.specs.Extra.{ExtraView}
use Rattle.shop_reads.specs.FileNames.{named_by}
use Rattle.shop_reads.specs.Look.{GoesToFile, IsLookReply, ShownMeaning, shown_by}
use Rattle.shop_reads.proofs.Fronts.{file-take, image-take, most_in_look}
use Rattle.shop_reads.proofs.NotMade.{look_made}
use Rattle.shop_changes.specs.EditRules.{changed_by}
use Rattle.shop_changes.specs.Work.{WorkView}
use Rattle.shop_changes.specs.Work as works
use Rattle.shop_changes.specs.ChangeReply.{IsChangeReply}
use Rattle.shop_reads.specs.ImageLook.{IsImageLook}
use Rattle.shop_volumes.specs.VolumeReply.{IsVolumeReply}
use Rattle.shop_volumes.proofs.Fronts.{volume-told, volume-whole}
use Rattle.shop_volumes.proofs.NotMade.{volume_made}
use Rattle.shop_reads.proofs.Sided.{sided_made, sided_same}
use Rattle.shop_changes.proofs.Fronts.{replaced-take, saved-take, with_said_bytes}
use Rattle.shop_changes.proofs.NotMade.{directory_image, edited_image, reclaimed_image, replaced_image, said_image}
use Rattle.image_readings.proofs.Fronts.{identify-whole}
use Rattle.image_readings.proofs.NotMade.{identify_not_made}
use Rattle.shop_replies.specs.Reading.{IsReadFailure, most_beside, most_of_image, most_said}
use Rattle.shop_replies.specs.declared.refusal.Side.{Side}
use Rattle.shop_commands.specs.Answer.{AreToldNoJob, AsksFor, HandsOutFor, HandsOutOf, HandsOutOfChange, IsAnswer, IsChangeTold, IsCommandAnswer, IsSaid, IsInPlaceAnswer, IsReplyToBytes, IsToldOfAsk, IsToldOfVolume, IsWordsAnswer, MakesImage, MakesOf, ReadsExtra, ReadsImage, TellsNoJob, WhereKnown, beside_bytes, boot_of, extra_of, image_bytes, most_extra, most_for, most_of_look, of_side, order_in, saving_work, unread_reply}
use Rattle.shop_commands.specs.CreateReply.{IsCreateReply}
use Rattle.shop_commands.proofs.Created.{create-take, created_image}

-- what is told of the work of a change
abbrev IsWorkTold : VolumeOptions → Option (List ℕ) → List ℕ → WorkView → Reply → Type 0
IsWorkTold volume reserve image work reply = IsVolumeReply volume reserve image (λ (reserved : List Bool). IsChangeReply work (changed_by volume reserved)) reply

-- the words of a saving say a file whatever its bytes are
said-whole : (file_system : FileSystem) (attributes : AttributesView) (form : Option SaveForm) (front bytes : List ℕ) (said : SaidView)
    → IsSaid file_system attributes form front said → IsSaid file_system attributes form bytes (with_said_bytes said bytes)
said-whole file_system attributes form front bytes said is =
    record { system = is.system; kind = is.kind; aux = is.aux; date = is.date; form_is = is.form_is; bytes = refl }

-- a file that is too long is told so by one byte past the most
saved-whole : (volume : VolumeOptions) (reserve : Option (List ℕ)) (image name : List ℕ) (said : SaidView) (front bytes : List ℕ) (reply : Reply) → front ≡ take (most_input + 1) bytes
    → (replace : Bool) → IsWorkTold volume reserve image (saving_work replace name (with_said_bytes said front)) reply
    → IsWorkTold volume reserve image (saving_work replace name (with_said_bytes said bytes)) reply
saved-whole volume reserve image name said front bytes reply taken true is =
    volume-told volume reserve image (λ (reserved : List Bool). IsChangeReply (works.Replace name (with_said_bytes said front)) (changed_by volume reserved))
    (λ (reserved : List Bool). IsChangeReply (works.Replace name (with_said_bytes said bytes)) (changed_by volume reserved)) reply
    (λ reserved device told. replaced-take name front bytes said (changed_by volume reserved) device reply taken told) is
saved-whole volume reserve image name said front bytes reply taken false is =
    volume-told volume reserve image (λ (reserved : List Bool). IsChangeReply (works.Save name (with_said_bytes said front)) (changed_by volume reserved))
    (λ (reserved : List Bool). IsChangeReply (works.Save name (with_said_bytes said bytes)) (changed_by volume reserved)) reply
    (λ reserved device told. saved-take name front bytes said (changed_by volume reserved).edits.save (changed_by volume reserved).units device reply taken told) is

-- so the work that is asked with the bytes that were read is told as that with all of them
asked-whole : (volume : VolumeOptions) (reserve : Option (List ℕ)) (image : List ℕ) (change : ChangeView) (front bytes : List ℕ) (reply : Reply) → front ≡ take (most_input + 1) bytes
    → (work : WorkView) → AsksFor volume change front work → IsWorkTold volume reserve image work reply
    → (other : WorkView) × AsksFor volume change bytes other × IsWorkTold volume reserve image other reply
asked-whole volume reserve image (Optimize reclaim stop_after) front bytes reply taken work asks told = (work, asks, told)
asked-whole volume reserve image (EditOf name edit) front bytes reply taken work asks told = (work, asks, told)
asked-whole volume reserve image Reclaim front bytes reply taken work asks told = (work, asks, told)
asked-whole volume reserve image (MakeDirectory path date) front bytes reply taken work asks told = (work, asks, told)
asked-whole volume reserve image (Save name attributes form replace) front bytes reply taken work (said, is, asks) told = (
  saving_work replace name (with_said_bytes said bytes),
  (with_said_bytes said bytes, said-whole volume.file_system attributes form front bytes said is, refl),
  saved-whole volume reserve image name said front bytes reply taken replace
      (subst (λ (w : WorkView). IsWorkTold volume reserve image w reply) (asks ∙ ap (λ (xs : List ℕ). saving_work replace name (with_said_bytes said xs)) is.bytes) told),
)

-- ---- what is told where something is known

-- of an order that is known, what is told of the bytes that were read is told of all
order_whole : (said : Option OrderSaid) (Tells : Order → List ℕ → Reply → Type 0) (image : List ℕ) (reply : Reply)
    → ((order : Order) → Tells order (take (most_bytes order + 1) image) reply → Tells order image reply)
    → WhereKnown (option_and_then known_order said) (λ order. Tells order (take (most_said said + 1) image)) reply
    → WhereKnown (option_and_then known_order said) (λ order. Tells order image) reply
order_whole None Tells image reply each is = is
order_whole (Some (Is order)) Tells image reply each is = each order is
order_whole (Some ByReading) Tells image reply each is = is
order_whole (Some ByContainer) Tells image reply each is = is

-- the bytes that are read of an image whose volume is known are those of its order
options_known : (file_system : Option FileSystem) (order : OrderSaid) (data_disk : Bool) (reserve : Option (List ℕ)) (Front Whole : VolumeOptions → Reply → Type 0) (reply : Reply)
    → ((volume : VolumeOptions) → most_said (Some order) ≡ most_bytes volume.order → Front volume reply → Whole volume reply)
    → WhereKnown (options_of (record { file_system = file_system; order = order; data_disk = data_disk; reserve = reserve })) Front reply
    → WhereKnown (options_of (record { file_system = file_system; order = order; data_disk = data_disk; reserve = reserve })) Whole reply
options_known None order data_disk reserve Front Whole reply each is = is
options_known (Some system) (Is order) data_disk reserve Front Whole reply each is = each (record { file_system = system; order = order; data_disk = data_disk }) refl is
options_known (Some system) ByReading data_disk reserve Front Whole reply each is = is
options_known (Some system) ByContainer data_disk reserve Front Whole reply each is = is

volume_known : (reading : ReadingView) (Front Whole : VolumeOptions → Reply → Type 0) (reply : Reply)
    → ((volume : VolumeOptions) → most_of_image reading ≡ most_bytes volume.order → Front volume reply → Whole volume reply)
    → WhereKnown (volume_of reading) Front reply → WhereKnown (volume_of reading) Whole reply
volume_known AsBytes Front Whole reply each is = is
volume_known (AsSectors order) Front Whole reply each is = is
volume_known (AsVolume volume) Front Whole reply each is = options_known volume.file_system volume.order volume.data_disk volume.reserve Front Whole reply each is

where_told : {A : Type 0} (known : Option A) (Tells Also : A → Reply → Type 0) (reply : Reply) → ((one : A) → Tells one reply → Also one reply)
    → WhereKnown known Tells reply → WhereKnown known Also reply
where_told None Tells Also reply each is = is
where_told (Some one) Tells Also reply each is = each one is

-- where an image is made, it is known
pub where_made : {A P : Type 0} (known : Option A) (Tells : A → Reply → Type 0) (reply : Reply) → ((one : A) → Tells one reply → P) → WhereKnown known Tells reply
    → IsMade reply → P
where_made None Tells reply each is made = absurd (refused_not_made refusals.Unknown reply is made)
where_made (Some one) Tells reply each is made = each one is

-- ---- the bytes of the image

look_front : (look : LookView) (extra : ExtraView) (volume : VolumeOptions) (reserve : Option (List ℕ)) (image : List ℕ) (reply : Reply)
    → IsImageLook look extra volume reserve (take (most_bytes volume.order + 1) image) reply → IsImageLook look extra volume reserve image reply
look_front look extra volume reserve image reply looked = record {
  plain = looked.plain;
  is = volume-whole volume reserve image (λ (reserved : List Bool). IsLookReply look extra (shown_by volume reserved)) looked.plain looked.is;
  told = looked.told;
}

change_front : (change : ChangeView) (reserve : Option (List ℕ)) (image extra : List ℕ) (volume : VolumeOptions) (reply : Reply)
    → IsChangeTold change reserve (take (most_bytes volume.order + 1) image) extra volume reply → IsChangeTold change reserve image extra volume reply
change_front change reserve image extra volume reply (inl refused) = inl refused
change_front change reserve image extra volume reply (inr (work, asks, told)) =
    inr (work, asks, volume-whole volume reserve image (λ (reserved : List Bool). IsChangeReply work (changed_by volume reserved)) reply told)

-- what is told of the bytes that were read of an image is told of all
pub image_whole : (ask : AskView) (input : InputView) (image extra : List ℕ) (reply : Reply)
    → IsToldOfAsk ask input (take (most_for ask input.reading + 1) image) extra reply → IsToldOfAsk ask input image extra reply
image_whole Identify input image extra reply is = identify-whole image reply is
image_whole (Survey form) input image extra reply is = is
image_whole (Convert to volume) input image extra reply is =
    order_whole (order_of input.reading) (λ (order : Order) (bytes : List ℕ). IsConvertReply order to volume bytes) image reply
    (λ order told. convert-whole order to volume image reply told) is
image_whole (Wrap words) input image extra reply is =
    order_whole (order_of input.reading) (λ (order : Order) (bytes : List ℕ). IsWrapReply order words bytes) image reply
    (λ order told. wrap-whole order words image reply told) is
image_whole Unwrap input image extra reply is = unwrap-whole image reply is
image_whole (Create words) input image extra reply is = is
image_whole (OfTheVolume (LookAt look)) input image extra reply is =
    volume_known input.reading
    (λ (volume : VolumeOptions). IsImageLook look (extra_of input.beside extra) volume (reserve_of input.reading) (take (most_of_image input.reading + 1) image))
    (λ (volume : VolumeOptions). IsImageLook look (extra_of input.beside extra) volume (reserve_of input.reading) image) reply
    (λ volume same told. look_front look (extra_of input.beside extra) volume (reserve_of input.reading) image reply
    (subst (λ (most : ℕ). IsImageLook look (extra_of input.beside extra) volume (reserve_of input.reading) (take (most + 1) image) reply) same told)) is
image_whole (OfTheVolume (ExtractFrom options)) input image extra reply is = is
image_whole (OfTheVolume (AddTo words)) input image extra reply is = is
image_whole (OfTheVolume (ChangeOf change)) input image extra reply is =
    volume_known input.reading
    (IsChangeTold change (reserve_of input.reading) (take (most_of_image input.reading + 1) image) extra)
    (IsChangeTold change (reserve_of input.reading) image extra) reply
    (λ volume same told. change_front change (reserve_of input.reading) image extra volume reply
    (subst (λ (most : ℕ). IsChangeTold change (reserve_of input.reading) (take (most + 1) image) extra volume reply) same told)) is

-- ---- the bytes beside it

-- a look takes the bytes that were read for all
plain_extra : (look : LookView) → ((order : Order) → most_in_look look order ≡ 16777216) → (beside : BesideView) (more bytes : List ℕ) (format : ShownMeaning) (device : DeviceState) (reply : Reply)
    → more ≡ take (16777216 + 1) bytes → IsLookReply look (extra_of beside more) format device reply → IsLookReply look (extra_of beside bytes) format device reply
plain_extra look same NothingBeside more bytes format device reply taken is = file-take look more bytes format device reply taken is
plain_extra look same (FileBeside path) more bytes format device reply taken is = file-take look more bytes format device reply taken is
plain_extra look same (FolderBeside path) more bytes format device reply taken is = file-take look more bytes format device reply taken is
plain_extra look same (ImageBeside source (Is order)) more bytes format device reply taken is =
    image-take look order more bytes format device reply (subst (λ (most : ℕ). more ≡ take (most + 1) bytes) (sym (same order)) taken) is
plain_extra look same (ImageBeside source ByReading) more bytes format device reply taken is = file-take look more bytes format device reply taken is
plain_extra look same (ImageBeside source ByContainer) more bytes format device reply taken is = file-take look more bytes format device reply taken is

compared_extra : (options : CompareOptions) (beside : BesideView) (more bytes : List ℕ) (format : ShownMeaning) (device : DeviceState) (reply : Reply)
    → more ≡ take (most_beside beside + 1) bytes → IsLookReply (Compare options) (extra_of beside more) format device reply
    → IsLookReply (Compare options) (extra_of beside bytes) format device reply
compared_extra options NothingBeside more bytes format device reply taken is = is
compared_extra options (FileBeside path) more bytes format device reply taken is = is
compared_extra options (FolderBeside path) more bytes format device reply taken is = is
compared_extra options (ImageBeside source (Is order)) more bytes format device reply taken is =
    image-take (Compare options) order more bytes format device reply taken is
compared_extra options (ImageBeside source ByReading) more bytes format device reply taken is = is
compared_extra options (ImageBeside source ByContainer) more bytes format device reply taken is = is

look_extra : (look : LookView) (beside : BesideView) (more bytes : List ℕ) (format : ShownMeaning) (device : DeviceState) (reply : Reply)
    → more ≡ take (most_of_look look beside + 1) bytes → IsLookReply look (extra_of beside more) format device reply
    → IsLookReply look (extra_of beside bytes) format device reply
look_extra (Compare options) beside more bytes format device reply taken is = compared_extra options beside more bytes format device reply taken is
look_extra Catalog beside more bytes format device reply taken is = plain_extra Catalog (λ order. refl) beside more bytes format device reply taken is
look_extra (Entries options) beside more bytes format device reply taken is = plain_extra (Entries options) (λ order. refl) beside more bytes format device reply taken is
look_extra (Check bodies) beside more bytes format device reply taken is = plain_extra (Check bodies) (λ order. refl) beside more bytes format device reply taken is
look_extra Map beside more bytes format device reply taken is = plain_extra Map (λ order. refl) beside more bytes format device reply taken is
look_extra (Read name form to_file) beside more bytes format device reply taken is = plain_extra (Read name form to_file) (λ order. refl) beside more bytes format device reply taken is
look_extra (Plan reclaim in_words) beside more bytes format device reply taken is = plain_extra (Plan reclaim in_words) (λ order. refl) beside more bytes format device reply taken is
look_extra (Verify reclaim) beside more bytes format device reply taken is = plain_extra (Verify reclaim) (λ order. refl) beside more bytes format device reply taken is

looked_extra : (look : LookView) (beside : BesideView) (reserve : Option (List ℕ)) (image more bytes : List ℕ) (volume : VolumeOptions) (reply : Reply)
    → more ≡ take (most_of_look look beside + 1) bytes → IsImageLook look (extra_of beside more) volume reserve image reply
    → IsImageLook look (extra_of beside bytes) volume reserve image reply
looked_extra look beside reserve image more bytes volume reply taken looked = record {
  plain = looked.plain;
  is = volume-told volume reserve image (λ (reserved : List Bool). IsLookReply look (extra_of beside more) (shown_by volume reserved))
      (λ (reserved : List Bool). IsLookReply look (extra_of beside bytes) (shown_by volume reserved)) looked.plain
      (λ reserved device told. look_extra look beside more bytes (shown_by volume reserved) device looked.plain taken told) looked.is;
  told = looked.told;
}

-- so does a new volume
boot_extra : (words : CreationView) (beside : BesideView) (more bytes : List ℕ) (reply : Reply) → more ≡ take (most_bytes words.order + 1) bytes
    → IsCreateReply words (boot_of beside more) reply → IsCreateReply words (boot_of beside bytes) reply
boot_extra words NothingBeside more bytes reply taken is = is
boot_extra words (FileBeside path) more bytes reply taken is = is
boot_extra words (ImageBeside source order) more bytes reply taken is = create-take words more bytes reply taken is
boot_extra words (FolderBeside path) more bytes reply taken is = is

change_extra : (change : ChangeView) (reserve : Option (List ℕ)) (image more bytes : List ℕ) (volume : VolumeOptions) (reply : Reply) → more ≡ take (most_input + 1) bytes
    → IsChangeTold change reserve image more volume reply → IsChangeTold change reserve image bytes volume reply
change_extra change reserve image more bytes volume reply taken (inl refused) = inl refused
change_extra change reserve image more bytes volume reply taken (inr (work, asks, told)) =
    inr (asked-whole volume reserve image change more bytes reply taken work asks told)

-- what is told with the bytes that were read beside an image is told with all
extra_whole : (ask : AskView) (input : InputView) (image more bytes : List ℕ) (reply : Reply) → more ≡ take (most_extra ask input.beside + 1) bytes
    → IsToldOfAsk ask input image more reply → IsToldOfAsk ask input image bytes reply
extra_whole Identify input image more bytes reply taken is = is
extra_whole (Survey form) input image more bytes reply taken is = is
extra_whole (Convert to volume) input image more bytes reply taken is = is
extra_whole (Wrap words) input image more bytes reply taken is = is
extra_whole Unwrap input image more bytes reply taken is = is
extra_whole (Create words) input image more bytes reply taken is = boot_extra words input.beside more bytes reply taken is
extra_whole (OfTheVolume (LookAt look)) input image more bytes reply taken is =
    where_told (volume_of input.reading) (λ (volume : VolumeOptions). IsImageLook look (extra_of input.beside more) volume (reserve_of input.reading) image)
    (λ (volume : VolumeOptions). IsImageLook look (extra_of input.beside bytes) volume (reserve_of input.reading) image) reply
    (λ volume told. looked_extra look input.beside (reserve_of input.reading) image more bytes volume reply taken told) is
extra_whole (OfTheVolume (ExtractFrom options)) input image more bytes reply taken is = is
extra_whole (OfTheVolume (AddTo words)) input image more bytes reply taken is = is
extra_whole (OfTheVolume (ChangeOf change)) input image more bytes reply taken is =
    where_told (volume_of input.reading) (IsChangeTold change (reserve_of input.reading) image more) (IsChangeTold change (reserve_of input.reading) image bytes) reply
    (λ volume told. change_extra change (reserve_of input.reading) image more bytes volume reply taken told) is

-- ---- the answer

if_known : {P Q : List ℕ → Type 0} (known : Option (List ℕ)) → ((bytes : List ℕ) → P bytes → Q bytes) → IfSome known P → IfSome known Q
if_known None each is = tt
if_known (Some bytes) each is = each bytes is

pub job_answered : (job : JobView) (known extra : Option (List ℕ)) (front more : List ℕ) (reply : Reply) (status : ℕ) (old new : Held)
    → is_in_place job.output ≡ false → IfSome known (λ image. front ≡ take (most_for job.ask job.input.reading + 1) (image_bytes job.input.image image))
    → IfSome (beside_bytes job.input.beside extra) (λ bytes. more ≡ take (most_extra job.ask job.input.beside + 1) bytes) → IsReplyToBytes job front more reply
    → IsDelivered reply status old new → IfSome known (λ image. IsAnswer job image extra status old new)
job_answered job None extra front more reply status old new outside taken taken' is told = tt
job_answered job (Some image) extra front more reply status old new outside taken taken' is told =
    let bytes = image_bytes job.input.image image in
    let of_front : IsReplyToBytes job (take (most_for job.ask job.input.reading + 1) bytes) more reply = subst (λ (read : List ℕ). IsReplyToBytes job read more reply) taken is in
    let whole : IsReplyToBytes job bytes more reply = image_whole job.ask job.input bytes more reply of_front in
    (reply, inl (inr (outside, if_known (beside_bytes job.input.beside extra) (λ (other : List ℕ) read. extra_whole job.ask job.input bytes more other reply read whole) taken')), told)

-- a job in place
pub placed_answered : (job : JobView) (known extra : Option (List ℕ)) (status : ℕ) (old new : Held) → is_in_place job.output ≡ true
    → IsDelivered (refused refusals.InPlace) status old new → IfSome known (λ image. IsAnswer job image extra status old new)
placed_answered job None extra status old new placed told = tt
placed_answered job (Some image) extra status old new placed told = (refused refusals.InPlace, inl (inl (placed, refl)), told)

-- a job whose bytes could not be read
pub unread_answered : (job : JobView) (known extra : Option (List ℕ)) (side : Side) (failure : Failure) (reply : Reply) (status : ℕ) (old new : Held)
    → ReadsImage job ⊎ ReadsExtra job → IsReadFailure failure → reply ≡ unread_reply job side failure
    → IsDelivered reply status old new → IfSome known (λ image. IsAnswer job image extra status old new)
unread_answered job None extra side failure reply status old new reads is same told = tt
unread_answered job (Some image) extra side failure reply status old new reads is same told = (reply, inr (reads, (failure, side, is, same)), told)

-- and it hands nothing out
unread_not_made : (ask : AskView) (side : Side) (failure : Failure) → ¬ IsMade (of_side ask side (failed failure))
unread_not_made (OfTheVolume (LookAt Catalog)) side failure made = false≢true made
unread_not_made (OfTheVolume (LookAt (Entries options))) side failure made = false≢true made
unread_not_made (OfTheVolume (LookAt (Check bodies))) side failure made = false≢true made
unread_not_made (OfTheVolume (LookAt Map)) side failure made = false≢true made
unread_not_made (OfTheVolume (LookAt (Compare options))) side failure made = false≢true made
unread_not_made (OfTheVolume (LookAt (Read name form to_file))) side failure made = false≢true made
unread_not_made (OfTheVolume (LookAt (Plan reclaim in_words))) side failure made = false≢true made
unread_not_made (OfTheVolume (LookAt (Verify reclaim))) side failure made = false≢true made
unread_not_made (OfTheVolume (ExtractFrom options)) side failure made = false≢true made
unread_not_made (OfTheVolume (AddTo words)) side failure made = false≢true made
unread_not_made (OfTheVolume (ChangeOf change)) side failure made = false≢true made
unread_not_made (Convert to volume) side failure made = false≢true made
unread_not_made (Wrap words) side failure made = false≢true made
unread_not_made Unwrap side failure made = false≢true made
unread_not_made (Create words) side failure made = false≢true made
unread_not_made Identify side failure made = false≢true made
unread_not_made (Survey form) side failure made = false≢true made

pub none_handed : {O P : Type 0} (job : JobView) (side : Side) (failure : Failure) (reply : Reply) (old new : O) (status : ℕ) (text_old text_new : Option (List ℕ))
    → reply ≡ unread_reply job side failure → (new ≡ old) ⊎ (IsMade reply × HandsOut reply status text_old text_new) → (new ≡ old) ⊎ P
none_handed job side failure reply old new status text_old text_new same handed =
    ⊎_elim inl (λ made. absurd (unread_not_made job.ask side failure (subst (λ (r : Reply). IsMade r) same made.0))) handed

-- a look that makes something makes it for a file, and answers with `OK`
looked_made : (look : LookView) (extra : ExtraView) (reserve : Option (List ℕ)) (image : List ℕ) (volume : VolumeOptions) (reply : Reply)
    → IsImageLook look extra volume reserve image reply → IsMade reply → GoesToFile look × IsMadeReply reply
looked_made look extra reserve image volume reply looked made =
    let plain_made = sided_made look looked.plain (subst (λ (r : Reply). IsMade r) looked.told made) in
    let both = volume_made volume reserve image (λ (reserved : List Bool). IsLookReply look extra (shown_by volume reserved)) looked.plain
    (GoesToFile look × IsMadeReply looked.plain)
    (λ reserved device told. look_made look extra (shown_by volume reserved) device looked.plain told plain_made) looked.is plain_made in
    (both.0, subst (λ (r : Reply). IsMadeReply r) (sym (looked.told ∙ sided_same look looked.plain both.0)) both.1)

look_makes : (look : LookView) (input : InputView) (image extra : List ℕ) (reply : Reply) → IsToldOfVolume (LookAt look) input image extra reply → IsMade reply
    → GoesToFile look × IsMadeReply reply
look_makes look input image extra reply is made =
    where_made (volume_of input.reading) (λ (volume : VolumeOptions). IsImageLook look (extra_of input.beside extra) volume (reserve_of input.reading) image) reply
    (λ volume looked. looked_made look (extra_of input.beside extra) (reserve_of input.reading) image volume reply looked made) is made

-- only a job that makes an image has a reply with one
makes_of : (ask : AskView) (input : InputView) (in_place : Bool) (image extra : List ℕ) (reply : Reply) → in_place ≡ false → IsToldOfAsk ask input image extra reply
    → IsMade reply → MakesOf ask in_place
makes_of Identify input in_place image extra reply outside is made = absurd (identify_not_made image reply is made)
makes_of (Survey form) input in_place image extra reply outside is made = absurd (refused_not_made refusals.Folder reply is made)
makes_of (Convert to volume) input in_place image extra reply outside is made = tt
makes_of (Wrap words) input in_place image extra reply outside is made = tt
makes_of Unwrap input in_place image extra reply outside is made = tt
makes_of (Create words) input in_place image extra reply outside is made = tt
makes_of (OfTheVolume (LookAt look)) input in_place image extra reply outside is made = (look_makes look input image extra reply is made).0
makes_of (OfTheVolume (ExtractFrom options)) input in_place image extra reply outside is made = absurd (refused_not_made refusals.Folder reply is made)
makes_of (OfTheVolume (AddTo words)) input in_place image extra reply outside is made = absurd (refused_not_made refusals.Folder reply is made)
makes_of (OfTheVolume (ChangeOf change)) input in_place image extra reply outside is made = outside

-- an edit that makes an image answers with it, and hands it out with `OK`
edit_makes_image : (volume : VolumeOptions) (reserve : Option (List ℕ)) (image : List ℕ) (edit : EditView) (name : FileNameView) (reply : Reply)
    → IsWorkTold volume reserve image (works.EditOf edit name) reply → IsMade reply → IsMadeReply reply
edit_makes_image volume reserve image edit name reply is made =
    volume_made volume reserve image (λ (reserved : List Bool). IsChangeReply (works.EditOf edit name) (changed_by volume reserved)) reply (IsMadeReply reply)
    (λ reserved device told. edited_image edit name (changed_by volume reserved).files (changed_by volume reserved).edits (changed_by volume reserved).units device reply told made) is made

-- so does a saving
save_makes_image : (volume : VolumeOptions) (reserve : Option (List ℕ)) (image name : List ℕ) (said : SaidView) (reply : Reply)
    (replace : Bool) → IsWorkTold volume reserve image (saving_work replace name said) reply → IsMade reply → IsMadeReply reply
save_makes_image volume reserve image name said reply true is made =
    volume_made volume reserve image (λ (reserved : List Bool). IsChangeReply (works.Replace name said) (changed_by volume reserved)) reply (IsMadeReply reply)
    (λ reserved device told. replaced_image name said (changed_by volume reserved) device reply told made) is made
save_makes_image volume reserve image name said reply false is made =
    volume_made volume reserve image (λ (reserved : List Bool). IsChangeReply (works.Save name said) (changed_by volume reserved)) reply (IsMadeReply reply)
    (λ reserved device told. said_image name said (changed_by volume reserved).edits.save (changed_by volume reserved).units device reply told made) is made

-- so do lost places that are marked free
reclaim_makes_image : (volume : VolumeOptions) (reserve : Option (List ℕ)) (image : List ℕ) (reply : Reply)
    → IsWorkTold volume reserve image works.Reclaim reply → IsMade reply → IsMadeReply reply
reclaim_makes_image volume reserve image reply is made =
    volume_made volume reserve image (λ (reserved : List Bool). IsChangeReply works.Reclaim (changed_by volume reserved)) reply (IsMadeReply reply)
    (λ reserved device told. reclaimed_image (changed_by volume reserved).units device reply told made) is made

-- so does a directory that is made
making_makes_image : (volume : VolumeOptions) (reserve : Option (List ℕ)) (image path : List ℕ) (date : ProDate) (reply : Reply)
    → IsWorkTold volume reserve image (works.MakeDirectory path date) reply → IsMade reply → IsMadeReply reply
making_makes_image volume reserve image path date reply is made =
    volume_made volume reserve image (λ (reserved : List Bool). IsChangeReply (works.MakeDirectory path date) (changed_by volume reserved)) reply (IsMadeReply reply)
    (λ reserved device told. directory_image path date (changed_by volume reserved).directories (changed_by volume reserved).units device reply told made) is made

ok_handed : (reply : Reply) (status : ℕ) (old new : Option (List ℕ)) → IsMadeReply reply → HandsOut reply status old new
    → Appends old new (codes "OK\n") × ((status ≡ 0) ⊎ (status ≡ 4))
ok_handed reply status old new is out = (
  subst (λ (told : Told). Appends old new (told_text told)) is.1 out.0,
  subst (λ (ended : Status). (status ≡ status_number ended) ⊎ (status ≡ 4)) is.0.0 out.1,
)

-- each change but the optimizer's hands its image out with `OK`
change_makes : (change : ChangeView) (reserve : Option (List ℕ)) (image extra : List ℕ) (volume : VolumeOptions) (reply : Reply) (status : ℕ) (old new : Option (List ℕ))
    → IsChangeTold change reserve image extra volume reply → IsMade reply → HandsOut reply status old new → HandsOutOfChange change status old new
change_makes (Optimize reclaim stop_after) reserve image extra volume reply status old new is made out = (reply, made, out)
change_makes (EditOf name edit) reserve image extra volume reply status old new (inl (refusal, told, refuses)) made out = absurd refuses
change_makes (EditOf name edit) reserve image extra volume reply status old new (inr (work, asks, told)) made out =
    ok_handed reply status old new
    (edit_makes_image volume reserve image edit (named_by name) reply (subst (λ (w : WorkView). IsWorkTold volume reserve image w reply) asks told) made) out
change_makes Reclaim reserve image extra volume reply status old new (inl (refusal, told, refuses)) made out = absurd refuses
change_makes Reclaim reserve image extra volume reply status old new (inr (work, asks, told)) made out =
    ok_handed reply status old new
    (reclaim_makes_image volume reserve image reply (subst (λ (w : WorkView). IsWorkTold volume reserve image w reply) asks told) made) out
change_makes (MakeDirectory path said) reserve image extra volume reply status old new (inl (refusal, told, refuses)) made out =
    absurd (refused_not_made refusal reply told made)
change_makes (MakeDirectory path said) reserve image extra volume reply status old new (inr (work, (date, is, asks), told)) made out =
    ok_handed reply status old new
    (making_makes_image volume reserve image path date reply (subst (λ (w : WorkView). IsWorkTold volume reserve image w reply) asks told) made) out
change_makes (Save name attributes form replace) reserve image extra volume reply status old new (inl (refusal, told, refuses)) made out =
    absurd (refused_not_made refusal reply told made)
change_makes (Save name attributes form replace) reserve image extra volume reply status old new (inr (work, (said, is, asks), told)) made out =
    ok_handed reply status old new
    (save_makes_image volume reserve image name said reply replace (subst (λ (w : WorkView). IsWorkTold volume reserve image w reply) asks told) made) out

-- the image of a job is handed out with its text
hands_of : (ask : AskView) (input : InputView) (image extra : List ℕ) (reply : Reply) (status : ℕ) (old new : Option (List ℕ)) → IsToldOfAsk ask input image extra reply
    → IsMade reply → HandsOut reply status old new → HandsOutOf ask status old new
hands_of Identify input image extra reply status old new is made out = (reply, made, out)
hands_of (Survey form) input image extra reply status old new is made out = (reply, made, out)
hands_of (Convert to volume) input image extra reply status old new is made out =
    ok_handed reply status old new (where_made (order_in input.reading) (λ (order : Order). IsConvertReply order to volume image) reply
    (λ order told. converted_image order to volume image reply told made) is made) out
hands_of (Wrap words) input image extra reply status old new is made out =
    ok_handed reply status old new (where_made (order_in input.reading) (λ (order : Order). IsWrapReply order words image) reply
    (λ order told. wrapped_image order words image reply told made) is made) out
hands_of Unwrap input image extra reply status old new is made out =
    ok_handed reply status old new (unwrapped_image image reply is made) out
hands_of (Create words) input image extra reply status old new is made out =
    ok_handed reply status old new (created_image words (boot_of input.beside extra) reply is made) out
hands_of (OfTheVolume (LookAt look)) input image extra reply status old new is made out =
    ok_handed reply status old new (look_makes look input image extra reply is made).1 out
hands_of (OfTheVolume (ExtractFrom options)) input image extra reply status old new is made out = (reply, made, out)
hands_of (OfTheVolume (AddTo words)) input image extra reply status old new is made out = (reply, made, out)
hands_of (OfTheVolume (ChangeOf change)) input image extra reply status old new is made out =
    where_made (volume_of input.reading) (IsChangeTold change (reserve_of input.reading) image extra) reply
    (λ volume told. change_makes change (reserve_of input.reading) image extra volume reply status old new told made out) is made

pub image_handed : {O : Type 0} (job : JobView) (image extra : List ℕ) (reply : Reply) (status : ℕ) (text_old text_new : Option (List ℕ)) (old new : O)
    → is_in_place job.output ≡ false → IsReplyToBytes job image extra reply → (new ≡ old) ⊎ (IsMade reply × HandsOut reply status text_old text_new)
    → (new ≡ old) ⊎ (MakesImage job × HandsOutFor job status text_old text_new)
image_handed job image extra reply status text_old text_new old new outside is handed =
    ⊎_elim inl (λ made. inr (
      makes_of job.ask job.input (is_in_place job.output) image extra reply outside is made.0,
      hands_of job.ask job.input image extra reply status text_old text_new is made.0 made.1,
    )) handed

-- a refusal hands nothing out
pub refusal_handed : {O P : Type 0} (old new : O) (status : ℕ) (text_old text_new : Option (List ℕ))
    → (new ≡ old) ⊎ (IsMade (refused refusals.InPlace) × HandsOut (refused refusals.InPlace) status text_old text_new) → (new ≡ old) ⊎ P
refusal_handed old new status text_old text_new handed = ⊎_elim inl (λ made. absurd (false≢true made.0)) handed

-- ---- words

-- what is known of the words and their job goes over to what is answered
module _ (list : List (List ℕ)) (job : JobView) (asked : asked_job list ≡ Some job) (status : ℕ) (old mid new : Held) (untold : mid ≡ old) where
  pub command_answered : (known extra : Option (List ℕ)) → IfSome known (λ image. IsAnswer job image extra status mid new)
      → IfSome known (λ image. IsCommandAnswer list image extra status old new)
  command_answered None extra answer = tt
  command_answered (Some image) extra answer = inr (job, asked, subst (λ (before : Held). IsAnswer job image extra status before new) untold answer)

  pub command_placed : (mine : JobView) → asked_job list ≡ Some mine → is_in_place mine.output ≡ true → IsInPlaceAnswer job status mid new
      → AreToldNoJob list status old new ⊎ IsDelivered (refused refusals.InPlace) status old new
  command_placed mine also placed answer =
      inr (subst (λ (before : Held). IsDelivered (refused refusals.InPlace) status before new) untold
      (answer (subst (λ (j : JobView). is_in_place j.output ≡ true) (same_Some mine job (sym also ∙ asked)) placed)))

pub memory_told : (fault : WordsFault) (status : ℕ) (old new : Option (List ℕ)) → fault ≡ words.Memory → IsWordsAnswer fault status old new → status ≢ 2
memory_told fault status old new is told two = ⊎_elim (λ all. let four = all.0 in omega (arith, four, two)) (λ front. let four = front.0 in omega (arith, four, two))
    (subst (λ f. IsWordsAnswer f status old new) is told)

keeps_same : (known : Option (List ℕ)) → Keeps known known
keeps_same None = tt
keeps_same (Some bytes) = refl

pub command_untaken : (list : List (List ℕ)) (out : Option (List ℕ)) (status : ℕ) (old new : Option (List ℕ)) → TellsNoJob list status old new
    → AreToldNoJob list status (held old out) (held new out)
command_untaken list out status old new told = (told, keeps_same out)

pub command_refused : (list : List (List ℕ)) (known extra out : Option (List ℕ)) (status : ℕ) (old new : Option (List ℕ)) → TellsNoJob list status old new
    → IfSome known (λ image. IsCommandAnswer list image extra status (held old out) (held new out))
command_refused list None extra out status old new told = tt
command_refused list (Some image) extra out status old new told = inl (command_untaken list out status old new told)
