-- What is told of a job that lists a DOS 3.3 disk, in the words of its format.
use Rattle.std.proofs.Common.{◌≡◌, ◌∙◌, ◌+◌, ℕ, List, true, inl, inr, subst, sym, take}
use Rattle.std.proofs.lemmas.Bool.{false≢true}
use Rattle.std.specs.Prelude.{Option, Some, None, IfSome}
use Rattle.shop_jobs.specs.Input.{InputView, reserve_of, volume_of}
use Rattle.shop_jobs.specs.Job.{AddTo, AskView, Catalog, ChangeOf, Check, Compare, Convert, Create, Entries, ExtractFrom, Identify, JobView, LookAt, Map, OfTheVolume, Plan, Read, Survey, Unwrap, Verify, Wrap, is_in_place}
use Rattle.shop_jobs.specs.declared.input.FileSystem.TheVariants.{Dos}
use Rattle.shop_jobs.specs.declared.input.VolumeOptions.{VolumeOptions}
use Rattle.shop_replies.specs.declared.refusal.Failure.{Failure}
use Rattle.shop_replies.specs.declared.refusal.Side.{Side}
use Rattle.shop_replies.specs.declared.reply.Reply.{Reply}
use Rattle.shop_replies.specs.Reading.{IsReadFailure}
use Rattle.shop_replies.specs.Reply.{Held, IsDelivered, failed}
use Rattle.shop_reads.specs.DosCatalogReply.{IsDosCatalogReply}
use Rattle.shop_reads.specs.ImageLook.{IsImageLook}
use Rattle.shop_reads.proofs.DosListings.{dos_catalog_listed}
use Rattle.shop_commands.specs.Answer.{IsDosCatalogAnswer, IsDosCatalogOf, IsReplyToBytes, IsToldOfAsk, WhereKnown, extra_of, image_bytes, most_for, of_side, unread_reply}
use Rattle.shop_commands.proofs.Answered.{image_whole}

-- a listing of a DOS 3.3 disk is told in its words
catalog_listed : (input : InputView) (image extra : List ℕ) (volume : VolumeOptions) (reply : Reply) → volume_of input.reading ≡ Some volume → volume.file_system ≡ Dos
    → reserve_of input.reading ≡ None → IsToldOfAsk (OfTheVolume (LookAt Catalog)) input image extra reply → IsDosCatalogReply volume.order image reply
catalog_listed input image extra volume reply known dos none is =
    let looked : IsImageLook Catalog (extra_of input.beside extra) volume None image reply =
    subst (λ (reserve : Option (List ℕ)). IsImageLook Catalog (extra_of input.beside extra) volume reserve image reply) none
    (subst (λ (v : Option VolumeOptions). WhereKnown v (λ (one : VolumeOptions). IsImageLook Catalog (extra_of input.beside extra) one (reserve_of input.reading) image) reply) known is) in
    subst (λ (r : Reply). IsDosCatalogReply volume.order image r) (sym looked.told)
    (dos_catalog_listed volume image (extra_of input.beside extra) looked.plain dos looked.is)

-- the reply to a job's bytes answers so
dos_of_bytes : (ask : AskView) (job : JobView) (image extra : List ℕ) (status : ℕ) (reply : Reply) (old new : Held)
    → IsToldOfAsk ask job.input (take (most_for ask job.input.reading + 1) (image_bytes job.input.image image)) extra reply → IsDelivered reply status old new
    → IsDosCatalogOf ask job image status old new
dos_of_bytes (OfTheVolume (LookAt Catalog)) job image extra status reply old new is told = λ volume known dos none outside. (
  reply,
  inl (catalog_listed job.input (image_bytes job.input.image image) extra volume reply known dos none
      (image_whole (OfTheVolume (LookAt Catalog)) job.input (image_bytes job.input.image image) extra reply is)),
  told,
)
dos_of_bytes Identify job image extra status reply old new is told = tt
dos_of_bytes (Survey form) job image extra status reply old new is told = tt
dos_of_bytes (Convert to volume) job image extra status reply old new is told = tt
dos_of_bytes (Wrap words) job image extra status reply old new is told = tt
dos_of_bytes Unwrap job image extra status reply old new is told = tt
dos_of_bytes (Create words) job image extra status reply old new is told = tt
dos_of_bytes (OfTheVolume (ExtractFrom options)) job image extra status reply old new is told = tt
dos_of_bytes (OfTheVolume (AddTo words)) job image extra status reply old new is told = tt
dos_of_bytes (OfTheVolume (ChangeOf change)) job image extra status reply old new is told = tt
dos_of_bytes (OfTheVolume (LookAt (Entries options))) job image extra status reply old new is told = tt
dos_of_bytes (OfTheVolume (LookAt (Check bodies))) job image extra status reply old new is told = tt
dos_of_bytes (OfTheVolume (LookAt Map)) job image extra status reply old new is told = tt
dos_of_bytes (OfTheVolume (LookAt (Compare options))) job image extra status reply old new is told = tt
dos_of_bytes (OfTheVolume (LookAt (Read name form to_file))) job image extra status reply old new is told = tt
dos_of_bytes (OfTheVolume (LookAt (Plan reclaim in_words))) job image extra status reply old new is told = tt
dos_of_bytes (OfTheVolume (LookAt (Verify reclaim))) job image extra status reply old new is told = tt

pub dos_listed : (job : JobView) (known : Option (List ℕ)) (front extra : List ℕ) (status : ℕ) (reply : Reply) (old new : Held)
    → IfSome known (λ image. front ≡ take (most_for job.ask job.input.reading + 1) (image_bytes job.input.image image)) → IsReplyToBytes job front extra reply
    → IsDelivered reply status old new → IfSome known (λ image. IsDosCatalogAnswer job image status old new)
dos_listed job None front extra status reply old new taken is told = tt
dos_listed job (Some image) front extra status reply old new taken is told =
    dos_of_bytes job.ask job image extra status reply old new (subst (λ (bytes : List ℕ). IsReplyToBytes job bytes extra reply) taken is) told

-- so does the reply where bytes could not be read
dos_of_unread : (ask : AskView) (job : JobView) (side : Side) (failure : Failure) (image : List ℕ) (status : ℕ) (reply : Reply) (old new : Held)
    → IsReadFailure failure → reply ≡ of_side ask side (failed failure) → IsDelivered reply status old new → IsDosCatalogOf ask job image status old new
dos_of_unread (OfTheVolume (LookAt Catalog)) job side failure image status reply old new is same told = λ volume known dos none outside.
    (reply, inr (failure, is, same), told)
dos_of_unread Identify job side failure image status reply old new is same told = tt
dos_of_unread (Survey form) job side failure image status reply old new is same told = tt
dos_of_unread (Convert to volume) job side failure image status reply old new is same told = tt
dos_of_unread (Wrap words) job side failure image status reply old new is same told = tt
dos_of_unread Unwrap job side failure image status reply old new is same told = tt
dos_of_unread (Create words) job side failure image status reply old new is same told = tt
dos_of_unread (OfTheVolume (ExtractFrom options)) job side failure image status reply old new is same told = tt
dos_of_unread (OfTheVolume (AddTo words)) job side failure image status reply old new is same told = tt
dos_of_unread (OfTheVolume (ChangeOf change)) job side failure image status reply old new is same told = tt
dos_of_unread (OfTheVolume (LookAt (Entries options))) job side failure image status reply old new is same told = tt
dos_of_unread (OfTheVolume (LookAt (Check bodies))) job side failure image status reply old new is same told = tt
dos_of_unread (OfTheVolume (LookAt Map)) job side failure image status reply old new is same told = tt
dos_of_unread (OfTheVolume (LookAt (Compare options))) job side failure image status reply old new is same told = tt
dos_of_unread (OfTheVolume (LookAt (Read name form to_file))) job side failure image status reply old new is same told = tt
dos_of_unread (OfTheVolume (LookAt (Plan reclaim in_words))) job side failure image status reply old new is same told = tt
dos_of_unread (OfTheVolume (LookAt (Verify reclaim))) job side failure image status reply old new is same told = tt

pub dos_unread : (job : JobView) (known : Option (List ℕ)) (side : Side) (failure : Failure) (status : ℕ) (reply : Reply) (old new : Held)
    → IsReadFailure failure → reply ≡ unread_reply job side failure → IsDelivered reply status old new → IfSome known (λ image. IsDosCatalogAnswer job image status old new)
dos_unread job None side failure status reply old new is same told = tt
dos_unread job (Some image) side failure status reply old new is same told = dos_of_unread job.ask job side failure image status reply old new is same told

-- of a job in place nothing is said
dos_of_placed : (ask : AskView) (job : JobView) (image : List ℕ) (status : ℕ) (old new : Held) → is_in_place job.output ≡ true → IsDosCatalogOf ask job image status old new
dos_of_placed (OfTheVolume (LookAt Catalog)) job image status old new placed = λ volume known dos none outside. absurd (false≢true (sym outside ∙ placed))
dos_of_placed Identify job image status old new placed = tt
dos_of_placed (Survey form) job image status old new placed = tt
dos_of_placed (Convert to volume) job image status old new placed = tt
dos_of_placed (Wrap words) job image status old new placed = tt
dos_of_placed Unwrap job image status old new placed = tt
dos_of_placed (Create words) job image status old new placed = tt
dos_of_placed (OfTheVolume (ExtractFrom options)) job image status old new placed = tt
dos_of_placed (OfTheVolume (AddTo words)) job image status old new placed = tt
dos_of_placed (OfTheVolume (ChangeOf change)) job image status old new placed = tt
dos_of_placed (OfTheVolume (LookAt (Entries options))) job image status old new placed = tt
dos_of_placed (OfTheVolume (LookAt (Check bodies))) job image status old new placed = tt
dos_of_placed (OfTheVolume (LookAt Map)) job image status old new placed = tt
dos_of_placed (OfTheVolume (LookAt (Compare options))) job image status old new placed = tt
dos_of_placed (OfTheVolume (LookAt (Read name form to_file))) job image status old new placed = tt
dos_of_placed (OfTheVolume (LookAt (Plan reclaim in_words))) job image status old new placed = tt
dos_of_placed (OfTheVolume (LookAt (Verify reclaim))) job image status old new placed = tt

pub dos_placed : (job : JobView) (known : Option (List ℕ)) (status : ℕ) (old new : Held) → is_in_place job.output ≡ true
    → IfSome known (λ image. IsDosCatalogAnswer job image status old new)
dos_placed job None status old new placed = tt
dos_placed job (Some image) status old new placed = dos_of_placed job.ask job image status old new placed
