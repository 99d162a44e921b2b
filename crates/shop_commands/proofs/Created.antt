-- What is told of a new volume.
use Rattle.std.proofs.Common.{◌≡◌, ◌⊎◌, ℕ, ◌+◌, ◌≤◌, ◌<◌, Bool, true, false, List, length, take, take_all, length-take, arith, refl, subst, sym, inl, inr}
use Rattle.std.proofs.lemmas.Bool.Decides.{nat_tests}
use Rattle.std.specs.Prelude.{Option, Some, nat_le}
use Rattle.a2_device.specs.declared.order.Order.{Order}
use Rattle.a2_device.specs.declared.order.Order.TheVariants.{Dos, Prodos, Nibble}
use Rattle.a2_device.specs.Order.{IsImageLength}
use Rattle.new_volumes.specs.NewImage.{IsNewImage, RefusesNew}
use Rattle.new_volumes.specs.Wanted.{NewDos, NewPro, TakesBoot, TakesBytes, Wanted, kind_of}
use Rattle.new_volumes.specs.declared.error.NewVolumeError.{NewVolumeError}
use Rattle.new_volumes.specs.declared.error.NewVolumeError.TheVariants as errors
use Rattle.shop_jobs.specs.Job.{CreationView, NewVolumeView, ProdosVolume}
use Rattle.shop_replies.proofs.NotMade.{failed_not_made, refused_not_made}
use Rattle.shop_replies.specs.Disk.{most_bytes}
use Rattle.shop_replies.specs.declared.refusal.Failure.TheVariants as failures
use Rattle.shop_replies.specs.declared.refusal.Refusal.{Refusal}
use Rattle.shop_replies.specs.declared.refusal.Refusal.TheVariants as refusals
use Rattle.shop_replies.specs.declared.reply.Reply.{Reply}
use Rattle.shop_replies.specs.Reply.{IsMade, IsMadeReply, refused}
use Rattle.shop_commands.specs.CreateReply.{IsCreateReply, IsVolumeMade, RefusesVolume, SaysProdos, SaysVolume, reply_to_new_error}

-- ---- an image whose system is copied, of which one byte past the most is read

most_in : (order : Order) (bytes : ℕ) → IsImageLength order bytes → bytes ≤ most_bytes order
unfolding IsImageLength
most_in Dos bytes is = omega (arith, is)
most_in Prodos bytes is = omega (arith, is.2)
most_in Nibble bytes is = omega (arith, is)

most_taken : (volume : Wanted) (order : Order) (bytes : ℕ) → TakesBytes (kind_of volume) order bytes → bytes ≤ most_bytes order
most_taken (NewDos number data_disk) order bytes takes = most_in order bytes takes.0
most_taken (NewPro blocks name date) order bytes takes = most_in order bytes takes

module _ (volume : Wanted) (order : Order) (bytes : List ℕ) where
  abbrev front : List ℕ
  front = take (most_bytes order + 1) bytes

  -- more bytes than an image has are no image, and neither is the front of them
  bad_front : most_bytes order < length bytes → ¬ TakesBoot (kind_of volume) order (Some front)
  bad_front many = λ takes. let few = most_taken volume order (length front) takes in
      let long = length-take (most_bytes order + 1) bytes in omega (arith, many, few, long)

  bad_whole : most_bytes order < length bytes → ¬ TakesBoot (kind_of volume) order (Some bytes)
  bad_whole many = λ takes. let few = most_taken volume order (length bytes) takes in omega (arith, many, few)

  -- what is said of the front, where that is an image or the bytes are no more, is said of all
  said_whole : (P : Option (List ℕ) → Type 0) → P (Some front) → (most_bytes order < length bytes → P (Some bytes)) → P (Some bytes)
  said_whole P is past = by_length (nat_le (length bytes) (most_bytes order)) refl
    where
      by_length : (b : Bool) → nat_le (length bytes) (most_bytes order) ≡ b → P (Some bytes)
      by_length true short =
          let few : length bytes ≤ most_bytes order + 1 = grind (arith, nat_tests, short) in
          subst (λ (all : List ℕ). P (Some all)) (take_all (most_bytes order + 1) bytes few) is
      by_length false long = past (let many : most_bytes order < length bytes = grind (arith, nat_tests, long) in many)

  new_whole : (number : ℕ) (made : List ℕ) → IsNewImage volume order number (Some front) made → IsNewImage volume order number (Some bytes) made
  new_whole number made is = said_whole (λ boot. IsNewImage volume order number boot made) is (λ many. absurd (bad_front many is.boot_fits))

  refused_whole : (error : NewVolumeError) → RefusesNew volume order (Some front) error → RefusesNew volume order (Some bytes) error
  refused_whole errors.Length is = is
  refused_whole errors.BootLength is = said_whole (λ boot. RefusesNew volume order boot errors.BootLength) is (λ many. (is.0, bad_whole many))
  refused_whole errors.NoSector is = said_whole (λ boot. RefusesNew volume order boot errors.NoSector) is (λ many. absurd (bad_front many is.1))
  refused_whole errors.Memory is = said_whole (λ boot. RefusesNew volume order boot errors.Memory) is (λ many. absurd (bad_front many is.1))
  refused_whole errors.Refused is = said_whole (λ boot. RefusesNew volume order boot errors.Refused) is (λ many. absurd (bad_front many is.1))

made_whole : (words : CreationView) (volume : Wanted) (bytes : List ℕ) (reply : Reply) → IsVolumeMade words (Some (take (most_bytes words.order + 1) bytes)) volume reply
    → IsVolumeMade words (Some bytes) volume reply
made_whole words volume bytes reply is = elim is [
  | inl made ↦ inl (made.0, new_whole volume words.order bytes words.number _ made.1)
  | inr failed ↦ inr (failed.0, refused_whole volume words.order bytes failed.0 failed.1, failed.2)
]

create_whole : (words : CreationView) (bytes : List ℕ) (reply : Reply) → IsCreateReply words (Some (take (most_bytes words.order + 1) bytes)) reply
    → IsCreateReply words (Some bytes) reply
create_whole words bytes reply is = elim is [
  | inl unsaid ↦ inl unsaid
  | inr made ↦ inr (made.0, made.1, made_whole words made.0 bytes reply made.2)
]

pub create-take : (words : CreationView) (read bytes : List ℕ) (reply : Reply) → read ≡ take (most_bytes words.order + 1) bytes
    → IsCreateReply words (Some read) reply → IsCreateReply words (Some bytes) reply
create-take words read bytes reply taken is =
    create_whole words bytes reply (subst (λ (xs : List ℕ). IsCreateReply words (Some xs) reply) taken is)

-- ---- what is told of a ProDOS volume

abbrev pub IsProdosTold : CreationView → Option (List ℕ) → ℕ → Option (List ℕ) → Option (List ℕ) → Reply → Type 0
IsProdosTold words boot blocks name date reply =
    ((refusal : Refusal) × (reply ≡ refused refusal) × RefusesVolume (ProdosVolume blocks name date) refusal)
    ⊎ ((volume : Wanted) × SaysProdos blocks name date volume × IsVolumeMade words boot volume reply)

pub prodos_told : (words : CreationView) (boot : Option (List ℕ)) (blocks : ℕ) (name date : Option (List ℕ)) (reply : Reply)
    → words.volume ≡ ProdosVolume blocks name date → IsProdosTold words boot blocks name date reply → IsCreateReply words boot reply
prodos_told words boot blocks name date reply is told = elim told [
  | inl (refusal, same, refuses) ↦ inl (refusal, same, subst (λ (view : NewVolumeView). RefusesVolume view refusal) (sym is) refuses)
  | inr (volume, says, made) ↦ inr (volume, subst (λ (view : NewVolumeView). SaysVolume view words.number volume) (sym is) says, made)
]

-- ---- a volume that is made is answered with its image

not_made : (error : NewVolumeError) → ¬ IsMade (reply_to_new_error error)
not_made errors.Length made = refused_not_made refusals.Length _ refl made
not_made errors.BootLength made = refused_not_made refusals.Length _ refl made
not_made errors.NoSector made = refused_not_made refusals.NoSector _ refl made
not_made errors.Memory made = failed_not_made failures.Memory _ refl made
not_made errors.Refused made = refused_not_made refusals.Check _ refl made

pub created_image : (words : CreationView) (boot : Option (List ℕ)) (reply : Reply) → IsCreateReply words boot reply → IsMade reply → IsMadeReply reply
created_image words boot reply is made = elim is [
  | inl unsaid ↦ absurd (refused_not_made unsaid.0 reply unsaid.1 made)
  | inr (volume, says, inl done) ↦ done.0
  | inr (volume, says, inr (error, refuses, same)) ↦ absurd (not_made error (subst (λ (r : Reply). IsMade r) same made))
]
