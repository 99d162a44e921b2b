-- A container whose image is changed is a container that says the same.
use Rattle.std.proofs.Common.{◌≡◌, ℕ, List, length, subst, sym, inl, inr}
use Rattle.std.proofs.lemmas.Bool.{false≢true}
use Rattle.std.specs.Prelude.{IsSome, None, Option}
use Rattle.disk_container.specs.declared.container.Container.{Container}
use Rattle.disk_container.specs.Container.{IsContainer}
use Rattle.disk_container.proofs.Alike.{put}
use Rattle.shop_jobs.specs.Input.{InputView, reserve_of, volume_of}
use Rattle.shop_jobs.specs.Job.{AddTo, AskView, ChangeOf, ChangeView, Convert, Create, ExtractFrom, Identify, LookAt, OfTheVolume, Survey, Unwrap, Wrap}
use Rattle.shop_jobs.specs.declared.input.VolumeOptions.{VolumeOptions}
use Rattle.shop_changes.specs.EditRules.{changed_by}
use Rattle.shop_changes.proofs.SameLength.{changed_length}
use Rattle.shop_replies.proofs.NotMade.{failed_not_made, refused_not_made}
use Rattle.shop_replies.specs.declared.refusal.Failure.TheVariants as failures
use Rattle.shop_replies.specs.declared.reply.Reply.{Reply}
use Rattle.shop_replies.specs.Reply.{IsMade, made_of}
use Rattle.shop_commands.specs.Answer.{AreOfContainer, ChangesVolume, IsChangeTold, IsHandedOut, IsToldOfAsk, Parts}
use Rattle.shop_commands.proofs.Answered.{where_made}

-- the image that a change hands out is as long as the payload
told_length : (change : ChangeView) (reserve : Option (List ℕ)) (payload extra : List ℕ) (volume : VolumeOptions) (told : Reply)
    → IsChangeTold change reserve payload extra volume told → IsMade told → length (made_of told) ≡ length payload
told_length change reserve payload extra volume told (inl (refusal, is, refuses)) made = absurd (refused_not_made refusal told is made)
told_length change reserve payload extra volume told (inr (work, asks, tells)) made =
    changed_length volume reserve payload work (changed_by volume) told tells made

none_handed_out : (told reply : Reply) → told.image ≡ None → reply ≡ told → ¬ IsMade reply
none_handed_out told reply none same made = false≢true (subst IsSome none (subst (λ (r : Reply). IsMade r) same made))

-- what is told of a payload, and handed out of it
abbrev pub IsToldOfPayload : AskView → InputView → Parts → List ℕ → Reply → Type 0
IsToldOfPayload ask input parts extra reply = (told : Reply) × IsToldOfAsk ask input parts.payload extra told × IsHandedOut ask parts told reply

pub stays_container : (ask : AskView) (input : InputView) (parts : Parts) (extra : List ℕ) (reply : Reply) (container : Container) → AreOfContainer parts container
    → ChangesVolume ask → IsToldOfPayload ask input parts extra reply → IsMade reply → IsContainer (made_of reply) container
stays_container (OfTheVolume (ChangeOf change)) input parts extra reply container is changes (told, tells, inl (none, same)) made =
    absurd (none_handed_out told reply none same made)
stays_container (OfTheVolume (ChangeOf change)) input parts extra reply container is changes (told, tells, inr (handed, inl around)) made =
    subst (λ (bytes : List ℕ). IsContainer bytes container) (sym around.image)
    (put parts.front parts.payload parts.back (made_of told) container is.0 is.1
    (where_made (volume_of input.reading) (IsChangeTold change (reserve_of input.reading) parts.payload extra) told
    (λ volume tells. told_length change (reserve_of input.reading) parts.payload extra volume told tells handed) tells handed))
stays_container (OfTheVolume (ChangeOf change)) input parts extra reply container is changes (told, tells, inr (handed, inr failed)) made =
    absurd (failed_not_made failures.Memory reply failed made)
stays_container (OfTheVolume (LookAt look)) input parts extra reply container is changes told made = absurd changes
stays_container (OfTheVolume (ExtractFrom options)) input parts extra reply container is changes told made = absurd changes
stays_container (OfTheVolume (AddTo words)) input parts extra reply container is changes told made = absurd changes
stays_container (Convert to volume) input parts extra reply container is changes told made = absurd changes
stays_container (Wrap words) input parts extra reply container is changes told made = absurd changes
stays_container (Create words) input parts extra reply container is changes told made = absurd changes
stays_container Unwrap input parts extra reply container is changes told made = absurd changes
stays_container (Survey form) input parts extra reply container is changes told made = absurd changes
stays_container Identify input parts extra reply container is changes told made = absurd changes
