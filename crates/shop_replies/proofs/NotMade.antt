-- Which replies have no image.
use Rattle.std.proofs.Common.{◌≡◌, ℕ, List, subst, inl, inr}
use Rattle.std.proofs.lemmas.Bool.{false≢true}
use Rattle.std.specs.Prelude.{IsSome}
use Rattle.a2_device.specs.declared.order.Order.{Order}
use Rattle.shop_replies.specs.declared.refusal.Refusal.{Refusal}
use Rattle.shop_replies.specs.declared.refusal.Refusal.TheVariants as refusals
use Rattle.shop_replies.specs.declared.refusal.Failure.{Failure}
use Rattle.shop_replies.specs.declared.refusal.Failure.TheVariants as failures
use Rattle.shop_replies.specs.declared.reply.Reply.{Reply}
use Rattle.shop_replies.specs.declared.reply.Status.{Status}
use Rattle.shop_jobs.specs.Job.{WrappingView}
use Rattle.shop_replies.specs.ContainerReply.{IsUnwrapReply, IsWrapReply}
use Rattle.shop_replies.specs.ConvertReply.{IsConvertReply}
use Rattle.shop_replies.specs.Reply.{IsMade, IsMadeReply, IsTold, failed, refused}

pub told_not_made : (status : Status) (reply : Reply) → IsTold status reply → ¬ IsMade reply
told_not_made status reply is made = false≢true (subst IsSome is.1 made)

pub refused_not_made : (refusal : Refusal) (reply : Reply) → reply ≡ refused refusal → ¬ IsMade reply
refused_not_made refusal reply is made = false≢true (subst IsMade is made)

pub failed_not_made : (failure : Failure) (reply : Reply) → reply ≡ failed failure → ¬ IsMade reply
failed_not_made failure reply is made = false≢true (subst IsMade is made)

-- a conversion that makes an image answers with it
pub converted_image : (order to : Order) (volume : ℕ) (image : List ℕ) (reply : Reply) → IsConvertReply order to volume image reply → IsMade reply → IsMadeReply reply
converted_image order to volume image reply is made = elim is [
  | inl converted ↦ converted.0
  | inr (inl long) ↦ absurd (refused_not_made refusals.Length reply long.0 made)
  | inr (inr (inl lacks)) ↦ absurd (refused_not_made refusals.NoSector reply lacks.0 made)
  | inr (inr (inr memory)) ↦ absurd (failed_not_made failures.Memory reply memory made)
]

-- a container that is made, and a payload that is taken out of one
pub wrapped_image : (order : Order) (words : WrappingView) (image : List ℕ) (reply : Reply) → IsWrapReply order words image reply → IsMade reply → IsMadeReply reply
wrapped_image order words image reply is made = elim is [
  | inl wrapped ↦ wrapped.1
  | inr (inl long) ↦ absurd (refused_not_made refusals.Length reply long.0 made)
  | inr (inr memory) ↦ absurd (failed_not_made failures.Memory reply memory made)
]

pub unwrapped_image : (file : List ℕ) (reply : Reply) → IsUnwrapReply file reply → IsMade reply → IsMadeReply reply
unwrapped_image file reply (inl (container, is, handed, payload)) made = handed
unwrapped_image file reply (inr (fault, is, told)) made = absurd (refused_not_made (refusals.Container fault) reply told made)
