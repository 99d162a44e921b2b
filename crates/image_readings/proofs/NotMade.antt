-- The reply to `identify` hands out no image.
use Rattle.std.proofs.Common.{ℕ, List, [], inl, inr}
use Rattle.disk_container.specs.Container.{payload_in}
use Rattle.shop_replies.proofs.NotMade.{failed_not_made, refused_not_made, told_not_made}
use Rattle.shop_replies.specs.Reply.{IsMade}
use Rattle.shop_replies.specs.declared.refusal.Failure.TheVariants as failures
use Rattle.shop_replies.specs.declared.refusal.Refusal.TheVariants as refusals
use Rattle.shop_replies.specs.declared.reply.Reply.{Reply}
use Rattle.shop_replies.specs.declared.reply.Status.TheVariants.{Done, Wrong}
use Rattle.image_readings.specs.declared.ranking.Verdict.{Verdict}
use Rattle.image_readings.specs.declared.ranking.Verdict.TheVariants.{Best, Ambiguous, NoVolume}
use Rattle.image_readings.specs.IdentifyText.{container_text}
use Rattle.image_readings.specs.IdentifyReply.{IsIdentifyReply, IsImageReply, Reports}

reported_not_made : (verdict : Verdict) (reply : Reply) → Reports verdict reply → ¬ IsMade reply
reported_not_made (Best number) reply reports made = told_not_made Done reply reports made
reported_not_made Ambiguous reply reports made = told_not_made Wrong reply reports made
reported_not_made NoVolume reply reports made = told_not_made Wrong reply reports made

image_not_made : (head image : List ℕ) (reply : Reply) → IsImageReply head image reply → ¬ IsMade reply
image_not_made head image reply is made = elim is [
  | inl told ↦ reported_not_made told.ranked.verdict reply told.ranked.reports made
  | inr (inl refused) ↦ refused_not_made refusals.Length reply refused.0 made
  | inr (inr failed) ↦ failed_not_made failures.Memory reply failed made
]

pub identify_not_made : (file : List ℕ) (reply : Reply) → IsIdentifyReply file reply → ¬ IsMade reply
identify_not_made file reply (inl (plain, is)) made = image_not_made [] file reply is made
identify_not_made file reply (inr (inl (container, is, told))) made =
    image_not_made (container_text container) (payload_in file container) reply told made
identify_not_made file reply (inr (inr (fault, begins, is, told))) made = refused_not_made (refusals.Container fault) reply told made
