-- What was read of a certificate or of another image, up to one byte past the most that it may have, answers for all of it.
use Rattle.std.proofs.Common.{◌≡◌, ◌∙◌, ℕ, ◌+◌, Bool, true, false, List, length, take, take_all, length-take, arith, ap, subst, inl, inr}
use Rattle.a2_device.specs.declared.order.Order.{Order}
use Rattle.a2_device.specs.Device.{DeviceState}
use Rattle.vol_format.specs.Meaning.{Meaning}
use Rattle.shop_jobs.specs.Job.{LookView, Catalog, Entries, Check, Compare, Map, Read, Plan, Verify}
use Rattle.shop_replies.specs.declared.reply.Reply.{Reply}
use Rattle.shop_replies.specs.Disk.{most_bytes}
use Rattle.shop_reads.specs.Extra.{FileBytes, ImageBytes}
use Rattle.shop_reads.specs.Look.{IsLookReply, ShownMeaning}
use Rattle.shop_reads.specs.VerifyReply.{IsVerified, most_certificate}
use Rattle.shop_reads.proofs.Compared.{compared-take}

verified-take : (reclaim : Bool) (front bytes : List ℕ) (format : Meaning) (device : DeviceState) (reply : Reply) → front ≡ take (most_certificate + 1) bytes
    → IsVerified reclaim front format device reply → IsVerified reclaim bytes format device reply
verified-take reclaim front bytes format device reply taken is = elim is [
  | inl long ↦ inl (long.0, omega (arith, long.1, ap (λ (xs : List ℕ). length xs) taken, length-take (most_certificate + 1) bytes))
  | inr short ↦ subst (λ text. IsVerified reclaim text format device reply)
      (taken ∙ take_all (most_certificate + 1) bytes (omega (arith, short.0, ap (λ (xs : List ℕ). length xs) taken, length-take (most_certificate + 1) bytes))) (inr short)
]

-- no look but one at a certificate has a file beside the volume
pub file-take : (look : LookView) (front bytes : List ℕ) (format : ShownMeaning) (device : DeviceState) (reply : Reply) → front ≡ take (most_certificate + 1) bytes
    → IsLookReply look (FileBytes front) format device reply → IsLookReply look (FileBytes bytes) format device reply
file-take Catalog front bytes format device reply taken is = is
file-take (Entries options) front bytes format device reply taken is = is
file-take (Check false) front bytes format device reply taken is = is
file-take (Check true) front bytes format device reply taken is = is
file-take Map front bytes format device reply taken is = is
file-take (Compare options) front bytes format device reply taken is = is
file-take (Read name form to_file) front bytes format device reply taken is = is
file-take (Plan reclaim false) front bytes format device reply taken is = is
file-take (Plan reclaim true) front bytes format device reply taken is = is
file-take (Verify reclaim) front bytes format device reply taken is = verified-take reclaim front bytes format.units device reply taken is

-- and none but a comparison another image
abbrev pub most_in_look : LookView → Order → ℕ
most_in_look (Compare options) order = most_bytes order
most_in_look look order = most_certificate

pub image-take : (look : LookView) (order : Order) (front bytes : List ℕ) (format : ShownMeaning) (device : DeviceState) (reply : Reply)
    → front ≡ take (most_in_look look order + 1) bytes → IsLookReply look (ImageBytes order front) format device reply
    → IsLookReply look (ImageBytes order bytes) format device reply
image-take Catalog order front bytes format device reply taken is = is
image-take (Entries options) order front bytes format device reply taken is = is
image-take (Check false) order front bytes format device reply taken is = is
image-take (Check true) order front bytes format device reply taken is = is
image-take Map order front bytes format device reply taken is = is
image-take (Compare options) order front bytes format device reply taken is =
    compared-take options order front bytes format.form format.files format.units device reply taken is
image-take (Read name form to_file) order front bytes format device reply taken is = is
image-take (Plan reclaim false) order front bytes format device reply taken is = is
image-take (Plan reclaim true) order front bytes format device reply taken is = is
image-take (Verify reclaim) order front bytes format device reply taken is = is
