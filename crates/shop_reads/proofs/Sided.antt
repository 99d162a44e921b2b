-- A look at an image that says of which image it refuses.
use Rattle.std.proofs.Common.{◌≡◌, refl}
use Rattle.shop_jobs.specs.Job.{LookView, Catalog, Entries, Check, Compare, Map, Read, Plan, Verify}
use Rattle.shop_replies.specs.declared.reply.Reply.{Reply}
use Rattle.shop_replies.specs.Reply.{IsMade}
use Rattle.shop_reads.specs.ImageLook.{sided}
use Rattle.shop_reads.specs.Look.{GoesToFile}

-- it has an image where it has one without that
pub sided_made : (look : LookView) (reply : Reply) → IsMade (sided look reply) → IsMade reply
sided_made Catalog reply made = made
sided_made (Entries options) reply made = made
sided_made (Check bodies) reply made = made
sided_made Map reply made = made
sided_made (Compare options) reply made = made
sided_made (Read name form to_file) reply made = made
sided_made (Plan reclaim in_words) reply made = made
sided_made (Verify reclaim) reply made = made

-- one whose bytes go to a new file says it of none
pub sided_same : (look : LookView) (reply : Reply) → GoesToFile look → sided look reply ≡ reply
sided_same Catalog reply out = refl
sided_same (Entries options) reply out = refl
sided_same (Check bodies) reply out = refl
sided_same Map reply out = refl
sided_same (Compare options) reply out = absurd out
sided_same (Read name form to_file) reply out = refl
sided_same (Plan reclaim in_words) reply out = refl
sided_same (Verify reclaim) reply out = refl
