-- The reply that tells readings.
use Rattle.std.proofs.Common.{◌≡◌, ◌≢◌, ◌∙◌, ◌==◌, ap, Bool, false, ℕ, List, [], length, inl, inr, arith, subst, sym}
use Rattle.std.proofs.lemmas.Bool.{false≢true}
use Rattle.std.specs.Prelude.{◌↔◌, IsTrue}
use Rattle.disk_container.specs.Format.{BeginsLikeContainer}
use Rattle.std.proofs.lemmas.Bool.Decides.{nat_tests}
use Rattle.shop_replies.specs.declared.reply.Reply.{Reply}
use Rattle.image_readings.specs.declared.reading.Reading.{Reading}
use Rattle.image_readings.specs.IdentifyReply.{AreReadings, IsIdentifyReply, IsImageReply, TellsRanked}

-- a list of another length than none is not empty
pub some_readings : (readings : List Reading) (count : ℕ) → count ≡ length readings → (count == 0) ≡ false → readings ≢ []
some_readings readings count is test none = let nothing : length readings ≡ 0 = ap length none in grind (arith, nat_tests, is, test, nothing)

pub told : (head image : List ℕ) (readings : List Reading) (reply : Reply) → AreReadings image readings → readings ≢ [] → TellsRanked head readings reply
    → IsImageReply head image reply
told head image readings reply are some tells = elim tells [
  | inl ranked ↦ inl (record { readings = readings; are = are; some = some; ranked = ranked })
  | inr memory ↦ inr (inr memory)
]

-- a file that does not begin like a container is told as an image
pub plainly : (file slice : List ℕ) (reply : Reply) (begins : Bool) → slice ≡ file → (IsTrue begins ↔ BeginsLikeContainer slice) → begins ≡ false
    → IsImageReply [] file reply → IsIdentifyReply file reply
plainly file slice reply begins same is fails told =
    inl (λ like. false≢true (sym fails ∙ is.1 (subst (λ (bytes : List ℕ). BeginsLikeContainer bytes) (sym same) like)), told)
