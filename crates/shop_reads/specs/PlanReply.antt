-- What is told of a volume whose plan is asked for.
use Rattle.std.specs.Prelude.{◌≡◌, ◌⊎◌, ◌↔◌, ℕ, Bool, List, Contains}
use Rattle.std.specs.declared.alloc.Global.{Global}
use Rattle.a2_device.specs.Device.{DeviceState}
use Rattle.vol_layout.specs.Layouts.{Placement}
use Rattle.move_plan.specs.declared.answer.Plan.{Plan}
use Rattle.ring_cert.specs.Certificates.{certificate_of, certificate_text}
use Rattle.vol_format.specs.Accepted.{IsAccepted}
use Rattle.vol_format.specs.Directory.{Directory}
use Rattle.vol_format.specs.Meaning.{Meaning}
use Rattle.vol_format.specs.Reach.{IsPartsOf}
use Rattle.vol_format.specs.Standing.{IsLost}
use Rattle.vol_check.specs.Told.{Told, IsToldOf}
use Rattle.vol_mover.specs.Opening.{IsAllowed, IsPlanOf}
use Rattle.shop_replies.specs.declared.refusal.Failure.TheVariants as failures
use Rattle.shop_replies.specs.declared.reply.Reply.{Reply}
use Rattle.shop_replies.specs.Reply.{IsTold, failed, text_of}
use Rattle.shop_replies.specs.declared.reply.Status.TheVariants.{Done}
use Rattle.shop_volumes.specs.Unopened.{IsUnopenedReply}

-- The volume is accepted, and these are its parts, their layout and the lost places, none of which is lost but where
-- they are reclaimed; and it has a free place or is in order.
pub record IsOpened (reclaim : Bool) (format : Meaning) (store : List (List ℕ)) (told : Told) : Type 0 where
  pub directory : Directory
  pub accepted : IsAccepted format directory store
  pub of_directory : IsToldOf directory told
  pub parts : IsPartsOf format directory store told.parts
  pub lost : (place : ℕ) → Contains told.lost place ↔ IsLost format directory store place
  pub allowed : IsAllowed (record { reclaim = reclaim }) told

-- the text is the certificate of a plan of a layout
abbrev pub certificate_by : {A : Type 0} → Placement → Plan A → List ℕ
certificate_by layout plan = certificate_text
    (certificate_of layout plan.misplaced.items plan.rings.items plan.moves.items)

abbrev pub TellsPlan : {A : Type 0} → Placement → Plan A → Reply → Type 0
TellsPlan layout plan reply = (IsTold Done reply × (text_of reply ≡ certificate_by layout plan))
    ⊎ (reply ≡ failed failures.Memory)

-- a shortest plan of the volume's layout, and the text of its certificate
pub record IsPlanReply (reclaim : Bool) (format : Meaning) (device : DeviceState) (reply : Reply) : Type 0 where
  pub volume : Told
  pub opened : IsOpened reclaim format device.store volume
  pub plan : Plan Global
  pub shortest : IsPlanOf volume.layout plan
  pub told : TellsPlan volume.layout plan reply

abbrev pub IsPlanned : Bool → Meaning → DeviceState → Reply → Type 0
IsPlanned reclaim format device reply =
    IsPlanReply reclaim format device reply ⊎ IsUnopenedReply reclaim format device reply
