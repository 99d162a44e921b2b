-- What `plan --words` tells of a volume.
use Rattle.std.specs.Prelude.{◌≡◌, ◌⊎◌, Bool, List}
use Rattle.std.specs.declared.alloc.Global.{Global}
use Rattle.a2_device.specs.Device.{DeviceState}
use Rattle.vol_layout.specs.declared.moves.Move.{Move}
use Rattle.move_plan.specs.declared.answer.Plan.{Plan}
use Rattle.vol_layout.specs.declared.form.PlaceForm.{PlaceForm}
use Rattle.vol_format.specs.Directory.{Directory}
use Rattle.vol_format.specs.Meaning.{Meaning}
use Rattle.vol_check.specs.Told.{Told}
use Rattle.vol_mover.specs.Opening.{IsPlanOf}
use Rattle.file_listings.specs.DosText.{Text}
use Rattle.file_formats.specs.Files.{FileMeaning}
use Rattle.file_listings.specs.Steps.{plan_words_text}
use Rattle.file_listings.specs.declared.step.Step.{Step}
use Rattle.shop_replies.specs.declared.refusal.Failure.TheVariants as failures
use Rattle.shop_replies.specs.declared.reply.Reply.{Reply}
use Rattle.shop_replies.specs.Reply.{IsTold, failed, text_of}
use Rattle.shop_replies.specs.declared.reply.Status.TheVariants.{Done}
use Rattle.shop_volumes.specs.Unopened.{IsUnopenedReply}
use Rattle.shop_reads.specs.PlanReply.{IsOpened}
use Rattle.shop_reads.specs.Steps.{AreSteps}

-- these steps are told, or memory is wanting
abbrev pub TellsSteps : PlaceForm → FileMeaning → Directory → List Step → Reply → Type 0
TellsSteps form files directory steps reply =
    (IsTold Done reply × (text_of reply ≡ plan_words_text form files directory steps))
    ⊎ (reply ≡ failed failures.Memory)

-- the text tells the moves of a plan of a volume in words
pub record IsPlanText (form : PlaceForm) (files : FileMeaning) (directory : Directory) (told : Told) (moves : List Move)
    (text : Text) : Type 0 where
  pub steps : List Step
  pub are : AreSteps told.parts directory.available told.layout.at moves steps
  pub is : text ≡ plan_words_text form files directory steps

abbrev pub TellsWords : PlaceForm → FileMeaning → Directory → Told → List Move → Reply → Type 0
TellsWords form files directory told moves reply =
    (IsTold Done reply × IsPlanText form files directory told moves (text_of reply)) ⊎ (reply ≡ failed failures.Memory)

-- a shortest plan of the volume's layout, and its moves in words
pub record IsWordsReply (form : PlaceForm) (files : FileMeaning) (reclaim : Bool) (format : Meaning)
    (device : DeviceState) (reply : Reply) : Type 0 where
  pub volume : Told
  pub opened : IsOpened reclaim format device.store volume
  pub plan : Plan Global
  pub shortest : IsPlanOf volume.layout plan
  pub told : TellsWords form files opened.directory volume plan.moves.items reply

abbrev pub IsPlannedInWords : PlaceForm → FileMeaning → Bool → Meaning → DeviceState → Reply → Type 0
IsPlannedInWords form files reclaim format device reply =
    IsWordsReply form files reclaim format device reply ⊎ IsUnopenedReply reclaim format device reply
