-- What is told of the files of a folder, by what became of them.
use Rattle.std.proofs.Common.{◌≡◌, ◌∙◌, ℕ, Global, List, String, Vec, ap, inl, inr, length, refl, subst, sym}
use Rattle.std.specs.Prelude.{Bool, IfSome, Option, Some, string_bytes}
use Rattle.a2_device.specs.Device.{DeviceState}
use Rattle.folder_adding.specs.AddReply.{AdditionTo, AreToldItems, TellsAdded, TellsAt, batch_of, path_of}
use Rattle.folder_adding.specs.AddedText.{added_text}
use Rattle.folder_adding.specs.Added.{AreAdded, HasAdded}
use Rattle.folder_adding.specs.Items.{BatchView, new_files}
use Rattle.folder_adding.specs.Reads.{AreGivenBack}
use Rattle.folder_adding.specs.Refused.{HasRefused}
use Rattle.folder_adding.specs.declared.adding.Refused.{Refused}
use Rattle.edit_formats.specs.Saves.{SaveMeaning}
use Rattle.shop_changes.specs.ImageBytes.{AreBytesOf, KeepsBytes}
use Rattle.shop_volumes.specs.VolumeReply.{IsVolumeIn, IsVolumeReply}
use Rattle.shop_jobs.specs.declared.input.VolumeOptions.{VolumeOptions}
use Rattle.shop_replies.specs.declared.refusal.Failure.{Failure}
use Rattle.shop_replies.specs.Reply.{made_of}
use Rattle.shop_replies.specs.declared.reply.Reply.{Reply}
use Rattle.shop_replies.specs.declared.reply.Status.TheVariants.{Done}
use Rattle.shop_replies.specs.declared.reply.Told.TheVariants.{Text}
use Rattle.vol_format.specs.Meaning.{Meaning}

-- the image under a device is still of the form that it had at first
keeps_bytes : (old new : DeviceState) (bytes : List ℕ) → new.image ≡ old.image → AreBytesOf new bytes → KeepsBytes old bytes
keeps_bytes old new bytes same (image, is, holds, kept, form, units) first of =
    let one : Some first ≡ Some (record { order = image.order; bytes = length image.bytes; kept = image.kept }) = sym of ∙ sym same ∙ form in
    let that : first ≡ record { order = image.order; bytes = length image.bytes; kept = image.kept } = cc in
    rw (that, is) kept

module _ (adding : AdditionTo) where
  -- the text and the image of a reply tell that all were added
  pub told_added : (batch : BatchView) (device : DeviceState) (text : String Global) (image : Vec ℕ Global) (reply : Reply) → batch ≡ batch_of adding
      → string_bytes text ≡ added_text batch adding.folder.entries adding.plan.passed → AreBytesOf device image.items
      → reply ≡ record { status = Done; told = Text text; image = Some image } → TellsAdded adding device reply
  told_added batch device text image reply is told made same =
      subst (λ (r : Reply). TellsAdded adding device r) (sym same)
      (record { done = (refl, refl); told = told ∙ ap (λ (b : BatchView). added_text b adding.folder.entries adding.plan.passed) is; made = made })

  -- what became of all items is told, where that is told
  pub told_all : {H : Type 0} (may_fail : H → ℕ → Failure → Type 0) (holds : Option (ℕ → List ℕ)) (batch : BatchView) (saves : SaveMeaning) (format : Meaning) (old new : DeviceState)
      (reply : Reply) → batch ≡ batch_of adding → new.image ≡ old.image → AreAdded batch holds saves format 0 batch.items old new
      → IfSome holds (λ contents. HasAdded saves format (new_files batch contents 0 batch.items) old.store new.store) → IfSome holds (λ contents. AreGivenBack batch contents)
      → TellsAdded adding new reply → AreToldItems may_fail adding holds saves format old reply
  told_all may_fail holds batch saves format old new reply is same added stored alike tells =
      inl (record {
        left = new;
        added = subst (λ (b : BatchView). AreAdded b holds saves format 0 b.items old new) is added;
        stored = subst (λ (b : BatchView). IfSome holds (λ contents. HasAdded saves format (new_files b contents 0 b.items) old.store new.store)) is stored;
        alike = subst (λ (b : BatchView). IfSome holds (λ contents. AreGivenBack b contents)) is alike;
        tells = tells;
        kept = keeps_bytes old new (made_of reply) same tells.made;
      })

  -- and why an item was not
  pub told_refused : {H : Type 0} (may_fail : H → ℕ → Failure → Type 0) (holds : Option (ℕ → List ℕ)) (batch : BatchView) (saves : SaveMeaning) (format : Meaning) (old new : DeviceState)
      (refused : Refused) (reply : Reply) → batch ≡ batch_of adding → HasRefused may_fail batch holds saves format old new refused
      → TellsAt (path_of adding.folder.entries refused.file) refused.reply reply → AreToldItems may_fail adding holds saves format old reply
  told_refused may_fail holds batch saves format old new refused reply is was told =
      inr (record {
        left = new;
        item = refused;
        refused = subst (λ (b : BatchView). HasRefused may_fail b holds saves format old new refused) is was;
        told = told;
      })

-- what is told of the device of an image is told of the image
pub volume_told : (volume : VolumeOptions) (reserve : Option (List ℕ)) (image : List ℕ) (device : DeviceState) (reserved : List Bool) (Tells : List Bool → DeviceState → Reply → Type 0)
    (reply : Reply) → IsVolumeIn volume reserve image device reserved → Tells reserved device reply → IsVolumeReply volume reserve image Tells reply
volume_told volume reserve image device reserved Tells reply of tells =
    inr (reserved, of.named, (of.taken.0, of.taken.1, of.taken.2, subst (λ (d : DeviceState). Tells reserved d reply) of.taken.3 tells))
