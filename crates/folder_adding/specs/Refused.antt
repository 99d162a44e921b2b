-- Why not all of the files were saved, and what stands then.
use Rattle.std.specs.Prelude.{◌≡◌, ◌≢◌, ◌⊎◌, ℕ, List, ◌∷◌, ◌++◌, Option, IfSome, IsTrue, length}
use Rattle.a2_device.specs.Device.{DeviceState, counted}
use Rattle.folder_adding.specs.Added.{AreAdded, HasAdded, IsNewFileOutcome}
use Rattle.folder_adding.specs.Items.{BatchView, ItemView, file_at, new_file, new_files}
use Rattle.folder_adding.specs.Reads.{IsItemRead, IsItemUnread}
use Rattle.folder_adding.specs.declared.adding.Refused.{Refused}
use Rattle.edit_formats.specs.Saves.{SaveMeaning}
use Rattle.shop_changes.specs.declared.outcome.Outcome.TheVariants.{Unfinished}
use Rattle.shop_replies.specs.declared.refusal.Failure.{Failure}
use Rattle.shop_replies.specs.declared.refusal.Failure.TheVariants.{Device}
use Rattle.shop_replies.specs.declared.reply.Reply.{Reply}
use Rattle.shop_replies.specs.Reply.{failed}
use Rattle.vol_format.specs.Meaning.{Meaning}

-- bytes were read of the item's file, which has this number, and what they give was not saved, for the cause that is
-- told of that file
pub record IsUnsaved (batch : BatchView) (holds : Option (ℕ → List ℕ)) (saves : SaveMeaning) (format : Meaning)
    (file : ℕ) (item : ItemView) (old new : DeviceState) (told : ℕ) (reply : Reply) : Type 0 where
  pub bytes : List ℕ
  pub read : IsItemRead batch.file_system holds file item bytes
  pub of : told ≡ file
  pub unsaved : IsNewFileOutcome saves format (new_file batch item bytes) old new (Unfinished reply)

-- an item was not read, and nothing was done to the device; or it was, and was not saved
abbrev pub IsItemRefused : {H : Type 0} → (H → ℕ → Failure → Type 0) → BatchView → Option (ℕ → List ℕ) → SaveMeaning
    → Meaning → ℕ → ItemView → DeviceState → DeviceState → ℕ → Reply → Type 0
IsItemRefused may_fail batch holds saves format file item old new told reply =
    (IsItemUnread may_fail batch.file_system holds file item told reply × (new ≡ old))
    ⊎ IsUnsaved batch holds saves format file item old new told reply

-- one refusal of the device was counted where its failure is told, and none where none is
abbrev pub CountsFailure : Reply → DeviceState → DeviceState → Type 0
CountsFailure reply old new =
    ((reply ≡ failed Device) × (new.faults ≡ counted old.faults))
    ⊎ ((reply ≢ failed Device) × (new.faults ≡ old.faults))

-- Behind items that were saved comes the one that is told, which was not; nothing was done after that. On an honest
-- device and of known files, the volume has the files of before and those of these items, and it stands unless the
-- device failed.
pub record HasRefused {H : Type 0} (may_fail : H → ℕ → Failure → Type 0) (batch : BatchView)
    (holds : Option (ℕ → List ℕ)) (saves : SaveMeaning) (format : Meaning) (old new : DeviceState)
    (refused : Refused) : Type 0 where
  pub before : List ItemView
  pub item : ItemView
  pub behind : List ItemView
  pub all : batch.items ≡ before ++ item ∷ behind
  pub number : refused.item ≡ length before
  pub mid : DeviceState
  pub added : AreAdded batch holds saves format 0 before old mid
  pub refusal : IsItemRefused may_fail batch holds saves format (file_at batch (length before)) item mid new
      refused.file refused.reply
  pub volume : IsTrue old.honest
      → IfSome holds (λ contents. HasAdded saves format (new_files batch contents 0 before) old.store mid.store)
  pub kept : IsTrue old.honest → refused.reply ≢ failed Device → new ≡ mid
