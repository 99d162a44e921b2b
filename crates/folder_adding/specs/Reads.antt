-- What is read for an item: its file, and the readable form beside that.
use Rattle.std.specs.Prelude.{◌≡◌, ◌⊎◌, ◌<◌, ◌≤◌, ℕ, List, [], Option, Some, IfSome, length, slice_get}
use Rattle.file_forms.specs.Found.{FileView}
use Rattle.file_forms.specs.Readable.{IsTakenBack}
use Rattle.file_forms.specs.declared.form.FileForm.{FileForm}
use Rattle.folder_adding.specs.Files.{IsReadOf}
use Rattle.folder_adding.specs.Items.{BatchView, ItemView, file_at}
use Rattle.folder_adding.specs.declared.item.Second.{Second}
use Rattle.shop_changes.specs.GivenFile.{most_input}
use Rattle.shop_jobs.specs.declared.input.FileSystem.{FileSystem}
use Rattle.shop_replies.specs.Reading.{IsReadFailure}
use Rattle.shop_replies.specs.Reply.{failed, refused}
use Rattle.shop_replies.specs.Volume.{form_of}
use Rattle.shop_replies.specs.declared.refusal.Failure.TheVariants as failures
use Rattle.shop_replies.specs.declared.refusal.Failure.{Failure}
use Rattle.shop_replies.specs.declared.refusal.Refusal.TheVariants as refusals
use Rattle.shop_replies.specs.declared.reply.Reply.{Reply}

-- ---- what a readable form gives

-- a file of the host with these bytes, as one that was read of a volume
abbrev pub host_file : FileSystem → List ℕ → FileView
host_file file_system bytes = record {
  system = form_of file_system;
  name = [];
  info = record { access = 0; file_type = 0; aux_type = 0 };
  whole = bytes;
  body = bytes;
}

-- just the bytes of a file are taken from what its readable form has
abbrev pub GivesBack : FileSystem → FileForm → List ℕ → List ℕ → Type 0
GivesBack file_system form given bytes = IsTakenBack form (host_file file_system bytes) given

-- so it is with each item that has a readable form beside it, where the files hold this
abbrev pub AreGivenBack : BatchView → (ℕ → List ℕ) → Type 0
AreGivenBack batch contents =
    (number : ℕ) (item : ItemView) (second : Second)
    → slice_get batch.items number ≡ Some item → item.second ≡ Some second
    → GivesBack batch.file_system second.form (contents second.file) (contents (file_at batch number))

-- ---- what was read

-- all of the readable form beside a file with these bytes was read, and just these bytes are taken from it
pub record IsAlike (file_system : FileSystem) (holds : Option (ℕ → List ℕ)) (bytes : List ℕ) (second : Second) :
    Type 0 where
  pub given : List ℕ
  pub read : IsReadOf holds second.file given
  pub short : length given ≤ most_input
  pub gives : GivesBack file_system second.form given bytes

-- these bytes were read of the file of an item; and unless they are more than are taken, so is the readable form beside
-- it
pub record IsItemRead (file_system : FileSystem) (holds : Option (ℕ → List ℕ)) (file : ℕ) (item : ItemView)
    (bytes : List ℕ) : Type 0 where
  pub read : IsReadOf holds file bytes
  pub alike : length bytes ≤ most_input → IfSome item.second (IsAlike file_system holds bytes)

-- ---- why it was not

-- the file with this number could not be read, as it may not
pub record IsUnread {H : Type 0} (may_fail : H → ℕ → Failure → Type 0) (file : ℕ) (reply : Reply) : Type 0 where
  pub failure : Failure
  pub is : IsReadFailure failure
  pub files : H
  pub cause : may_fail files file failure
  pub told : reply ≡ failed failure

-- why a readable form of which this was read is not taken: it has more bytes than are taken, or gives other bytes than
-- those of the file; or want of memory to see that
abbrev pub TellsUnlike : FileSystem → FileForm → List ℕ → List ℕ → Reply → Type 0
TellsUnlike file_system form bytes given reply =
    ((reply ≡ refused refusals.InputTooLong) × (most_input < length given))
    ⊎ ((reply ≡ refused refusals.Differs) × (length given ≤ most_input) × ¬ GivesBack file_system form given bytes)
    ⊎ ((reply ≡ failed failures.Memory) × (length given ≤ most_input))

-- the readable form beside a file with these bytes could not be read, or was, and is not taken
abbrev pub IsUnlike : {H : Type 0} → (H → ℕ → Failure → Type 0) → FileSystem → Option (ℕ → List ℕ) → List ℕ → Second
    → Reply → Type 0
IsUnlike may_fail file_system holds bytes second reply =
    IsUnread may_fail second.file reply
    ⊎ ((given : List ℕ) × IsReadOf holds second.file given
    × TellsUnlike file_system second.form bytes given reply)

-- bytes were read of the file of an item, no more than are taken, and of the readable form beside it this is told
pub record HasUnlike {H : Type 0} (may_fail : H → ℕ → Failure → Type 0) (file_system : FileSystem)
    (holds : Option (ℕ → List ℕ)) (file : ℕ) (item : ItemView) (told : ℕ) (reply : Reply) : Type 0 where
  pub bytes : List ℕ
  pub read : IsReadOf holds file bytes
  pub short : length bytes ≤ most_input
  pub second : Second
  pub beside : item.second ≡ Some second
  pub of : told ≡ second.file
  pub unlike : IsUnlike may_fail file_system holds bytes second reply

-- why an item was not read, and of which file that is told: of its own, or of the readable form beside it
abbrev pub IsItemUnread : {H : Type 0} → (H → ℕ → Failure → Type 0) → FileSystem → Option (ℕ → List ℕ) → ℕ → ItemView
    → ℕ → Reply → Type 0
IsItemUnread may_fail file_system holds file item told reply =
    ((told ≡ file) × IsUnread may_fail file reply) ⊎ HasUnlike may_fail file_system holds file item told reply
