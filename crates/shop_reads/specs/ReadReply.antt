-- What is told of a file that is read.
use Rattle.std.specs.Prelude.{◌≡◌, ◌⊎◌, ℕ, Bool, true, false, List}
use Rattle.a2_device.specs.Device.{DeviceState}
use Rattle.vol_format.specs.Directory.{Directory, entry_of}
use Rattle.vol_format.specs.Meaning.{Meaning}
use Rattle.file_formats.specs.FileNames.{FileNameView}
use Rattle.file_formats.specs.Files.{FileMeaning, IsFirstNamed}
use Rattle.file_forms.specs.Found.{FileView}
use Rattle.file_cmds.specs.Read.{HasNoFile, IsTextAt, IsUnreadable}
use Rattle.file_cmds.specs.Text.{IsEntryText}
use Rattle.vol_layout.specs.declared.form.PlaceForm.{PlaceForm}
use Rattle.shop_jobs.specs.declared.looks.ReadForm.{ReadForm}
use Rattle.shop_jobs.specs.declared.looks.ReadForm.TheVariants as reads
use Rattle.shop_replies.specs.declared.refusal.Refusal.TheVariants as refusals
use Rattle.shop_replies.specs.declared.refusal.Failure.TheVariants as failures
use Rattle.shop_replies.specs.declared.reply.Reply.{Reply}
use Rattle.shop_replies.specs.Reply.{IsMadeReply, IsTold, failed, made_of, refused, text_of}
use Rattle.shop_replies.specs.declared.reply.Status.TheVariants.{Done}
use Rattle.shop_replies.specs.Volume.{LacksUnit}
use Rattle.shop_reads.specs.FileForms.{IsInWantedForm, LacksWantedForm, found_in}

-- the first file with a name has no fault of its own, and this is said of it
pub record OfFileAt (place : PlaceForm) (files : FileMeaning) (format : Meaning) (store : List (List ℕ))
    (name : FileNameView) (Is : FileView → Type 0) : Type 0 where
  pub directory : Directory
  pub described : format.Describes store directory
  pub file : ℕ
  pub first : IsFirstNamed files directory name file
  pub whole : List ℕ
  pub read : IsEntryText format files directory store file true whole
  pub is : Is (found_in place files (entry_of directory file) whole)

-- the first file with a name is these bytes: its body, all of its units, or a form of it
abbrev pub IsContentAt : PlaceForm → FileMeaning → Meaning → List (List ℕ) → FileNameView → ReadForm → List ℕ → Type 0
IsContentAt place files format store name reads.Body bytes = IsTextAt format files store name false bytes
IsContentAt place files format store name reads.Whole bytes = IsTextAt format files store name true bytes
IsContentAt place files format store name form bytes =
    OfFileAt place files format store name (λ file. IsInWantedForm form file bytes)

-- it has no such form; each has its bytes
abbrev pub LacksFormAt : PlaceForm → FileMeaning → Meaning → List (List ℕ) → FileNameView → ReadForm → Type 0
LacksFormAt place files format store name reads.Body = ⊥
LacksFormAt place files format store name reads.Whole = ⊥
LacksFormAt place files format store name form = OfFileAt place files format store name (LacksWantedForm form)

-- bytes of which this is said are told, or they go to a new file with `OK`
abbrev pub HandsContent : Bool → (List ℕ → Type 0) → Reply → Type 0
HandsContent false Is reply = IsTold Done reply × Is (text_of reply)
HandsContent true Is reply = IsMadeReply reply × Is (made_of reply)

-- The reply to `read`: the first file with this name, as it is wanted; `Form` where it has no such form; `Check` for a
-- directory or a file that can't be read; `NotFound` where no file has the name; a failure where a unit can't be read;
-- or want of memory.
abbrev pub IsRead : FileNameView → ReadForm → Bool → PlaceForm → FileMeaning → Meaning → DeviceState → Reply
    → Type 0
IsRead name form to_file place files format device reply =
    HandsContent to_file (IsContentAt place files format device.store name form) reply
    ⊎ ((reply ≡ refused refusals.Form) × LacksFormAt place files format device.store name form)
    ⊎ ((reply ≡ refused refusals.Check) × IsUnreadable format files device.store name)
    ⊎ ((reply ≡ refused refusals.NotFound) × HasNoFile format files device.store name)
    ⊎ ((reply ≡ failed failures.Device) × LacksUnit device)
    ⊎ (reply ≡ failed failures.Memory)
