-- A new file as words and bytes say it, and the file that they give.
use Rattle.std.specs.Prelude.{◌≡◌, ◌⊎◌, ◌<◌, ◌≤◌, ℕ, List, [], ◌∷◌, ◌++◌, Option, Some, None, codes, decimal, length, unwrap_or}
use Rattle.std.specs.Option.{option_or}
use Rattle.a2_device.specs.Device.{DeviceState}
use Rattle.file_forms.specs.Taken.{CanBeTakenFrom, IsBadLine, IsTakenFrom, TakenView}
use Rattle.file_forms.specs.declared.form.GivenForm.{GivenForm}
use Rattle.file_forms.specs.declared.form.GivenForm.TheVariants.{Single}
use Rattle.pro_dir.specs.declared.date.ProDate.{ProDate}
use Rattle.edit_formats.specs.Saves.{SaveMeaning}
use Rattle.shop_changes.specs.GivenFile.{GivenView, most_input}
use Rattle.shop_changes.specs.GivenWords.{head_of, kind_for, usual_kind}
use Rattle.shop_changes.specs.SaveOutcome.{IsSaveOutcome}
use Rattle.shop_changes.specs.declared.outcome.Outcome.{Outcome}
use Rattle.shop_changes.specs.declared.outcome.Outcome.TheVariants.{Unfinished}
use Rattle.shop_changes.specs.declared.said_file.SaidFile.{SaidFile}
use Rattle.shop_jobs.specs.declared.input.FileSystem.{FileSystem}
use Rattle.shop_replies.specs.declared.refusal.Refusal.TheVariants as refusals
use Rattle.shop_replies.specs.declared.refusal.Failure.TheVariants as failures
use Rattle.shop_replies.specs.declared.reply.Reply.{Reply}
use Rattle.shop_replies.specs.declared.reply.Status.TheVariants.{Refused}
use Rattle.shop_replies.specs.Reply.{IsTold, failed, refused, text_of}
use Rattle.shop_replies.specs.Volume.{form_of}
use Rattle.vol_format.specs.Meaning.{Meaning}

-- a new file: its type and its aux type, where they are said, its date, the form in which its bytes are given, and
-- these
pub record SaidView : Type 0 where
  pub file_system : FileSystem
  pub kind : Option ℕ
  pub aux : Option ℕ
  pub date : ProDate
  pub form : Option GivenForm
  pub bytes : List ℕ

abbrev pub said_view : SaidFile → SaidView
said_view said = record {
  file_system = said.file_system;
  kind = said.kind;
  aux = said.aux;
  date = said.date;
  form = said.form;
  bytes = said.bytes.now;
}

-- the file with this type, this aux type where none is said, and these bytes
abbrev pub given_with : SaidView → ℕ → ℕ → List ℕ → GivenView
given_with said kind aux bytes = record {
  kind = kind;
  aux = unwrap_or said.aux aux;
  date = said.date;
  head = head_of said.file_system kind;
  bytes = bytes;
}

-- the type that is said, or that of the file system for what was taken: where that has none, a binary file's ($06)
abbrev pub kind_of : SaidView → TakenView → Option ℕ
kind_of said file = option_or said.kind (kind_for said.file_system (unwrap_or file.file_type 0x06))

-- what is given in a form is such a file
pub record IsGivenIn (said : SaidView) (form : GivenForm) (given : GivenView) : Type 0 where
  pub file : TakenView
  pub taken : IsTakenFrom (form_of said.file_system) form said.bytes file
  pub kind : kind_of said file ≡ Some given.kind
  pub is : given ≡ given_with said given.kind (unwrap_or file.aux_type 0) file.bytes

-- the file that is given: the bytes as they are, or what is taken from the form
abbrev pub IsGivenBy : SaidView → Option GivenForm → GivenView → Type 0
IsGivenBy said None given = given ≡ given_with said (unwrap_or said.kind (usual_kind said.file_system)) 0 said.bytes
IsGivenBy said (Some form) given = IsGivenIn said form given

abbrev pub Gives : SaidView → GivenView → Type 0
Gives said given = IsGivenBy said said.form given

-- ---- refusals

abbrev pub bad_line_text : ℕ → List ℕ
bad_line_text line = codes "REFUSED Text " ++ decimal line ++ 10 ∷ []

-- `Text` with the number of the line; or want of memory for that
abbrev pub TellsBadLine : ℕ → Reply → Type 0
TellsBadLine line reply = (IsTold Refused reply × (text_of reply ≡ bad_line_text line))
    ⊎ (reply ≡ failed failures.Memory)

-- what is given has a first line that can't be taken, and this is told of it
pub record HasBadLine (said : SaidView) (form : GivenForm) (reply : Reply) : Type 0 where
  pub line : ℕ
  pub bad : IsBadLine (form_of said.file_system) form said.bytes line
  pub never : ¬ CanBeTakenFrom (form_of said.file_system) form said.bytes
  pub told : TellsBadLine line reply

-- what is given is no AppleSingle file that can be taken
pub record IsNoSingle (said : SaidView) (form : GivenForm) : Type 0 where
  pub single : form ≡ Single
  pub never : ¬ CanBeTakenFrom (form_of said.file_system) form said.bytes

-- the file system has no type for what was taken, and none is said
pub record HasNoType (said : SaidView) (form : GivenForm) : Type 0 where
  pub file : TakenView
  pub taken : IsTakenFrom (form_of said.file_system) form said.bytes file
  pub kind : kind_of said file ≡ None

-- Why no file is given: a line that can't be taken, no AppleSingle file, one whose type the file system does not have;
-- or want of memory.
abbrev pub IsNotGivenIn : SaidView → GivenForm → Reply → Type 0
IsNotGivenIn said form reply =
    HasBadLine said form reply
    ⊎ ((reply ≡ refused refusals.Single) × IsNoSingle said form)
    ⊎ ((reply ≡ refused refusals.Type) × HasNoType said form)
    ⊎ (reply ≡ failed failures.Memory)

-- bytes as they are give a file
abbrev pub IsNotGivenBy : SaidView → Option GivenForm → Reply → Type 0
IsNotGivenBy said None reply = ⊥
IsNotGivenBy said (Some form) reply = IsNotGivenIn said form reply

abbrev pub GivesNone : SaidView → Reply → Type 0
GivesNone said reply = IsNotGivenBy said said.form reply

-- ---- what becomes of the volume

-- More bytes than are read of a file, before that they give none, before the saving of the one that they give; until
-- then the device is as it was.
abbrev pub IsSaidOutcome : List ℕ → SaidView → SaveMeaning → Meaning → DeviceState → DeviceState → Outcome → Type 0
IsSaidOutcome path said saves format old new outcome =
    ((outcome ≡ Unfinished (refused refusals.InputTooLong)) × (most_input < length said.bytes) × (new ≡ old))
    ⊎ ((length said.bytes ≤ most_input)
    × ((reply : Reply) × (outcome ≡ Unfinished reply) × GivesNone said reply × (new ≡ old)))
    ⊎ ((length said.bytes ≤ most_input)
    × ((given : GivenView) × Gives said given × IsSaveOutcome path given saves format old new outcome))
