-- A file that takes the place of another one: what is saved, once the other one is deleted.
use Rattle.std.specs.Prelude.{◌≡◌, ◌⊎◌, ℕ, ◌==◌, ◌&&◌, not, true, false, List, Option, Some, None, IsSome, MatchOption, option_and_then, unwrap_or, if◌then◌else◌}
use Rattle.std.specs.Option.{option_or}
use Rattle.std.specs.declared.alloc.Global.{Global}
use Rattle.a2_device.specs.Device.{DeviceState, OnlyReads}
use Rattle.vol_format.specs.Accepted.{IsAccepted, IsVolume}
use Rattle.vol_format.specs.Directory.{Directory, entry_of}
use Rattle.vol_format.specs.Meaning.{Meaning}
use Rattle.vol_laws.specs.Writes.{Write}
use Rattle.edit_formats.specs.Deleted.{HasFirstProtected, IsDeleteEdit}
use Rattle.edit_formats.specs.Edited.{HasChanged, HasNoSuchFile}
use Rattle.edit_formats.specs.Lists.{without_named}
use Rattle.edit_formats.specs.Writes.{StopsIn, device_after}
use Rattle.edit_formats.specs.declared.error.EditError.{EditError}
use Rattle.edit_formats.specs.declared.error.EditError.TheVariants.{Check, Locked, Device, Memory}
use Rattle.file_cmds.specs.Text.{IsWholeTextOf}
use Rattle.file_forms.specs.Taken.{IsTakenFrom, TakenView}
use Rattle.file_forms.specs.declared.form.GivenForm.{GivenForm}
use Rattle.file_formats.specs.DosFiles.{number_at}
use Rattle.file_formats.specs.FileNames.{GivenPath}
use Rattle.file_formats.specs.Files.{FileMeaning, IsFirstNamed}
use Rattle.file_formats.specs.declared.listing.ListEntry.{ListEntry}
use Rattle.vol_layout.specs.declared.form.PlaceForm.{PlaceForm}
use Rattle.file_cmds.specs.Address.{is_binary}
use Rattle.shop_jobs.specs.declared.input.FileSystem.{FileSystem}
use Rattle.shop_replies.specs.Reply.{refused}
use Rattle.shop_replies.specs.Volume.{form_of}
use Rattle.shop_replies.specs.declared.refusal.Refusal.TheVariants as refusals
use Rattle.shop_replies.specs.declared.reply.Reply.{Reply}
use Rattle.shop_changes.specs.EditRules.{EditRules}
use Rattle.shop_changes.specs.GivenFile.{GivenView, IsTooLongForHead}
use Rattle.shop_changes.specs.GivenWords.{kind_for, kind_unsaid, text_kind}
use Rattle.shop_changes.specs.Refusals.{reply_to_edit_refusal}
use Rattle.shop_changes.specs.SaidFile.{Gives, SaidView, given_with, kind_of}
use Rattle.shop_changes.specs.declared.plain_file.PlainFile.{PlainFile}
use Rattle.shop_changes.specs.declared.replaced_file.ReplacedFile.{ReplacedFile}

-- ---- the bytes as they are

-- the type that is said, or that of the file system for what was taken, where that has one
abbrev pub kind_left : SaidView → TakenView → Option ℕ
kind_left said file = option_or said.kind (option_and_then (kind_for said.file_system) file.file_type)

-- a file as it is said, once it is taken from the form in which it is given: the words come first, then what the form
-- says, and what neither says is left open
pub record IsTakenSaid (said : SaidView) (form : GivenForm) (plain : SaidView) : Type 0 where
  pub file : TakenView
  pub taken : IsTakenFrom (form_of said.file_system) form said.bytes file
  pub kind : IsSome (kind_of said file)
  pub is : plain ≡ record said {
    kind = kind_left said file;
    aux = option_or said.aux file.aux_type;
    form = None;
    bytes = file.bytes;
  }

-- that of a file that is given in a form or as it is
abbrev pub IsPlainSaid : SaidView → Option GivenForm → SaidView → Type 0
IsPlainSaid said None plain = plain ≡ said
IsPlainSaid said (Some form) plain = IsTakenSaid said form plain

-- a file that was taken from a form, as it is said
abbrev pub plain_view : PlainFile → SaidView
plain_view plain = record {
  file_system = plain.file_system;
  kind = plain.kind;
  aux = plain.aux;
  date = plain.date;
  form = None;
  bytes = plain.bytes.items;
}

-- the type is said, and the file is too long for its head
abbrev pub IsTooLongAsSaid : SaidView → Type 0
IsTooLongAsSaid said = (kind : ℕ) × (said.kind ≡ Some kind) × IsTooLongForHead (given_with said kind 0 said.bytes)

-- ---- the file that is replaced

-- of a file of a volume the address, if it is a binary file of DOS 3.3; else the auxiliary type of its entry
abbrev pub IsAuxOf : PlaceForm → Meaning → Directory → List (List ℕ) → ℕ → ListEntry Global → ℕ → Type 0
IsAuxOf form format directory store file entry aux =
    ((is_binary form entry ≡ false) × (aux ≡ entry.aux))
    ⊎ ((is_binary form entry ≡ true) × ((whole : List ℕ) × IsWholeTextOf format directory store file whole
    × (aux ≡ number_at whole 0)))

-- the one that is said, or where none is that of the file
abbrev pub IsAuxTaken : PlaceForm → Meaning → Directory → List (List ℕ) → ℕ → ListEntry Global → Option ℕ → ℕ → Type 0
IsAuxTaken form format directory store file entry (Some said) aux = aux ≡ said
IsAuxTaken form format directory store file entry None aux = IsAuxOf form format directory store file entry aux

-- The first file with a path of an accepted volume has this type; and this auxiliary type, where none is said.
pub record IsReplacedFile (form : PlaceForm) (format : Meaning) (files : FileMeaning)
    (store : List (List ℕ)) (path : List ℕ)
    (said : Option ℕ) (old : ReplacedFile) : Type 0 where
  pub directory : Directory
  pub accepted : IsAccepted format directory store
  pub file : ℕ
  pub first : IsFirstNamed files directory (GivenPath path) file
  pub kind : old.kind ≡ (files.shown {A = Global} (entry_of directory file)).kind
  pub aux : IsAuxTaken form format directory store file
      (files.shown {A = Global} (entry_of directory file)) said old.aux

-- the file that a path names on an accepted volume, or that it names none
abbrev pub IsReplaced : PlaceForm → Meaning → FileMeaning → List (List ℕ) → List ℕ → Option ℕ → Option ReplacedFile
    → Type 0
IsReplaced form format files store path said old =
    MatchOption old (HasNoSuchFile format files store (GivenPath path))
    (IsReplacedFile form format files store path said)

-- ---- what is saved

-- the auxiliary type that stays: that of the old file, but of a file that becomes a text 0, as a text has no address
abbrev pub aux_kept : FileSystem → ℕ → ReplacedFile → ℕ
aux_kept file_system kind old =
    if kind == text_kind file_system && not (old.kind == text_kind file_system) then 0 else old.aux

-- the file that is given in the place of another one: what the words leave out is that file's; where there is none, it
-- has this type and the aux type 0
abbrev pub given_over : SaidView → ℕ → Option ReplacedFile → GivenView
given_over said unsaid None = given_with said (unwrap_or said.kind unsaid) 0 said.bytes
given_over said unsaid (Some old) = given_with said (unwrap_or said.kind old.kind)
    (aux_kept said.file_system (unwrap_or said.kind old.kind) old) said.bytes

-- where there is none, a file that was taken from the form in which it is said is given as one that is saved
abbrev pub IsGivenAsNew : SaidView → SaidView → Type 0
IsGivenAsNew said plain =
    IsPlainSaid said said.form plain
    → Gives said (given_over plain (kind_unsaid said.file_system said.form) None)

-- the first file with a path is deleted, by the writes of that edit
pub record IsWithout (path : List ℕ) (files : FileMeaning) (rules : EditRules) (format : Meaning)
    (old new : DeviceState) : Type 0 where
  pub writes : List Write
  pub are_writes : IsDeleteEdit format files rules.erase old.store (GivenPath path) writes
  pub changed : HasChanged format (without_named files (GivenPath path)) old.store new.store
  pub made : new ≡ device_after writes old

-- it is deleted, or no file has the path and nothing is changed
abbrev pub IsCleared : List ℕ → FileMeaning → EditRules → Meaning → DeviceState → DeviceState → Type 0
IsCleared path files rules format old new =
    IsWithout path files rules format old new ⊎ (HasNoSuchFile format files old.store (GivenPath path) × (new ≡ old))

-- what is saved then
pub record IsMadeWay (path : List ℕ) (said : SaidView) (unsaid : ℕ) (files : FileMeaning) (rules : EditRules)
    (format : Meaning) (old new : DeviceState)
    (given : GivenView) : Type 0 where
  pub fits : ¬ IsTooLongAsSaid said
  pub replaced : Option ReplacedFile
  pub was : IsReplaced (form_of said.file_system) format files old.store path said.aux replaced
  pub is : given ≡ given_over said unsaid replaced
  pub cleared : IsCleared path files rules format old new

-- Why the file is not deleted: the volume is not accepted; the entry of the file does not let it be deleted; a read or
-- a write fails, and a front of the writes stands; or want of memory. Nothing else is told.
abbrev pub IsNotCleared : EditError → List ℕ → FileMeaning → EditRules → Meaning → DeviceState → DeviceState → Type 0
IsNotCleared Check path files rules format old new = (¬ IsVolume format old.store) × (new ≡ old)
IsNotCleared Locked path files rules format old new =
    HasFirstProtected format files rules.erase old.store (GivenPath path) × (new ≡ old)
IsNotCleared Device path files rules format old new =
    OnlyReads true old new
    ⊎ ((writes : List Write) × IsDeleteEdit format files rules.erase old.store (GivenPath path) writes
    × StopsIn writes old new)
IsNotCleared Memory path files rules format old new = new ≡ old
IsNotCleared error path files rules format old new = ⊥

-- the reply to a file that is not replaced: one that is too long for the head of the type that is said comes first
abbrev pub IsNoWay : List ℕ → SaidView → FileMeaning → EditRules → Meaning → DeviceState → DeviceState → Reply → Type 0
IsNoWay path said files rules format old new reply =
    ((reply ≡ refused refusals.TooLong) × IsTooLongAsSaid said × (new ≡ old))
    ⊎ (¬ IsTooLongAsSaid said × ((error : EditError) × (reply ≡ reply_to_edit_refusal error)
    × IsNotCleared error path files rules format old new))
