-- What is compared of a file.
use Rattle.std.specs.Prelude.{◌≡◌, ◌≢◌, ◌⊎◌, ℕ, List, Option, Some, None, if◌then◌else◌}
use Rattle.std.specs.declared.alloc.Global.{Global}
use Rattle.vol_layout.specs.declared.form.PlaceForm.{PlaceForm}
use Rattle.vol_format.specs.Directory.{Directory, Listed, entry_of}
use Rattle.vol_format.specs.Meaning.{Meaning}
use Rattle.file_formats.specs.DosFiles.{number_at}
use Rattle.file_formats.specs.Files.{FileMeaning}
use Rattle.file_formats.specs.declared.listing.ListEntry.{ListEntry}
use Rattle.file_cmds.specs.Address.{is_binary}
use Rattle.file_cmds.specs.Text.{IsWholeTextOf, OwnFault}
use Rattle.volume_compare.specs.declared.content.Content.{Content}
use Rattle.volume_compare.specs.declared.content.Head.{Head}
use Rattle.volume_compare.specs.declared.finding.Finding.{Finding}
use Rattle.volume_compare.specs.declared.finding.Finding.TheVariants.{Unreadable, Only, Body, Entry, Same}

-- what is compared beside the text of a file whose entry is shown so and that has this whole text
abbrev pub head_of : {A : Type 0} → PlaceForm → ListEntry A → List ℕ → Head
head_of form entry whole = record {
  locked = entry.locked;
  kind = entry.kind;
  access = entry.access;
  aux = entry.aux;
  eof = entry.eof;
  created = entry.created;
  modified = entry.modified;
  address = if is_binary form entry then Some (number_at whole 0) else None;
}

-- the content of a file: this, and its text
pub record FileContent : Type 0 where
  pub head : Head
  pub text : List ℕ

abbrev pub content_view : Content → FileContent
content_view content = record { head = content.head; text = content.text.items }

-- that of the file of an entry with this whole text
abbrev pub content_by : PlaceForm → FileMeaning → Listed → List ℕ → FileContent
content_by form files entry whole = record {
  head = head_of form (files.shown {A = Global} entry) whole;
  text = files.body entry.bytes whole;
}

-- A volume that was read: what its places are called, what its files are, what its units mean, what they say, and they
-- themselves.
pub record SeenVolume : Type 1 where
  pub form : PlaceForm
  pub files : FileMeaning
  pub meaning : Meaning
  pub directory : Directory
  pub store : List (List ℕ)

-- the content of the file of an entry
pub record IsContent (volume : SeenVolume) (file : ℕ) (content : FileContent) : Type 0 where
  pub whole : List ℕ
  pub is_whole : IsWholeTextOf volume.meaning volume.directory volume.store file whole
  pub is : content ≡ content_by volume.form volume.files (entry_of volume.directory file) whole

-- The file has a fault of its own, or a unit of it could not be read, which `failed` says of each file.
abbrev pub IsUnread : SeenVolume → (ℕ → Type 0) → ℕ → Type 0
IsUnread volume failed file = OwnFault volume.meaning volume.directory volume.store file ⊎ failed file

-- what was read of it
abbrev pub IsRead : SeenVolume → (ℕ → Type 0) → ℕ → Option Content → Type 0
IsRead volume failed file (Some content) = IsContent volume file (content_view content)
IsRead volume failed file None = IsUnread volume failed file

-- what two contents are to each other
abbrev pub IsJudged : FileContent → FileContent → Finding → Type 0
IsJudged one other Body = one.text ≢ other.text
IsJudged one other Entry = (one.text ≡ other.text) × (one.head ≢ other.head)
IsJudged one other Same = one ≡ other
IsJudged one other (Only side) = ⊥
IsJudged one other (Unreadable side) = ⊥

-- the volume that a store has
abbrev pub volume_in : PlaceForm → FileMeaning → Meaning → Directory → List (List ℕ) → SeenVolume
volume_in form files meaning directory store = record {
  form = form;
  files = files;
  meaning = meaning;
  directory = directory;
  store = store;
}
