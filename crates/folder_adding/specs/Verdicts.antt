-- What becomes of an entry of a folder whose files are to be added to a volume.
use Rattle.std.specs.Prelude.{◌≡◌, ◌≢◌, ◌==◌, ◌&&◌, ℕ, Bool, true, false, List, Option, Some, None, Result, Ok, Err, if◌then◌else◌}
use Rattle.apple_text.specs.declared.form.HighBit.{HighBit}
use Rattle.apple_text.specs.declared.form.HighBit.TheVariants.{On, Off}
use Rattle.file_forms.specs.declared.form.FileForm.{FileForm}
use Rattle.file_forms.specs.declared.form.FileForm.TheVariants as forms
use Rattle.file_forms.specs.declared.form.GivenForm.{GivenForm}
use Rattle.file_forms.specs.declared.form.GivenForm.TheVariants as given
use Rattle.folder_adding.specs.HostEntries.{EntryView, has_file_beside, second_at}
use Rattle.folder_adding.specs.HostPaths.{SaidDirectory, SaidPath, SaysDirectory, SaysPath, Text, are_pro_names, may_have, pro_path, volume_path}
use Rattle.folder_adding.specs.Items.{ItemView}
use Rattle.folder_adding.specs.declared.host_entry.HostKind.{HostKind}
use Rattle.folder_adding.specs.declared.host_entry.HostKind.TheVariants.{File, Folder, Other}
use Rattle.folder_adding.specs.declared.item.Second.{Second}
use Rattle.host_folders.specs.HostEntries.{FileView}
use Rattle.host_folders.specs.declared.said.Content.{Content}
use Rattle.host_folders.specs.declared.said.Content.TheVariants as contents
use Rattle.shop_changes.specs.GivenWords.{kind_for}
use Rattle.shop_jobs.specs.declared.input.FileSystem.{FileSystem}
use Rattle.shop_jobs.specs.declared.input.FileSystem.TheVariants.{Dos, Prodos}
use Rattle.shop_replies.specs.declared.refusal.Refusal.{Refusal}
use Rattle.shop_replies.specs.declared.refusal.Refusal.TheVariants as refusals

-- a folder whose files are to be added: the file system of the volume, the path of the directory into which they go,
-- where one is said, and all entries
pub record AddedFolder : Type 0 where
  pub file_system : FileSystem
  pub into : Option Text
  pub entries : List EntryView

-- what is done with an entry that is not refused: an item is added, the directory of this path is made where none is
-- there, or the entry is passed over with a word
pub data Step : Type 0 where
  adds : ItemView → Step
  makes : Text → Step
  passes : Step

-- what becomes of an entry: a step, or why it is refused
abbrev pub Verdict : Type 0
Verdict = Result Step Refusal

-- ---- folders

-- the step of a folder whose path says this
abbrev pub making_said : AddedFolder → SaidDirectory → Step
making_said folder said = makes (pro_path folder.into said.directories said.name)

-- A folder: its path says a directory, and directories may have the names.
pub data IsFolderVerdict (folder : AddedFolder) (path : Text) : Verdict → Type 0 where
  no_directory : ((said : SaidDirectory) → ¬ SaysDirectory folder.file_system path said)
      → IsFolderVerdict folder path (Err refusals.Host)
  no_directory_name : (said : SaidDirectory) → SaysDirectory folder.file_system path said
      → are_pro_names said.directories said.name ≡ false → IsFolderVerdict folder path (Err refusals.Name)
  is_directory : (said : SaidDirectory) → SaysDirectory folder.file_system path said
      → are_pro_names said.directories said.name ≡ true → IsFolderVerdict folder path (Ok (making_said folder said))

-- ---- files

-- the highest bit of the bytes of a text
abbrev pub high_bit : FileSystem → HighBit
high_bit Dos = On
high_bit Prodos = Off

-- the form in which the bytes of a file give it
abbrev pub form_given : FileSystem → Content → Option GivenForm
form_given file_system contents.Bytes = None
form_given file_system contents.Text = Some (given.Text (high_bit file_system))
form_given file_system contents.Program = Some given.Applesoft

-- how bytes are taken from the readable form that may stand beside a file: a text, or a program in Applesoft
abbrev pub form_beside : Content → ℕ → Option FileForm
form_beside contents.Bytes type =
    if type == 0x04 then Some forms.Text else if type == 0xfc then Some forms.Applesoft else None
form_beside contents.Text type = None
form_beside contents.Program type = None

abbrev pub second_in : Option FileForm → Option ℕ → Option Second
second_in (Some form) (Some file) = Some (record { file = file; form = form })
second_in (Some form) None = None
second_in None file = None

-- the readable form that stands beside the file of a path, which says this
abbrev pub second_of : List EntryView → Text → FileView → Option Second
second_of entries path file = second_in (form_beside file.content file.file_type) (second_at entries path)

-- the item of the file of a path, that gets this type on the volume
abbrev pub item_said : AddedFolder → Text → SaidPath → ℕ → ItemView
item_said folder path said kind = record {
  path = volume_path folder.file_system folder.into said;
  kind = Some kind;
  aux = Some said.file.aux_type;
  form = form_given folder.file_system said.file.content;
  second = second_of folder.entries path said.file;
}

-- whether the bytes of a file are a readable form of it
abbrev pub is_readable : Content → Bool
is_readable contents.Bytes = false
is_readable contents.Text = true
is_readable contents.Program = true

-- whether a file is the readable form of one that stands beside it
abbrev pub is_second : AddedFolder → Text → SaidPath → Bool
is_second folder path said = is_readable said.file.content && has_file_beside folder.entries path

-- the type of directories, which no file has
abbrev pub directory_type : ℕ
directory_type = 0x0f

-- the path says a file of another type
abbrev pub SaysPlainFile : FileSystem → Text → SaidPath → Type 0
SaysPlainFile file_system path said = SaysPath file_system path said × (said.file.file_type ≢ directory_type)

-- A file: its path says one, and not with the type of directories; it is not the readable form of one that stands
-- beside it; the volume has its type; and files and directories may have the names.
pub data IsFileVerdict (folder : AddedFolder) (path : Text) : Verdict → Type 0 where
  no_path : ((said : SaidPath) → ¬ SaysPath folder.file_system path said)
      → IsFileVerdict folder path (Err refusals.Host)
  no_plain_file : (said : SaidPath) → SaysPath folder.file_system path said → said.file.file_type ≡ directory_type
      → IsFileVerdict folder path (Err refusals.Host)
  second_form : (said : SaidPath) → SaysPlainFile folder.file_system path said → is_second folder path said ≡ true
      → IsFileVerdict folder path (Ok passes)
  no_type : (said : SaidPath) → SaysPlainFile folder.file_system path said → is_second folder path said ≡ false
      → kind_for folder.file_system said.file.file_type ≡ None
      → IsFileVerdict folder path (Err refusals.Type)
  no_name : (said : SaidPath) (kind : ℕ) → SaysPlainFile folder.file_system path said
      → is_second folder path said ≡ false
      → kind_for folder.file_system said.file.file_type ≡ Some kind → may_have folder.file_system said ≡ false
      → IsFileVerdict folder path (Err refusals.Name)
  is_item : (said : SaidPath) (kind : ℕ) → SaysPlainFile folder.file_system path said
      → is_second folder path said ≡ false
      → kind_for folder.file_system said.file.file_type ≡ Some kind → may_have folder.file_system said ≡ true
      → IsFileVerdict folder path (Ok (adds (item_said folder path said kind)))

-- ---- all entries

-- of everything else than files and folders the name is not looked at
abbrev pub IsVerdictOf : AddedFolder → Text → HostKind → Verdict → Type 0
IsVerdictOf folder path File verdict = IsFileVerdict folder path verdict
IsVerdictOf folder path Folder verdict = IsFolderVerdict folder path verdict
IsVerdictOf folder path Other verdict = verdict ≡ Err refusals.Host

abbrev pub IsVerdict : AddedFolder → EntryView → Verdict → Type 0
IsVerdict folder entry verdict = IsVerdictOf folder entry.path entry.kind verdict
