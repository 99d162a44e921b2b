-- Files and directories that were extracted, planned as what they were.
use Rattle.std.specs.Prelude.{◌≡◌, ◌≢◌, ◌==◌, true, false, ℕ, Bool, ◌++◌, Option, None, Some, Err, Ok, IsSome, flat_map, if◌then◌else◌}
use Rattle.std.specs.Option.{option_to_list}
use Rattle.folder_adding.specs.HostEntries.{EntryView, has_file}
use Rattle.folder_adding.specs.HostPaths.{SaysDirectory, SaysPath, Text, are_pro_names, before, characters, may_have}
use Rattle.folder_adding.specs.Items.{ItemView}
use Rattle.folder_adding.specs.Verdicts.{AddedFolder, IsVerdict, adds, directory_type, form_given, makes, passes, second_of}
use Rattle.folder_adding.specs.declared.host_entry.HostKind.TheVariants.{File, Folder}
use Rattle.host_folders.specs.declared.said.Content.{Content}
use Rattle.host_folders.specs.declared.said.Content.TheVariants.{Bytes, Text as AText, Program}
use Rattle.host_folders.specs.HostNames.{aux_of, name_bytes, text_beside, type_of}
use Rattle.vol_layout.specs.declared.form.PlaceForm.TheVariants.{Sector}
use Rattle.round_trip.specs.Extracted.{Extracted, directory_said, entry_in, item_in, said_of}
use Rattle.shop_changes.specs.GivenWords.{kind_for}
use Rattle.shop_jobs.specs.declared.input.FileSystem.{FileSystem}
use Rattle.shop_jobs.specs.declared.input.FileSystem.TheVariants.{Dos, Prodos}
use Rattle.shop_replies.specs.declared.refusal.Refusal.TheVariants as refusals
use Rattle.vol_format.specs.Directory.{Listed}

-- ---- what is planned

-- the path that an entry had: of DOS 3.3 the characters of its name, without the spaces that fill it up, and of ProDOS
-- its path, behind the directory into which all files go, where one is said
abbrev pub path_again : FileSystem → Option Text → Listed → Text
path_again Dos into entry = characters (name_bytes Sector entry.path)
path_again Prodos into entry = flat_map before (option_to_list into) ++ entry.path

abbrev pub path_in : AddedFolder → Extracted → ℕ → Text
path_in folder e number = path_again folder.file_system folder.into (entry_in e number)

-- the item with the path, the kind and the aux type that a file had, whose bytes give it so, with the readable form
-- that stands beside these in the folder
abbrev pub item_again : AddedFolder → Extracted → ℕ → Content → ItemView
item_again folder e number content = record {
  path = path_in folder e number;
  kind = Some (item_in e number).entry.kind;
  aux = Some (aux_of (item_in e number).entry);
  form = form_given folder.file_system content;
  second = second_of folder.entries (item_in e number).host (said_of e number content).file;
}

-- a file, and a folder, among the entries of a folder
abbrev pub file_at : Text → EntryView
file_at path = record { path = path; kind = File }

abbrev pub folder_at : Text → EntryView
folder_at path = record { path = path; kind = Folder }

-- ---- files

-- the file system of an extraction has a type for a file
abbrev pub HasKind : Extracted → ℕ → Type 0
HasKind e number = IsSome (kind_for e.volume.file_system (type_of (item_in e number).entry))

-- a file does not have the type of directories
abbrev pub IsPlain : Extracted → ℕ → Type 0
IsPlain e number = type_of (item_in e number).entry ≢ directory_type

-- a new file may have the type of a file, its name and the names of its directories
pub record MayBeNew (e : Extracted) (number : ℕ) : Type 0 where
  pub plain : IsPlain e number
  pub kind : HasKind e number
  pub names : may_have e.volume.file_system (said_of e number Bytes) ≡ true

-- A file: its path says its names, its type and its aux type. Where a new file may have them, it is added as what it
-- was, with its bytes as they are; and else it is refused for its path, where it has the type of directories, for
-- another type or for a name, and for nothing else.
pub record IsPlannedAgain (folder : AddedFolder) (e : Extracted) (number : ℕ) : Type 0 where
  pub says : SaysPath folder.file_system (item_in e number).host (said_of e number Bytes)
  pub planned : MayBeNew e number
      → IsVerdict folder (file_at (item_in e number).host) (Ok (adds (item_again folder e number Bytes)))
  pub directory_type : type_of (item_in e number).entry ≡ directory_type
      → IsVerdict folder (file_at (item_in e number).host) (Err refusals.Host)
  pub no_type : IsPlain e number → kind_for e.volume.file_system (type_of (item_in e number).entry) ≡ None
      → IsVerdict folder (file_at (item_in e number).host) (Err refusals.Type)
  pub no_name : IsPlain e number → HasKind e number → may_have e.volume.file_system (said_of e number Bytes) ≡ false
      → IsVerdict folder (file_at (item_in e number).host) (Err refusals.Name)

-- ---- readable forms

-- what the bytes of the readable form of a file are: a text, or the listing of a program in Applesoft
abbrev pub content_of : ℕ → Content
content_of type = if type == 0x04 then AText else Program

abbrev pub content_in : Extracted → ℕ → Content
content_in e number = content_of (type_of (item_in e number).entry)

-- the path of the readable form of a file
abbrev pub form_host : Extracted → ℕ → Text
form_host e number = text_beside (item_in e number).host

-- The readable form of a file, which stands beside it: its path says the same. It is passed over where the file is an
-- entry too, and where it stands alone it is added as what the file was, with its bytes in that form.
pub record IsFormPlannedAgain (folder : AddedFolder) (e : Extracted) (number : ℕ) : Type 0 where
  pub says : SaysPath folder.file_system (form_host e number) (said_of e number (content_in e number))
  pub passed : has_file folder.entries (item_in e number).host ≡ true
      → IsVerdict folder (file_at (form_host e number)) (Ok passes)
  pub alone : has_file folder.entries (item_in e number).host ≡ false → MayBeNew e number
      → IsVerdict folder (file_at (form_host e number)) (Ok (adds (item_again folder e number (content_in e number))))

-- ---- directories

-- whether new directories may have the name of a directory and the names of those in which it stands
abbrev pub has_names : Extracted → ℕ → Bool
has_names e number = are_pro_names (directory_said e number).directories (directory_said e number).name

-- The folder of a directory, which ProDOS alone has: its path says its names. Where new directories may have them, it
-- is made where it is not there, under the path that it had; and else it is refused for a name.
pub record IsDirectoryAgain (folder : AddedFolder) (e : Extracted) (number : ℕ) : Type 0 where
  pub prodos : e.volume.file_system ≡ Prodos
  pub says : SaysDirectory folder.file_system (item_in e number).host (directory_said e number)
  pub planned : has_names e number ≡ true
      → IsVerdict folder (folder_at (item_in e number).host) (Ok (makes (path_in folder e number)))
  pub no_name : has_names e number ≡ false
      → IsVerdict folder (folder_at (item_in e number).host) (Err refusals.Name)
