-- What the paths of entries say of files and directories of a volume.
use Rattle.std.specs.Prelude.{◌≡◌, ◌≢◌, ℕ, ◌-◌, ◌==◌, ◌&&◌, nat_le, All, Bool, List, [], ◌∷◌, ◌++◌, Option, codes, flat_map, map}
use Rattle.std.specs.List.{list_all, slice_split}
use Rattle.std.specs.Option.{option_to_list}
use Rattle.edit_formats.specs.DosNames.{is_dos_name}
use Rattle.edit_formats.specs.ProNames.{is_pro_name}
use Rattle.host_folders.specs.HostEntries.{FileView, SaysFile, SaysFolder}
use Rattle.vol_layout.specs.declared.form.PlaceForm.TheVariants.{Sector, Block}
use Rattle.shop_jobs.specs.declared.input.FileSystem.{FileSystem}
use Rattle.shop_jobs.specs.declared.input.FileSystem.TheVariants.{Dos, Prodos}

-- the bytes of a path or of a name
abbrev pub Text : Type 0
Text = List ℕ

-- ---- what a path says

-- what the path of a file says: the stored names of the directories that lead to it, and the file
pub record SaidPath : Type 0 where
  pub directories : List Text
  pub file : FileView

-- the parts of a path, with `/` between each two
abbrev pub parts : Text → List Text
parts path = slice_split (λ byte. byte == 47) path

-- parts of a path, in ProDOS: each before the last one is that of a folder and says the name of a directory, and the
-- last one says this
abbrev pub SayPartsIn : {S : Type 0} → (Text → S → Type 0) → List Text → List Text → S → Type 0
SayPartsIn Says [] names said = ⊥
SayPartsIn Says (last ∷ []) [] said = Says last said
SayPartsIn Says (last ∷ []) (name ∷ names) said = ⊥
SayPartsIn Says (folder ∷ next ∷ behind) [] said = ⊥
SayPartsIn Says (folder ∷ next ∷ behind) (name ∷ names) said =
    SaysFolder Block folder name × SayPartsIn Says (next ∷ behind) names said

-- the last one says a file, or the name of a directory
abbrev pub SayParts : List Text → List Text → FileView → Type 0
SayParts parts names file = SayPartsIn (SaysFile Block) parts names file

abbrev pub SayFolders : List Text → List Text → Text → Type 0
SayFolders parts names name = SayPartsIn (SaysFolder Block) parts names name

-- the path of a file; DOS 3.3 has no directories, and so there is no `/` in it
abbrev pub SaysPath : FileSystem → Text → SaidPath → Type 0
SaysPath Dos path said = All (λ byte. byte ≢ 47) path × (said.directories ≡ []) × SaysFile Sector path said.file
SaysPath Prodos path said = SayParts (parts path) said.directories said.file

-- what the path of a folder says: the stored names of the directories that lead to a directory, and its own
pub record SaidDirectory : Type 0 where
  pub directories : List Text
  pub name : Text

-- the path of a folder; DOS 3.3 has no directories
abbrev pub SaysDirectory : FileSystem → Text → SaidDirectory → Type 0
SaysDirectory Dos path said = ⊥
SaysDirectory Prodos path said = SayFolders (parts path) said.directories said.name

-- ---- names, and the path on the volume

-- a character as DOS 3.3 stores it: $A0 to $FE
abbrev pub is_stored_character : ℕ → Bool
is_stored_character byte = nat_le 0xa0 byte && nat_le byte 0xfe

-- the characters of a stored name of DOS 3.3: its bytes less $80
abbrev pub characters : Text → Text
characters name = map (λ byte. byte - 0x80) name

-- whether files and directories may have all of these names, in ProDOS
abbrev pub are_pro_names : List Text → Text → Bool
are_pro_names directories name = list_all is_pro_name directories && is_pro_name name

-- whether each name that a path says is one that a file may have
abbrev pub may_have : FileSystem → SaidPath → Bool
may_have Dos said = list_all is_stored_character said.file.name && is_dos_name (characters said.file.name)
may_have Prodos said = are_pro_names said.directories said.file.name

-- a directory before what stands in it
abbrev pub before : Text → Text
before directory = directory ++ codes "/"

-- a path of ProDOS: behind the directory into which all files go, where one is said, the names with `/` between each
-- two
abbrev pub pro_path : Option Text → List Text → Text → Text
pro_path into directories name = flat_map before (option_to_list into ++ directories) ++ name

-- the path on the volume; in DOS 3.3 it has the characters of the name
abbrev pub volume_path : FileSystem → Option Text → SaidPath → Text
volume_path Dos into said = characters said.file.name
volume_path Prodos into said = pro_path into said.directories said.file.name
