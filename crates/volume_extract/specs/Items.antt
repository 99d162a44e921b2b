-- What is made of the entries of a volume in a folder of the host: for each entry an item.
use Rattle.std.specs.Prelude.{◌≡◌, ◌⊎◌, ◌<◌, ◌≤◌, ◌&&◌, not, ℕ, ◌+◌, ◌^◌, Bool, true, false, List, [], ◌∷◌, ◌++◌, Option, Some, None, codes, count_by, flat_map, length, nat_eq, slice_index_or, sum_by}
use Rattle.std.specs.Option.{option_eq}
use Rattle.std.specs.Str.{bytes_eq}
use Rattle.std.specs.declared.alloc.Global.{Global}
use Rattle.vol_layout.specs.declared.form.PlaceForm.TheVariants.{Block}
use Rattle.vol_format.specs.Directory.{Directory, Listed, entry_of, is_directory}
use Rattle.file_formats.specs.DosFiles.{number_at}
use Rattle.file_formats.specs.declared.listing.ListEntry.{ListEntry}
use Rattle.file_cmds.specs.Text.{IsWholeTextOf}
use Rattle.host_folders.specs.Folder.{Made, folder, file}
use Rattle.file_forms.specs.Found.{FileView}
use Rattle.host_folders.specs.HostNames.{Entry, Text, bare_name, folded, host_name, text_beside}
use Rattle.host_folders.specs.Laws.{IsEntry}
use Rattle.host_folders.specs.declared.entry.Naming.{Naming}
use Rattle.file_cmds.specs.Address.{is_binary}
use Rattle.volume_compare.specs.Contents.{IsUnread, SeenVolume}
use Rattle.volume_extract.specs.Texts.{HasText, are_alone, view_of}
use Rattle.volume_extract.specs.declared.texts.Texts.{Texts}
use Rattle.volume_extract.specs.declared.texts.Texts.TheVariants.{Beside, Alone}

-- What is found of an entry: that it is a directory's; a file of these bytes, with a readable form that stands beside
-- it or without; a readable form that stands in the place of its file; or a file that can't be read.
pub data Found : Type 0 where
  found_folder : Found
  found_file : (bytes : List ℕ) → Found
  found_both : (bytes text : List ℕ) → Found
  found_text : (text : List ℕ) → Found
  found_unread : Found

-- whether a readable form stands there in the place of its file
abbrev pub is_text : Found → Bool
is_text (found_text text) = true
is_text found_folder = false
is_text (found_file bytes) = false
is_text (found_both bytes text) = false
is_text found_unread = false

-- What an entry is on the host: the entry of its directory, unless that is the volume's; what its name says; its number
-- among those of its folder with its bare name; in how many directories it stands, the volume's own not counted; its
-- path in the folder of the host; and what is found of it.
pub record Item : Type 0 where
  pub above : Option ℕ
  pub entry : Entry
  pub number : ℕ
  pub depth : ℕ
  pub host : Text
  pub found : Found

abbrev pub no_item : Item
no_item = record {
  above = None;
  entry = record { form = Block; name = []; kind = 0; aux = 0; directory = false; text = false };
  number = 0;
  depth = 0;
  host = [];
  found = found_unread;
}

-- an item by its number
abbrev pub item_at : List Item → ℕ → Item
item_at items number = slice_index_or items number no_item

-- ---- where an entry stands

-- an entry stands in the directory of an earlier one: its path is the directory's, a slash, and its own name
pub record StandsIn (own : Listed → List ℕ) (directory : Directory) (entry above : ℕ) : Type 0 where
  pub before : above < entry
  pub of_directory : is_directory (entry_of directory above) ≡ true
  pub path : (entry_of directory entry).path ≡ (entry_of directory above).path ++ 0x2f ∷ own (entry_of directory entry)

-- the entry of the directory in which an entry stands; one that stands in the volume's has its own name as its path
abbrev pub IsAbove : (Listed → List ℕ) → Directory → ℕ → Option ℕ → Type 0
IsAbove own directory entry (Some above) = StandsIn own directory entry above
IsAbove own directory entry None = (entry_of directory entry).path ≡ own (entry_of directory entry)

-- in how many directories it stands
abbrev pub depth_below : List Item → Option ℕ → ℕ
depth_below items None = 0
depth_below items (Some above) = (item_at items above).depth + 1

-- the path of a name below the folder of a directory
abbrev pub host_below : List Item → Option ℕ → Text → Text
host_below items None name = name
host_below items (Some above) name = (item_at items above).host ++ codes "/" ++ name

-- ---- what is read of it

-- what a listing shows of it
abbrev pub shown_of : SeenVolume → ℕ → ListEntry Global
shown_of volume entry = volume.files.shown {A = Global} (entry_of volume.directory entry)

abbrev pub is_folder_at : SeenVolume → ℕ → Bool
is_folder_at volume entry = is_directory (entry_of volume.directory entry)

-- a file that has its address in the place of an aux type: a binary one of DOS 3.3
abbrev pub has_address : SeenVolume → ℕ → Bool
has_address volume entry = not (is_folder_at volume entry) && is_binary volume.form (shown_of volume entry)

-- the address of a file: the first two bytes of its whole text, the low one first, and 0 where it can't be read
abbrev pub IsAddress : SeenVolume → (ℕ → Type 0) → ℕ → ℕ → Type 0
IsAddress volume failed entry address =
    ((whole : List ℕ) × IsWholeTextOf volume.meaning volume.directory volume.store entry whole
    × (address ≡ number_at whole 0))
    ⊎ (IsUnread volume failed entry × (address ≡ 0))

abbrev pub AuxBy : Bool → SeenVolume → (ℕ → Type 0) → ℕ → ℕ → Type 0
AuxBy true volume failed entry aux = IsAddress volume failed entry aux
AuxBy false volume failed entry aux = aux ≡ (shown_of volume entry).aux

-- its aux type, or its address
abbrev pub IsAux : SeenVolume → (ℕ → Type 0) → ℕ → ℕ → Type 0
IsAux volume failed entry aux = AuxBy (has_address volume entry) volume failed entry aux

-- What is found of a file that can be read: its body, as a read of it gives it, and its readable form, where it has
-- one. `texts` says whether that stands beside the file or in its place.
abbrev pub IsFoundIn : Texts → FileView → Found → Type 0
IsFoundIn texts view (found_file bytes) = (bytes ≡ view.body) × ((text : List ℕ) → ¬ HasText texts view text)
IsFoundIn texts view (found_both bytes text) = (texts ≡ Beside) × (bytes ≡ view.body) × HasText Beside view text
IsFoundIn texts view (found_text text) = (texts ≡ Alone) × HasText Alone view text
IsFoundIn texts view found_folder = ⊥
IsFoundIn texts view found_unread = ⊥

-- a file with this whole text
abbrev pub view_at : SeenVolume → ℕ → List ℕ → FileView
view_at volume entry whole =
    view_of volume.form (shown_of volume entry).kind whole
    (volume.files.body (entry_of volume.directory entry).bytes whole)

-- this is found of a file that can be read
pub record IsFileFound (texts : Texts) (volume : SeenVolume) (entry : ℕ) (found : Found) : Type 0 where
  pub of_file : is_folder_at volume entry ≡ false
  pub whole : List ℕ
  pub is_whole : IsWholeTextOf volume.meaning volume.directory volume.store entry whole
  pub is_found : IsFoundIn texts (view_at volume entry whole) found

-- What is found of an entry. A file can't be read where it has a fault of its own, or where a read of one of its own
-- units failed.
abbrev pub IsFound : Texts → SeenVolume → (ℕ → Type 0) → ℕ → Found → Type 0
IsFound texts volume failed entry found_folder = is_folder_at volume entry ≡ true
IsFound texts volume failed entry (found_file bytes) = IsFileFound texts volume entry (found_file bytes)
IsFound texts volume failed entry (found_both bytes text) = IsFileFound texts volume entry (found_both bytes text)
IsFound texts volume failed entry (found_text text) = IsFileFound texts volume entry (found_text text)
IsFound texts volume failed entry found_unread = (is_folder_at volume entry ≡ false) × IsUnread volume failed entry

-- What is told of the contents of files: aux types; and what is found, and whether the name says that a readable form
-- stands there in the place of its file. Only where such forms are wanted is it asked for that.
pub record Contents : Type 1 where
  pub alone : Bool
  pub HasAux : ℕ → ℕ → Type 0
  pub HasFound : ℕ → Bool → Found → Type 0

abbrev pub contents_of : Texts → SeenVolume → (ℕ → Type 0) → Contents
contents_of texts volume failed = record {
  alone = are_alone texts;
  HasAux = IsAux volume failed;
  HasFound = λ entry text found. IsFound texts volume failed entry found × (text ≡ is_text found);
}

-- the same where a premise holds
abbrev pub contents_where : Type 0 → Contents → Contents
contents_where Holds contents = record {
  alone = contents.alone;
  HasAux = λ entry aux. Holds → contents.HasAux entry aux;
  HasFound = λ entry text found. Holds → contents.HasFound entry text found;
}

abbrev pub SaysTextBy : Bool → Contents → ℕ → Bool → Type 0
SaysTextBy true contents entry text = (found : Found) × contents.HasFound entry text found
SaysTextBy false contents entry text = text ≡ false

-- the name of an entry says whether a readable form stands there in the place of its file
abbrev pub SaysText : Contents → ℕ → Bool → Type 0
SaysText contents entry text = SaysTextBy contents.alone contents entry text

-- ---- items

-- both stand in one directory, and have one bare name, letters of either case taken as one
abbrev pub is_alike : Naming → Item → Item → Bool
is_alike naming item other =
    option_eq nat_eq item.above other.above
    && bytes_eq (folded (bare_name naming item.entry)) (folded (bare_name naming other.entry))

-- The item of the entry behind these, but for what is found of it. Its number is one more than that of the earlier ones
-- that are like it, and its path is its name below the folder of its directory.
pub record IsNamed (volume : SeenVolume) (own : Listed → List ℕ) (contents : Contents) (naming : Naming)
    (earlier : List Item) (item : Item) : Type 0 where
  pub above : IsAbove own volume.directory (length earlier) item.above
  pub form : item.entry.form ≡ volume.form
  pub name : item.entry.name ≡ own (entry_of volume.directory (length earlier))
  pub kind : item.entry.kind ≡ (shown_of volume (length earlier)).kind
  pub aux : contents.HasAux (length earlier) item.entry.aux
  pub text : SaysText contents (length earlier) item.entry.text
  pub folder_or_file : item.entry.directory ≡ is_folder_at volume (length earlier)
  pub fits : IsEntry item.entry
  pub short : length item.entry.name ≤ 30
  pub number : item.number ≡ count_by (is_alike naming item) earlier + 1
  pub few : item.number < 2 ^ 32
  pub depth : item.depth ≡ depth_below earlier item.above
  pub host : item.host ≡ host_below earlier item.above (host_name naming item.entry item.number)

-- the item of the entry behind these
pub record IsNext (volume : SeenVolume) (own : Listed → List ℕ) (contents : Contents) (naming : Naming)
    (earlier : List Item) (item : Item) : Type 0 where
  pub named : IsNamed volume own contents naming earlier item
  pub found : contents.HasFound (length earlier) item.entry.text item.found

-- the items of the first entries of a volume, in the order of its directory
pub data AreItems (volume : SeenVolume) (own : Listed → List ℕ) (contents : Contents) (naming : Naming) : List Item
    → Type 0 where
  no_items : AreItems volume own contents naming []
  one_more : (earlier : List Item) (item : Item) → AreItems volume own contents naming earlier
      → IsNext volume own contents naming earlier item → AreItems volume own contents naming (earlier ++ item ∷ [])

-- ---- what is made

abbrev pub made_by : Text → Found → List Made
made_by host found_folder = folder host ∷ []
made_by host (found_file bytes) = file host bytes ∷ []
made_by host (found_both bytes text) = file host bytes ∷ file (text_beside host) text ∷ []
made_by host (found_text text) = file host text ∷ []
made_by host found_unread = []

-- what is made of an item: a folder, a file of its bytes, its readable form beside that or in its place, or nothing
-- where it can't be read
abbrev pub made_of : Item → List Made
made_of item = made_by item.host item.found

abbrev pub made_in : List Item → List Made
made_in items = flat_map made_of items

-- how many bytes are put into the files of an entry
abbrev pub bytes_found : Found → ℕ
bytes_found found_folder = 0
bytes_found (found_file bytes) = length bytes
bytes_found (found_both bytes text) = length bytes + length text
bytes_found (found_text text) = length text
bytes_found found_unread = 0

abbrev pub bytes_of : Item → ℕ
bytes_of item = bytes_found item.found

abbrev pub bytes_in : List Item → ℕ
bytes_in items = sum_by bytes_of items
