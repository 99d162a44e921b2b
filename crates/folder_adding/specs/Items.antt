-- The files that are to be saved.
use Rattle.std.specs.Prelude.{ℕ, ◌+◌, List, [], ◌∷◌, Option, map, slice_index_or}
use Rattle.file_forms.specs.declared.form.GivenForm.{GivenForm}
use Rattle.pro_dir.specs.declared.date.ProDate.{ProDate}
use Rattle.shop_changes.specs.SaidFile.{SaidView}
use Rattle.shop_jobs.specs.declared.input.FileSystem.{FileSystem}
use Rattle.folder_adding.specs.declared.item.Batch.{Batch}
use Rattle.folder_adding.specs.declared.item.Item.{Item}
use Rattle.folder_adding.specs.declared.item.Second.{Second}

-- an item as contracts see it: its path on the volume, its type and its aux type, where they are said, the form in
-- which its bytes are given, and its readable form, where one stands beside it
pub record ItemView : Type 0 where
  pub path : List ℕ
  pub kind : Option ℕ
  pub aux : Option ℕ
  pub form : Option GivenForm
  pub second : Option Second

abbrev pub item_view : Item → ItemView
item_view item = record {
  path = item.path.items;
  kind = item.kind;
  aux = item.aux;
  form = item.form;
  second = item.second;
}

-- the items of one volume, in order, with its file system, the date of each, and the numbers of their files
pub record BatchView : Type 0 where
  pub file_system : FileSystem
  pub date : ProDate
  pub items : List ItemView
  pub files : List ℕ

abbrev pub batch_view : Batch → BatchView
batch_view batch = record {
  file_system = batch.file_system;
  date = batch.date;
  items = map item_view batch.items.now;
  files = batch.files.now;
}

-- the number of the file of an item; behind the last of them it is 0
abbrev pub file_at : BatchView → ℕ → ℕ
file_at batch number = slice_index_or batch.files number 0

-- what an item says of a file of these bytes
abbrev pub said_by : BatchView → ItemView → List ℕ → SaidView
said_by batch item bytes = record {
  file_system = batch.file_system;
  kind = item.kind;
  aux = item.aux;
  date = batch.date;
  form = item.form;
  bytes = bytes;
}

-- a new file: its path on the volume, and what is said of it
pub record NewFile : Type 0 where
  pub path : List ℕ
  pub said : SaidView

abbrev pub new_file : BatchView → ItemView → List ℕ → NewFile
new_file batch item bytes = record { path = item.path; said = said_by batch item bytes }

-- the new files of items, the first of which has this number, where the files hold this
abbrev pub new_files : BatchView → (ℕ → List ℕ) → ℕ → List ItemView → List NewFile
new_files batch contents number [] = []
new_files batch contents number (item ∷ items) =
    new_file batch item (contents (file_at batch number)) ∷ new_files batch contents (number + 1) items
