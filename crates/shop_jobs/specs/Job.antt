-- What the workshop is asked for, as contracts see it: with texts for its words.
use Rattle.std.specs.Prelude.{ℕ, Bool, true, false, List, Option, Some, None, string_bytes, option_map}
use Rattle.a2_device.specs.declared.order.Order.{Order}
use Rattle.shop_jobs.specs.Input.{InputView, Text, input_view}
use Rattle.shop_jobs.specs.declared.changes.Change.{Change}
use Rattle.shop_jobs.specs.declared.changes.Change.TheVariants as changes
use Rattle.shop_jobs.specs.declared.changes.Edit.{Edit}
use Rattle.shop_jobs.specs.declared.changes.Edit.TheVariants as edits
use Rattle.shop_jobs.specs.declared.changes.SaveAttributes.{SaveAttributes}
use Rattle.shop_jobs.specs.declared.changes.SaveForm.{SaveForm}
use Rattle.shop_jobs.specs.declared.folders.AddOptions.{AddOptions}
use Rattle.shop_jobs.specs.declared.folders.ExtractOptions.{ExtractOptions}
use Rattle.shop_jobs.specs.declared.folders.SurveyForm.{SurveyForm}
use Rattle.shop_jobs.specs.declared.job.Ask.{Ask}
use Rattle.shop_jobs.specs.declared.job.Ask.TheVariants as asks
use Rattle.shop_jobs.specs.declared.job.Job.{Job}
use Rattle.shop_jobs.specs.declared.job.VolumeAsk.{VolumeAsk}
use Rattle.shop_jobs.specs.declared.job.VolumeAsk.TheVariants as volume_asks
use Rattle.shop_jobs.specs.declared.looks.CompareOptions.{CompareOptions}
use Rattle.shop_jobs.specs.declared.looks.FileName.{FileName}
use Rattle.shop_jobs.specs.declared.looks.FileName.TheVariants as names
use Rattle.shop_jobs.specs.declared.looks.ListOptions.{ListOptions}
use Rattle.shop_jobs.specs.declared.looks.Look.{Look}
use Rattle.shop_jobs.specs.declared.looks.Look.TheVariants as looks
use Rattle.shop_jobs.specs.declared.looks.ReadForm.{ReadForm}
use Rattle.shop_jobs.specs.declared.making.CreateOptions.{CreateOptions}
use Rattle.shop_jobs.specs.declared.making.NewVolume.{NewVolume}
use Rattle.shop_jobs.specs.declared.making.NewVolume.TheVariants as volumes
use Rattle.shop_jobs.specs.declared.making.WrapOptions.{WrapOptions}
use Rattle.shop_jobs.specs.declared.target.Target.{Target}
use Rattle.shop_jobs.specs.declared.target.Target.TheVariants as targets

-- how a file of a volume is named: by its path, or by the bytes of the path that is stored
pub data FileNameView : Type 0 where
  ByPath : Text → FileNameView
  ByStored : List ℕ → FileNameView

abbrev pub file_name_view : FileName → FileNameView
file_name_view (names.Path path) = ByPath (string_bytes path)
file_name_view (names.Stored bytes) = ByStored bytes.items

-- what is changed of a file
pub data EditView : Type 0 where
  Lock : EditView
  Unlock : EditView
  Delete : EditView
  Rename : Text → EditView

abbrev pub edit_view : Edit → EditView
edit_view edits.Lock = Lock
edit_view edits.Unlock = Unlock
edit_view edits.Delete = Delete
edit_view (edits.Rename new) = Rename (string_bytes new)

-- what is said of a new file
pub record AttributesView : Type 0 where
  pub kind : Option Text
  pub aux : Option ℕ
  pub date : Option Text

abbrev pub attributes_view : SaveAttributes → AttributesView
attributes_view a = record { kind = option_map string_bytes a.kind; aux = a.aux; date = option_map string_bytes a.date }

-- what is asked of a volume that is only read: of its entries how they are told; of a check whether the units of bodies
-- are read too; of a comparison how it is made; of a file its name, as what it is read, and whether it goes to a new
-- file; of a plan whether it reclaims, and whether it is told in words; of a certificate whether it reclaims
pub data LookView : Type 0 where
  Catalog : LookView
  Entries : ListOptions → LookView
  Check : Bool → LookView
  Map : LookView
  Compare : CompareOptions → LookView
  Read : FileNameView → ReadForm → Bool → LookView
  Plan : Bool → Bool → LookView
  Verify : Bool → LookView

abbrev pub look_view : Look → LookView
look_view looks.Catalog = Catalog
look_view (looks.Entries options) = Entries options
look_view (looks.Check bodies) = Check bodies
look_view looks.Map = Map
look_view (looks.Compare options) = Compare options
look_view (looks.Read name form to_file) = Read (file_name_view name) form to_file
look_view (looks.Plan reclaim in_words) = Plan reclaim in_words
look_view (looks.Verify reclaim) = Verify reclaim

-- what is changed of a volume: of its order whether lost places are reclaimed, and after how many writes to stop; of a
-- file its name and its edit; of a new file its name, what is said of it, the form in which it is given, and whether it
-- takes the place of a file that has the name; or that its lost places are marked free; of a new directory its path,
-- and its date where one is said
pub data ChangeView : Type 0 where
  Optimize : Bool → Option ℕ → ChangeView
  EditOf : FileNameView → EditView → ChangeView
  Save : Text → AttributesView → Option SaveForm → Bool → ChangeView
  Reclaim : ChangeView
  MakeDirectory : Text → Option Text → ChangeView

abbrev pub change_view : Change → ChangeView
change_view (changes.Optimize reclaim stop_after) = Optimize reclaim stop_after
change_view (changes.Edit name edit) = EditOf (file_name_view name) (edit_view edit)
change_view (changes.Save name attributes form replace) =
    Save (string_bytes name) (attributes_view attributes) form replace
change_view changes.Reclaim = Reclaim
change_view (changes.MakeDirectory path date) = MakeDirectory (string_bytes path) (option_map string_bytes date)

-- how an image is put into a container
pub record WrappingView : Type 0 where
  pub volume : Option ℕ
  pub comment : Text
  pub protect : Bool

abbrev pub wrapping_view : WrapOptions → WrappingView
wrapping_view options = record {
  volume = options.volume;
  comment = string_bytes options.comment;
  protect = options.protect;
}

-- what is said of a new volume: of a DOS 3.3 disk whether it is a data disk; of a ProDOS volume its blocks, and its
-- name and its date where they are said
pub data NewVolumeView : Type 0 where
  DosVolume : Bool → NewVolumeView
  ProdosVolume : ℕ → Option Text → Option Text → NewVolumeView

abbrev pub new_volume_view : NewVolume → NewVolumeView
new_volume_view (volumes.Dos data_disk) = DosVolume data_disk
new_volume_view (volumes.Prodos blocks name date) =
    ProdosVolume blocks (option_map string_bytes name) (option_map string_bytes date)

-- how a new volume is made
pub record CreationView : Type 0 where
  pub volume : NewVolumeView
  pub order : Order
  pub number : ℕ

abbrev pub creation_view : CreateOptions → CreationView
creation_view options = record {
  volume = new_volume_view options.volume;
  order = options.order;
  number = options.number;
}

-- how the files of a folder are added: the directory under which their paths begin, and their date, where they are
-- said
pub record AdditionView : Type 0 where
  pub into : Option Text
  pub date : Option Text

abbrev pub addition_view : AddOptions → AdditionView
addition_view options = record {
  into = option_map string_bytes options.into;
  date = option_map string_bytes options.date;
}

-- what is asked of the volume of an image
pub data VolumeAskView : Type 0 where
  LookAt : LookView → VolumeAskView
  ExtractFrom : ExtractOptions → VolumeAskView
  AddTo : AdditionView → VolumeAskView
  ChangeOf : ChangeView → VolumeAskView

abbrev pub volume_ask_view : VolumeAsk → VolumeAskView
volume_ask_view (volume_asks.Look look) = LookAt (look_view look)
volume_ask_view (volume_asks.Extract options) = ExtractFrom options
volume_ask_view (volume_asks.Add options) = AddTo (addition_view options)
volume_ask_view (volume_asks.Change change) = ChangeOf (change_view change)

-- what is asked: of a conversion the order that is written, and the volume number of tracks that are made
pub data AskView : Type 0 where
  Identify : AskView
  Survey : SurveyForm → AskView
  Convert : Order → ℕ → AskView
  Wrap : WrappingView → AskView
  Unwrap : AskView
  Create : CreationView → AskView
  OfTheVolume : VolumeAskView → AskView

abbrev pub ask_view : Ask → AskView
ask_view asks.Identify = Identify
ask_view (asks.Survey form) = Survey form
ask_view (asks.Convert to volume) = Convert to volume
ask_view (asks.Wrap options) = Wrap (wrapping_view options)
ask_view asks.Unwrap = Unwrap
ask_view (asks.Create options) = Create (creation_view options)
ask_view (asks.Volume ask) = OfTheVolume (volume_ask_view ask)

-- ---- where what is made goes

-- nowhere; to a new file, where nothing stands; to a file, in the place of what stands there; into the image's own
-- file; or to a new folder
pub data TargetView : Type 0 where
  ToNothing : TargetView
  ToNewFile : Text → TargetView
  ToFile : Text → TargetView
  InPlace : TargetView
  ToFolder : Text → TargetView

abbrev pub target_view : Target → TargetView
target_view targets.Nothing = ToNothing
target_view (targets.NewFile path) = ToNewFile (string_bytes path)
target_view (targets.File path) = ToFile (string_bytes path)
target_view targets.InPlace = InPlace
target_view (targets.Folder path) = ToFolder (string_bytes path)

-- the path of the file
abbrev pub file_of : TargetView → Option Text
file_of ToNothing = None
file_of (ToNewFile path) = Some path
file_of (ToFile path) = Some path
file_of InPlace = None
file_of (ToFolder path) = None

-- the path of the folder
abbrev pub folder_made : TargetView → Option Text
folder_made ToNothing = None
folder_made (ToNewFile path) = None
folder_made (ToFile path) = None
folder_made InPlace = None
folder_made (ToFolder path) = Some path

abbrev pub is_new_file : TargetView → Bool
is_new_file ToNothing = false
is_new_file (ToNewFile path) = true
is_new_file (ToFile path) = false
is_new_file InPlace = false
is_new_file (ToFolder path) = false

abbrev pub is_in_place : TargetView → Bool
is_in_place ToNothing = false
is_in_place (ToNewFile path) = false
is_in_place (ToFile path) = false
is_in_place InPlace = true
is_in_place (ToFolder path) = false

-- ---- the job

pub record JobView : Type 0 where
  pub input : InputView
  pub ask : AskView
  pub output : TargetView
  pub certificate : Option Text

abbrev pub job_view : Job → JobView
job_view job = record {
  input = input_view job.input;
  ask = ask_view job.ask;
  output = target_view job.output;
  certificate = option_map string_bytes job.certificate;
}
