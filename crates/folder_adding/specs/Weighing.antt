-- What the functions that weigh an entry answer.
use Rattle.std.specs.Prelude.{◌≡◌, ◌≢◌, ℕ, All, List, [], ◌∷◌, ◌++◌, Option, Some, None, Ok, Err, if◌then◌else◌, map}
use Rattle.std.specs.HashMap.{get_by}
use Rattle.std.specs.HashSet.{contains_by}
use Rattle.std.specs.Option.{option_copied, option_or}
use Rattle.std.specs.Str.{bytes_eq}
use Rattle.folder_adding.specs.HostEntries.{EntryView, has_file, second_at}
use Rattle.folder_adding.specs.HostPaths.{SaidDirectory, SaidPath, SayFolders, SayParts, Text, parts}
use Rattle.folder_adding.specs.Items.{item_view}
use Rattle.folder_adding.specs.Plan.{PlanView}
use Rattle.folder_adding.specs.Verdicts.{AddedFolder, Step, Verdict, adds, makes, passes}
use Rattle.folder_adding.specs.declared.beside.FilePaths.{FilePaths}
use Rattle.folder_adding.specs.declared.seconds.FolderFiles.{FolderFiles}
use Rattle.folder_adding.specs.declared.seconds.FormNumbers.{FormNumbers}
use Rattle.folder_adding.specs.declared.step.Destination.{Destination}
use Rattle.folder_adding.specs.declared.said_path.HostDirectory.{HostDirectory}
use Rattle.folder_adding.specs.declared.said_path.HostPath.{HostPath}
use Rattle.folder_adding.specs.declared.step.Step.{Step as StepMade}
use Rattle.folder_adding.specs.declared.step.Step.TheVariants.{Adds, Makes, Passes}
use Rattle.folder_adding.specs.declared.step.Weighed.{Weighed}
use Rattle.folder_adding.specs.declared.step.Weighed.TheVariants.{Step as MakesStep, Refused}
use Rattle.host_folders.specs.HostEntries.{FileView, SaysFile, SaysFolder, file_view}
use Rattle.vol_layout.specs.declared.form.PlaceForm.TheVariants.{Block}

-- these are the paths of the files among the entries
abbrev pub ArePathsOf : List EntryView → FilePaths → Type 0
ArePathsOf entries files = (path : List ℕ)
    → contains_by (λ file. bytes_eq path file.now) files.paths ≡ has_file entries path

-- the number at a path
abbrev pub number_by : FormNumbers → List ℕ → Option ℕ
number_by forms path = get_by (λ file. bytes_eq path file.now) forms.numbers

-- a number was put at a path, where none was, and at each other path stands what stood there
abbrev pub PutsFirst : List ℕ → ℕ → FormNumbers → FormNumbers → Type 0
PutsFirst path number old new = (other : List ℕ)
    → number_by new other ≡ option_or (number_by old other) (if bytes_eq other path then Some number else None)

-- these are the numbers of the readable forms among the entries
abbrev pub AreNumbersOf : List EntryView → FormNumbers → Type 0
AreNumbersOf entries forms = (path : List ℕ) → number_by forms path ≡ second_at entries path

-- these are the files among the entries
pub record AreFilesOf (entries : List EntryView) (files : FolderFiles) : Type 0 where
  pub paths : ArePathsOf entries files.paths
  pub forms : AreNumbersOf entries files.forms

-- what stands before and behind the first `/` of a path
pub record IsCut (path folder behind : Text) : Type 0 where
  pub split : path ≡ folder ++ 47 ∷ behind
  pub lacks : All (λ byte. byte ≢ 47) folder

abbrev pub said_view : HostPath → SaidPath
said_view said = record { directories = map (λ name. name.items) said.directories.items; file = file_view said.file }

abbrev pub directory_view : HostDirectory → SaidDirectory
directory_view said = record { directories = map (λ name. name.items) said.directories.items; name = said.name.items }

-- the parts of a path before its last one say these names: what the last one says the path says
pub record IsParted (path : Text) (names : List Text) (last : Text) : Type 0 where
  pub file : (file : FileView) → SaysFile Block last file → SayParts (parts path) names file
  pub file_alone : (all : List Text) (file : FileView) → SayParts (parts path) all file → SaysFile Block last file
  pub folder : (name : Text) → SaysFolder Block last name → SayFolders (parts path) names name
  pub folder_alone : (all : List Text) (name : Text) → SayFolders (parts path) all name → SaysFolder Block last name

-- one of them says none
pub record IsUnsaid (path : Text) : Type 0 where
  pub file : (all : List Text) (file : FileView) → ¬ SayParts (parts path) all file
  pub folder : (all : List Text) (name : Text) → ¬ SayFolders (parts path) all name

abbrev pub step_view : StepMade → Step
step_view (Adds item) = adds (item_view item)
step_view (Makes path) = makes path.items
step_view Passes = passes

abbrev pub verdict_view : Weighed → Verdict
verdict_view (MakesStep step) = Ok (step_view step)
verdict_view (Refused refusal) = Err refusal

-- the folder of these entries, added to that place of a volume
abbrev pub folder_at : Destination → List EntryView → AddedFolder
folder_at destination entries = record {
  file_system = destination.file_system;
  into = option_copied destination.into;
  entries = entries;
}

-- the plan with the step of the entry that has this number
abbrev pub with_step : ℕ → PlanView → Step → PlanView
with_step number plan (adds item) = record plan { items = plan.items ++ item ∷ []; files = plan.files ++ number ∷ [] }
with_step number plan (makes path) = record plan {
  directories = plan.directories ++ path ∷ [];
  folders = plan.folders ++ number ∷ [];
}
with_step number plan passes = record plan { passed = plan.passed ++ number ∷ [] }
