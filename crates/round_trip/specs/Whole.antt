-- All that an extraction made, planned as what it was.
use Rattle.std.specs.Prelude.{◌≡◌, ◌<◌, ℕ, true, List, [], Contains, Some, length, slice_get, slice_index_or}
use Rattle.folder_adding.specs.HostEntries.{EntryView}
use Rattle.folder_adding.specs.HostPaths.{Text}
use Rattle.folder_adding.specs.Plan.{IsFirstRefused, IsPlan, PlanView}
use Rattle.folder_adding.specs.Verdicts.{AddedFolder}
use Rattle.host_folders.specs.declared.said.Content.TheVariants.{Bytes}
use Rattle.host_folders.specs.Folder.{Made, file, folder as made_folder}
use Rattle.round_trip.specs.Extracted.{Extracted, item_in}
use Rattle.round_trip.specs.Planned.{MayBeNew, file_at, folder_at, form_host, has_names, item_again, path_in}
use Rattle.shop_replies.specs.declared.refusal.Refusal.{Refusal}
use Rattle.volume_extract.specs.ExtractText.{has_text, is_file, is_folder}
use Rattle.volume_extract.specs.Items.{Found, found_both, found_file, found_folder, found_text, found_unread}

-- ---- the entries of the folder

-- the entry that something made in a folder is
abbrev pub entry_of : Made → EntryView
entry_of (made_folder path) = folder_at path
entry_of (file path bytes) = file_at path

-- the entries of a folder in which just these were made, each once, in any order
pub record AreEntriesOf (made : List Made) (entries : List EntryView) : Type 0 where
  pub each : (one : Made) → Contains made one → Contains entries (entry_of one)
  pub none_else : (entry : EntryView) → Contains entries entry
      → (one : Made) × Contains made one × (entry ≡ entry_of one)
  pub once : (entry : EntryView) (one other : ℕ) → slice_get entries one ≡ Some entry
      → slice_get entries other ≡ Some entry
      → one ≡ other

-- the numbers of the items that are a file that was read, that have a readable form beside it, and that are a directory
abbrev pub IsFileIn : Extracted → ℕ → Type 0
IsFileIn e number = (number < length e.items) × (is_file (item_in e number).found ≡ true)

abbrev pub IsFormIn : Extracted → ℕ → Type 0
IsFormIn e number = (number < length e.items) × (has_text (item_in e number).found ≡ true)

abbrev pub IsDirectoryIn : Extracted → ℕ → Type 0
IsDirectoryIn e number = (number < length e.items) × (is_folder (item_in e number).found ≡ true)

-- new files may have the types and names of all files, and new directories the names of all directories
pub record MayAllBeNew (e : Extracted) : Type 0 where
  pub files : (number : ℕ) → IsFileIn e number → MayBeNew e number
  pub directories : (number : ℕ) → IsDirectoryIn e number → has_names e number ≡ true

-- ---- the plan

-- the number that stands at a place of some is that of this entry
pub record IsEntryAt (entries : List EntryView) (numbers : List ℕ) (place : ℕ) (entry : EntryView) : Type 0 where
  pub number : ℕ
  pub numbered : slice_get numbers place ≡ Some number
  pub there : slice_get entries number ≡ Some entry

-- at a place of a plan there is the file of an item, and its entry; the directory of one, and its entry; and the
-- readable form of one, which is passed over
pub record IsFileOf (folder : AddedFolder) (e : Extracted) (plan : PlanView) (place number : ℕ) : Type 0 where
  pub of : IsFileIn e number
  pub item : slice_get plan.items place ≡ Some (item_again folder e number Bytes)
  pub entry : IsEntryAt folder.entries plan.files place (file_at (item_in e number).host)

pub record IsDirectoryOf (folder : AddedFolder) (e : Extracted) (plan : PlanView) (place number : ℕ) : Type 0 where
  pub of : IsDirectoryIn e number
  pub path : slice_get plan.directories place ≡ Some (path_in folder e number)
  pub entry : IsEntryAt folder.entries plan.folders place (folder_at (item_in e number).host)

pub record IsFormOf (folder : AddedFolder) (e : Extracted) (plan : PlanView) (place number : ℕ) : Type 0 where
  pub of : IsFormIn e number
  pub entry : IsEntryAt folder.entries plan.passed place (file_at (form_host e number))

-- so many places are those of just these numbers: each number has one place, and each place one number
pub record ArePlacesOf (many : ℕ) (Is : ℕ → Type 0) (At : ℕ → ℕ → Type 0) : Type 0 where
  pub each : (number : ℕ) → Is number → (place : ℕ) × At place number
  pub none_else : (place : ℕ) → place < many → (number : ℕ) × At place number
  pub one_place : (number one other : ℕ) → At one number → At other number → one ≡ other
  pub one_number : (place one other : ℕ) → At place one → At place other → one ≡ other

-- The files of a plan are just those that were read, its directories those of the volume, and what it passes over are
-- the readable forms.
pub record IsPlanAgain (folder : AddedFolder) (e : Extracted) (plan : PlanView) : Type 0 where
  pub files : ArePlacesOf (length plan.items) (IsFileIn e) (IsFileOf folder e plan)
  pub directories : ArePlacesOf (length plan.directories) (IsDirectoryIn e) (IsDirectoryOf folder e plan)
  pub passed : ArePlacesOf (length plan.passed) (IsFormIn e) (IsFormOf folder e plan)

-- no entry is refused, so there is a plan, and each plan has just what was extracted
pub record IsWholePlanned (folder : AddedFolder) (e : Extracted) : Type 0 where
  pub plan : PlanView
  pub is_plan : IsPlan folder plan
  pub again : (plan : PlanView) → IsPlan folder plan → IsPlanAgain folder e plan
  pub none_refused : (number : ℕ) (refusal : Refusal) → ¬ IsFirstRefused folder number refusal

-- ---- the bytes

-- each file among the entries holds what was put into the file of its path
abbrev pub HoldWhatWasMade : List Made → List EntryView → (ℕ → List ℕ) → Type 0
HoldWhatWasMade made entries contents =
    (number : ℕ) (path : Text) → slice_get entries number ≡ Some (file_at path)
    → Contains made (file path (contents number))

-- the body of a file that was read
abbrev pub body_of : Found → List ℕ
body_of (found_file bytes) = bytes
body_of (found_both bytes text) = bytes
body_of (found_text text) = []
body_of found_folder = []
body_of found_unread = []

-- the bytes of the files of a plan are the bodies of those that were read
abbrev pub AreBodies : AddedFolder → Extracted → PlanView → (ℕ → List ℕ) → Type 0
AreBodies folder e plan contents =
    (place number : ℕ) → IsFileOf folder e plan place number
    → contents (slice_index_or plan.files place 0) ≡ body_of (item_in e number).found
