-- The plan of a folder: which directories are made of its folders, which of its files are added, as which items, and
-- which entries are passed over with a word.
use Rattle.std.specs.Prelude.{◌≡◌, ℕ, Bool, true, false, List, ◌∷◌, ◌++◌, Option, Some, None, Ok, Err, filter, length, map}
use Rattle.std.specs.List.{AllZip, enumerate_from, filter_map}
use Rattle.folder_adding.specs.HostEntries.{EntryView}
use Rattle.folder_adding.specs.HostPaths.{Text}
use Rattle.folder_adding.specs.Items.{ItemView, item_view}
use Rattle.folder_adding.specs.Verdicts.{AddedFolder, IsVerdict, Step, adds, makes, passes}
use Rattle.folder_adding.specs.declared.planned.Plan.{Plan}
use Rattle.folder_adding.specs.declared.planned.PlanError.{PlanError}
use Rattle.folder_adding.specs.declared.planned.PlanError.TheVariants.{Refused, Memory}
use Rattle.shop_replies.specs.declared.refusal.Refusal.{Refusal}

-- a plan as contracts see it: the paths of the directories, and for each of them the number of its entry; the items,
-- and for each of them the number of its entry; and the numbers of the entries that are passed over with a word
pub record PlanView : Type 0 where
  pub directories : List Text
  pub folders : List ℕ
  pub items : List ItemView
  pub files : List ℕ
  pub passed : List ℕ

abbrev pub plan_view : Plan → PlanView
plan_view plan = record {
  directories = map (λ path. path.items) plan.directories.items;
  folders = plan.folders.items;
  items = map item_view plan.items.items;
  files = plan.files.items;
  passed = plan.passed.items;
}

-- the item that a step adds, and the path of the directory that it makes
abbrev pub item_added : Step → Option ItemView
item_added (adds item) = Some item
item_added (makes path) = None
item_added passes = None

abbrev pub directory_made : Step → Option Text
directory_made (adds item) = None
directory_made (makes path) = Some path
directory_made passes = None

abbrev pub is_adding : Step → Bool
is_adding (adds item) = true
is_adding (makes path) = false
is_adding passes = false

abbrev pub is_making : Step → Bool
is_making (adds item) = false
is_making (makes path) = true
is_making passes = false

abbrev pub is_passing : Step → Bool
is_passing (adds item) = false
is_passing (makes path) = false
is_passing passes = true

-- the numbers of the steps that pass a test, counted from 0
abbrev pub numbers_of : (Step → Bool) → List Step → List ℕ
numbers_of test steps = map (λ step. step.0) (filter (λ step. test step.1) (enumerate_from 0 steps))

-- the plan of steps, in their order
abbrev pub plan_of : List Step → PlanView
plan_of steps = record {
  directories = filter_map directory_made steps;
  folders = numbers_of is_making steps;
  items = filter_map item_added steps;
  files = numbers_of is_adding steps;
  passed = numbers_of is_passing steps;
}

-- each of the entries makes the step that has its number
abbrev pub AreSteps : AddedFolder → List EntryView → List Step → Type 0
AreSteps folder entries steps = AllZip (λ entry step. IsVerdict folder entry (Ok step)) entries steps

-- a plan of a folder: each entry makes a step, and it is the plan of these steps
pub record IsPlan (folder : AddedFolder) (plan : PlanView) : Type 0 where
  pub steps : List Step
  pub made : AreSteps folder folder.entries steps
  pub is : plan ≡ plan_of steps

-- no plan: the entry of this number is refused, and each before it makes a step
pub record IsFirstRefused (folder : AddedFolder) (number : ℕ) (refusal : Refusal) : Type 0 where
  pub front : List EntryView
  pub entry : EntryView
  pub behind : List EntryView
  pub all : folder.entries ≡ front ++ entry ∷ behind
  pub numbered : number ≡ length front
  pub steps : List Step
  pub made : AreSteps folder front steps
  pub refused : IsVerdict folder entry (Err refusal)

-- why a folder has no plan; want of memory has no cause
abbrev pub HasNoPlan : AddedFolder → PlanError → Type 0
HasNoPlan folder (Refused number refusal) = IsFirstRefused folder number refusal
HasNoPlan folder Memory = Unit {0}
