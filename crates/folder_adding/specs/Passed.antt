-- What an entry that is passed over stands beside.
use Rattle.std.specs.Prelude.{◌≡◌, ℕ, Contains, List, Some, slice_get}
use Rattle.folder_adding.specs.HostEntries.{EntryView}
use Rattle.folder_adding.specs.Items.{ItemView}
use Rattle.folder_adding.specs.Plan.{PlanView}
use Rattle.folder_adding.specs.Verdicts.{AddedFolder}
use Rattle.folder_adding.specs.declared.host_entry.HostKind.TheVariants.{File}
use Rattle.folder_adding.specs.declared.item.Second.{Second}

-- an entry stands where the readable form beside the file of an item does
pub record IsSecondOf (entries : List EntryView) (items : List ItemView) (entry : EntryView) : Type 0 where
  pub item : ItemView
  pub planned : Contains items item
  pub second : Second
  pub beside : item.second ≡ Some second
  pub there : slice_get entries second.file ≡ Some entry

-- Each entry that a plan passes over is a file, and it is the readable form beside the file of an item, or has the path
-- of that.
abbrev pub PassesSeconds : AddedFolder → PlanView → Type 0
PassesSeconds folder plan =
    (number : ℕ) → Contains plan.passed number
    → (path : List ℕ) × (slice_get folder.entries number ≡ Some (record { path = path; kind = File }))
    × IsSecondOf folder.entries plan.items (record { path = path; kind = File })
