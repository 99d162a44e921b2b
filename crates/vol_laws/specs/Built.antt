-- The parts planned for a new file, and the units built for them.
use Rattle.std.specs.Prelude.{◌≡◌, ◌≢◌, ◌⊎◌, ◌↔◌, ◌<◌, ℕ, Bool, true, false, List, [], ◌∷◌, length, map, filter, slice_index_or, slice_set, AllPairs, Contains}
use Rattle.a2_device.specs.Device.{unit_at}
use Rattle.a2_device.specs.declared.part.Part.{Part}
use Rattle.a2_device.specs.declared.part.PartKind.{PartKind}
use Rattle.a2_device.specs.declared.part.PartKind.TheVariants.{Body}
use Rattle.vol_format.specs.declared.link.Link.{Link}
use Rattle.vol_format.specs.declared.link.Link.TheVariants.{Null, To}
use Rattle.vol_format.specs.Directory.{Directory, Listed}
use Rattle.vol_format.specs.Meaning.{Meaning}
use Rattle.vol_format.specs.Standing.{IsLost, no_part}
use Rattle.vol_format.specs.Files.{Stored, File}
use Rattle.vol_laws.specs.Inserted.{in_file}
use Rattle.vol_laws.specs.PartsOf.{PartOf}

-- a part, and the unit built for it
pub record Planned : Type 0 where
  pub part : Part
  pub unit : List ℕ

abbrev pub no_plan : Planned
no_plan = record { part = no_part; unit = [] }

-- number k of a plan
abbrev pub plan_of : List Planned → ℕ → Planned
plan_of planned k = slice_index_or planned k no_plan

abbrev pub part_of : List Planned → ℕ → Part
part_of planned k = (plan_of planned k).part

abbrev pub place_of : List Planned → ℕ → ℕ
place_of planned k = (plan_of planned k).part.place

abbrev pub unit_of : List Planned → ℕ → List ℕ
unit_of planned k = (plan_of planned k).unit

-- pointer i of a unit as built names this
abbrev pub built_link : Meaning → ℕ → List Planned → ℕ → ℕ → Link
built_link format places planned k i = format.child places (part_of planned k) (unit_of planned k) i

-- a part is one of a plan's
abbrev pub IsPlanned : List Planned → Part → Type 0
IsPlanned planned part = (k : ℕ) × (k < length planned) × (part ≡ part_of planned k)

-- No two parts of the plan have one place. The entry names a part of the plan, at its place there, or nothing, and so
-- does each pointer of each unit built; each part is named by the entry or by a unit before it.
pub record IsBuilt (format : Meaning) (places : ℕ) (planned : List Planned) (root : Link) : Type 0 where
  pub once : (j k : ℕ) → j < k → k < length planned → place_of planned j ≢ place_of planned k
  pub entry : (root ≡ Null) ⊎ ((k : ℕ) × (k < length planned) × (root ≡ To (part_of planned k)))
  pub closed : (k i : ℕ) → k < length planned → i < format.pointers (part_of planned k)
      → (built_link format places planned k i ≡ Null)
      ⊎ ((m : ℕ) × (m < length planned) × (built_link format places planned k i ≡ To (part_of planned m)))
  pub led : (k : ℕ) → k < length planned
      → (root ≡ To (part_of planned k))
      ⊎ ((j i : ℕ) × (j < k) × (built_link format places planned j i ≡ To (part_of planned k)))

-- the store has each unit of the plan at its part's place
abbrev pub AreHeld : List (List ℕ) → List Planned → Type 0
AreHeld store planned = (k : ℕ) → k < length planned → unit_at store (place_of planned k) ≡ unit_of planned k

-- the places of a plan are lost
abbrev pub AreLost : Meaning → Directory → List (List ℕ) → List Planned → Type 0
AreLost format directory store planned =
    (k : ℕ) → k < length planned → IsLost format directory store (place_of planned k)

-- what the entry leads to is the plan, each part at its place, and nothing else
abbrev pub ArePlanned : Meaning → List (List ℕ) → List Planned → Link → Type 0
ArePlanned format store planned root = (part : Part) → PartOf format store root part ↔ IsPlanned planned part

-- a unit of the body, of a plan
abbrev pub HasPlannedUnit : List Planned → Stored → Type 0
HasPlannedUnit planned stored =
    (k : ℕ) × (k < length planned) × (part_of planned k).kind ≡ Body × ((part_of planned k).number ≡ stored.number)
    × (unit_of planned k ≡ stored.unit)

-- the units of a plan's body, in rising order of their numbers
pub record IsBodyOf (planned : List Planned) (body : List Stored) : Type 0 where
  pub members : (stored : Stored) → Contains body stored ↔ HasPlannedUnit planned stored
  pub rising : AllPairs (λ (stored later : Stored). stored.number < later.number) body

-- a plan's body by a computation, for a plan in which the numbers of the body rise
abbrev pub is_body_kind : PartKind → Bool
is_body_kind Body = true
is_body_kind kind = false

abbrev pub stored_of : Planned → Stored
stored_of plan = record { number = plan.part.number; unit = plan.unit }

abbrev pub body_of : List Planned → List Stored
body_of planned = map stored_of (filter (λ (plan : Planned). is_body_kind plan.part.kind) planned)

-- the numbers of the body rise in a plan
abbrev pub IsRisingPlan : List Planned → Type 0
IsRisingPlan planned = (j k : ℕ) → j < k → k < length planned → (part_of planned j).kind ≡ Body
    → (part_of planned k).kind ≡ Body
    → (part_of planned j).number < (part_of planned k).number

-- no two parts of a plan have one place
abbrev pub HasPlacesOnce : List Planned → Type 0
HasPlacesOnce planned = (j k : ℕ) → j < k → k < length planned → place_of planned j ≢ place_of planned k

-- a plan for the file of a number
abbrev pub planned_in : ℕ → Planned → Planned
planned_in file plan = record plan { part = in_file plan.part file }

abbrev pub plan_in_file : List Planned → ℕ → List Planned
plan_in_file planned file = map (planned_in file) planned

-- the places of a plan's parts have the units of the plan, and all other places what they had
pub record HasPlanWritten (planned : List Planned) (old new : List (List ℕ)) : Type 0 where
  pub size : length new ≡ length old
  pub held : AreHeld new planned
  pub others : (place : ℕ) → ((k : ℕ) → k < length planned → place ≢ place_of planned k)
      → unit_at new place ≡ unit_at old place

-- a store with the units of a plan written, the last of the plan first
abbrev pub written : List (List ℕ) → List Planned → List (List ℕ)
written store [] = store
written store (plan ∷ planned) = slice_set (written store planned) plan.part.place plan.unit

-- The units of a plan stand at lost places, the entry leads to them, and this is the file of the entry.
pub record IsPlannedFile (format : Meaning) (directory : Directory) (store : List (List ℕ)) (planned : List Planned)
    (entry : Listed) (file : File) : Type 0 where
  pub lost : AreLost format directory store planned
  pub held : AreHeld store planned
  pub built : IsBuilt format (length store) planned entry.root
  pub path : file.path ≡ entry.path
  pub bytes : file.bytes ≡ entry.bytes
  pub body : IsBodyOf planned file.body
