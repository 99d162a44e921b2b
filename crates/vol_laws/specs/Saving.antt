-- The writes that save a file: its units to free places, then the marks of these places, then its entry (Beneath Apple
-- DOS, chapter 4; ProDOS 8 Technical Reference Manual, chapter 4 and appendix B).
use Rattle.std.specs.Prelude.{◌≡◌, ◌<◌, ◌≤◌, ℕ, true, false, List, ◌++◌, length, map, take, All, Contains}
use Rattle.vol_format.specs.Directory.{Directory, Listed, entries, is_free, map_place}
use Rattle.vol_format.specs.Meaning.{Meaning}
use Rattle.vol_laws.specs.Built.{Planned, IsBuilt, place_of}
use Rattle.vol_laws.specs.Entered.{HasSameRest}
use Rattle.vol_laws.specs.Inserted.{inserted}
use Rattle.vol_laws.specs.Marked.{marked}
use Rattle.vol_laws.specs.Markings.{Marking, marking_of, marking_write, all_marks}
use Rattle.vol_laws.specs.Writes.{Write, store_after}

-- the one write of a part's unit
abbrev pub unit_write : Planned → Write
unit_write plan = record { place = plan.part.place; unit = plan.unit }

-- the places of a plan's parts
abbrev pub places_of : List Planned → List ℕ
places_of planned = map (λ (plan : Planned). plan.part.place) planned

-- a place that a new file can take: available, and marked free
pub record IsNewPlace (directory : Directory) (place : ℕ) : Type 0 where
  pub available : Contains directory.available place
  pub free : is_free directory place ≡ true

-- The mark of a place of the plan stands in this unit of the map.
pub record IsPlannedPlace (directory : Directory) (planned : List Planned) (at place : ℕ) : Type 0 where
  pub inside : place < directory.places
  pub here : map_place directory place ≡ at
  pub own : (k : ℕ) × (k < length planned) × (place_of planned k ≡ place)

-- the store once the units stand, and once their places are marked used as well
abbrev pub with_units : List (List ℕ) → List Planned → List (List ℕ)
with_units store planned = store_after (map unit_write planned) store

abbrev pub with_places : Meaning → List (List ℕ) → List Planned → List Marking → List (List ℕ)
with_places format store planned markings =
    store_after (map (marking_write format false store) markings) (with_units store planned)

-- What the units of a plan and the marks of its places need. The places are new. The units of the map come in rising
-- order, each once and none without a place, and the places of the plan are marked in them: these places alone, and all
-- of them.
pub record IsPlacing (few : Directory) (planned : List Planned) (markings : List Marking) : Type 0 where
  pub new : (k : ℕ) → k < length planned → IsNewPlace few (place_of planned k)
  pub rising : (j k : ℕ) → j < k → k < length markings → (marking_of markings j).at < (marking_of markings k).at
  pub own : (k : ℕ) → k < length markings
      → All (IsPlannedPlace few planned (marking_of markings k).at) (marking_of markings k).places
  pub some : (k : ℕ) → k < length markings → 0 < length (marking_of markings k).places
  pub each : (j : ℕ) → j < length planned
      → (k : ℕ) × (k < length markings) × Contains (marking_of markings k).places (place_of planned j)

-- The writes that save a file as entry number `at` of a directory. The units of the plan come first, each to its place,
-- then the units of the map in which these places are marked used. Then come those to the directory: from the first of
-- them on the store has the directory with the entry, which leads to the plan, and no unit outside the system is
-- written.
pub record IsSaving (format : Meaning) (few : Directory) (at : ℕ) (entry : Listed) (planned : List Planned)
    (store : List (List ℕ)) (writes : List Write) : Type 0 where
  pub within : at ≤ entries few
  pub built : IsBuilt format (length store) planned entry.root
  pub markings : List Marking
  pub placing : IsPlacing few planned markings
  pub system : List Write
  pub are : writes ≡ map unit_write planned ++ (map (marking_write format false store) markings ++ system)
  pub enters : 0 < length system
  pub described : (n : ℕ) → 0 < n → n ≤ length system
      → format.Describes (store_after (take n system) (with_places format store planned markings))
      (inserted (marked few (all_marks false markings)) at entry)
  pub rest : (n : ℕ) → 0 < n → n ≤ length system
      → HasSameRest few (with_places format store planned markings)
      (store_after (take n system) (with_places format store planned markings))
