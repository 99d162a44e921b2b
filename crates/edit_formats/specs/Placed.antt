-- The parts of a new file at their places, and the plan that they make.
use Rattle.std.specs.Prelude.{◌≡◌, ◌≢◌, ◌<◌, ℕ, Bool, List, length, map, filter, slice_index, All, AllPairs}
use Rattle.std.specs.List.{range_with_len}
use Rattle.a2_device.specs.Device.{unit_at}
use Rattle.a2_device.specs.declared.part.Part.{Part}
use Rattle.a2_device.specs.declared.part.PartKind.TheVariants.{Body}
use Rattle.vol_format.specs.Files.{Stored}
use Rattle.vol_laws.specs.Built.{Planned, part_of, unit_of}
use Rattle.edit_formats.specs.declared.new_part.NewPart.{NewPart}
use Rattle.edit_formats.specs.Order.{part_at}
use Rattle.edit_formats.specs.Parts.{is_stored}

-- each part has a place of its own, which a pointer can name
pub record HavePlaces (CanName : ℕ → Type 0) (parts : List NewPart) (places : List ℕ) : Type 0 where
  pub size : length places ≡ length parts
  pub named : All CanName places
  pub once : AllPairs (λ place later. place ≢ later) places

-- part k of a new file, as a part of the file of a number, at its place
abbrev pub placed : ℕ → List NewPart → List ℕ → ℕ → Part
placed file parts places k = record {
  file = file;
  kind = (part_at parts k).kind;
  number = (part_at parts k).number;
  place = slice_index places k;
}

-- a plan has these parts at these places, in their order
pub record HasPlaced (file : ℕ) (parts : List NewPart) (places : List ℕ) (planned : List Planned) : Type 0 where
  pub size : length planned ≡ length parts
  pub each : (k : ℕ) → k < length parts → part_of planned k ≡ placed file parts places k

-- the plan of these parts at these places with these units, one for each part
unfoldable pub plan_with : ℕ → List NewPart → List ℕ → List (List ℕ) → List Planned
plan_with file parts places units =
    map (λ k. record { part = placed file parts places k; unit = unit_at units k }) (range_with_len 0 (length parts))

-- each part of the body has the unit of its number, among the units of the file
abbrev pub HasBodyUnits : List NewPart → List (List ℕ) → List Planned → Type 0
HasBodyUnits parts content planned =
    (k : ℕ) → k < length parts → (part_at parts k).kind ≡ Body
    → unit_of planned k ≡ unit_at content (part_at parts k).number

-- those units of a file that are stored, in rising order of their numbers
unfoldable pub stored_units : List Bool → List (List ℕ) → List Stored
stored_units stored content = map (λ number. record { number = number; unit = unit_at content number })
    (filter (is_stored stored) (range_with_len 0 (length stored)))
