-- What a volume says once it has a new directory.
use Rattle.std.specs.Prelude.{◌≡◌, ℕ, ◌==◌, not, true, List, filter, slice_set}
use Rattle.a2_device.specs.Device.{unit_at}
use Rattle.a2_device.specs.declared.part.Part.{Part}
use Rattle.vol_format.specs.Accepted.{IsAccepted}
use Rattle.vol_format.specs.Directory.{Directory, Listed}
use Rattle.vol_format.specs.Files.{File, IsFiles}
use Rattle.vol_format.specs.Meaning.{Meaning}
use Rattle.vol_format.specs.Reach.{Reach}
use Rattle.vol_laws.specs.Inserted.{inserted, shifted_part}

-- a directory of which one place is the system's, and no longer available
abbrev pub with_system : Directory → ℕ → Directory
with_system directory place = record directory {
  system = slice_set directory.system place true;
  available = filter (λ other. not (other == place)) directory.available;
}

-- a directory with one entry more, that of a directory whose one unit is the system's
abbrev pub with_directory : Directory → ℕ → Listed → ℕ → Directory
with_directory directory at entry place = with_system (inserted directory at entry) place

-- The volume is accepted with the entry of the new directory; the parts of its files are those of before, under the new
-- numbers of the files and with the same units.
pub record HasNewDirectory (format : Meaning) (few : Directory) (at : ℕ) (entry : Listed) (place : ℕ)
    (old new : List (List ℕ)) : Type 0 where
  pub accepted : IsAccepted format (with_directory few at entry place) new
  pub goes : (part : Part) → Reach format few old part
      → Reach format (with_directory few at entry place) new (shifted_part at part)
  pub came : (part : Part) → Reach format (with_directory few at entry place) new part
      → (other : Part) × Reach format few old other × (part ≡ shifted_part at other)
  pub units : (part : Part) → Reach format few old part → unit_at new part.place ≡ unit_at old part.place
  pub files : (all : List File) → IsFiles format few old all
      → IsFiles format (with_directory few at entry place) new all
