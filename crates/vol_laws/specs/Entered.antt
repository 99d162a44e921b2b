-- What stands once an entry is entered, or has left.
use Rattle.std.specs.Prelude.{◌≡◌, ◌≢◌, ◌⊎◌, ◌↔◌, ℕ, false, List, length}
use Rattle.a2_device.specs.Device.{unit_at}
use Rattle.a2_device.specs.declared.part.Part.{Part}
use Rattle.a2_device.specs.declared.part.PartKind.{PartKind}
use Rattle.vol_format.specs.declared.link.Link.{Link}
use Rattle.vol_format.specs.Accepted.{IsAccepted}
use Rattle.vol_format.specs.Directory.{Directory, Listed, is_system}
use Rattle.vol_format.specs.Meaning.{Meaning}
use Rattle.vol_format.specs.Reach.{Reach, HasContent}
use Rattle.vol_format.specs.Standing.{IsLost}
use Rattle.vol_laws.specs.Inserted.{inserted, shifted, shifted_part}
use Rattle.vol_laws.specs.PartsOf.{PartOf, IsSoundFile}

-- two stores differ at most in units of the system
pub record HasSameRest (directory : Directory) (old new : List (List ℕ)) : Type 0 where
  pub size : length new ≡ length old
  pub units : (place : ℕ) → is_system directory place ≡ false → unit_at new place ≡ unit_at old place

-- the file that a link leads to is sound by itself and stands where no part of the volume does
pub record IsNewFile (format : Meaning) (directory : Directory) (old new : List (List ℕ)) (root : Link) : Type 0 where
  pub file : IsSoundFile format directory new root
  pub apart : (part other : Part) → PartOf format new root part → Reach format directory old other
      → part.place ≢ other.place

-- a part of the file stands at the place
abbrev pub IsTaken : Meaning → List (List ℕ) → Link → ℕ → Type 0
IsTaken format store root place = (part : Part) × PartOf format store root part × (part.place ≡ place)

-- The other files have the same parts at the same places with the same units, under their new numbers; the contents are
-- the same.
pub record HasSameOthers (format : Meaning) (few : Directory) (at : ℕ) (entry : Listed)
    (less more : List (List ℕ)) : Type 0 where
  pub others : (part : Part) → Reach format few less part
      ↔ Reach format (inserted few at entry) more (shifted_part at part)
  pub all : (part : Part) → Reach format (inserted few at entry) more part
      → PartOf format more entry.root part
      ⊎ ((other : Part) × Reach format few less other × (part ≡ shifted_part at other))
  pub own : (part : Part) → PartOf format more entry.root part → Reach format (inserted few at entry) more part
  pub units : (part : Part) → Reach format few less part → unit_at more part.place ≡ unit_at less part.place
  pub contents : (file : ℕ) (kind : PartKind) (number : ℕ) (content : List ℕ)
      → HasContent format few less file kind number content
      ↔ HasContent format (inserted few at entry) more (shifted at file) kind number content

pub record HasEntered (format : Meaning) (few : Directory) (at : ℕ) (entry : Listed)
    (old new : List (List ℕ)) : Type 0 where
  pub accepted : IsAccepted format (inserted few at entry) new
  pub files : HasSameOthers format few at entry old new
  pub lost : (place : ℕ) → IsLost format (inserted few at entry) new place
      ↔ (IsLost format few old place × ¬ IsTaken format new entry.root place)

pub record HasLeft (format : Meaning) (few : Directory) (at : ℕ) (entry : Listed)
    (old new : List (List ℕ)) : Type 0 where
  pub accepted : IsAccepted format few new
  pub files : HasSameOthers format few at entry new old
  pub lost_before : (place : ℕ) → IsLost format (inserted few at entry) old place → IsLost format few new place
  pub lost_own : (part : Part) → PartOf format old entry.root part → IsLost format few new part.place
  pub lost_all : (place : ℕ) → IsLost format few new place → ¬ IsTaken format old entry.root place
      → IsLost format (inserted few at entry) old place
