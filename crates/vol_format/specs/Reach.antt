-- The parts of the files of a store.
use Rattle.std.specs.Prelude.{◌≡◌, ◌⊎◌, ◌↔◌, ◌<◌, ℕ, List, AllPairs, Contains}
use Rattle.a2_device.specs.Device.{unit_at}
use Rattle.a2_device.specs.declared.part.Part.{Part}
use Rattle.a2_device.specs.declared.part.PartKind.{PartKind}
use Rattle.vol_format.specs.declared.link.Link.TheVariants.{To}
use Rattle.vol_format.specs.Directory.{Directory, entries, root_of}
use Rattle.vol_format.specs.Meaning.{Meaning, link_from}

-- The least set with what the entries point to, and what the units of its members point to.
pub data Reach (format : Meaning) (directory : Directory) (store : List (List ℕ)) : Part → Type 0 where
  at_root : {part : Part} (file : ℕ) → file < entries directory
      → root_of directory file ≡ To part → Reach format directory store part
  at_child : {parent part : Part} (pointer : ℕ) → Reach format directory store parent
      → link_from format store parent pointer ≡ To part → Reach format directory store part

-- the order of parts: files in directory order, within a file by rank
abbrev pub Before : Meaning → Part → Part → Type 0
Before format part later = (part.file < later.file)
    ⊎ ((part.file ≡ later.file) × (format.rank part < format.rank later))

-- the parts of the files, in order
pub record IsPartsOf (format : Meaning) (directory : Directory) (store : List (List ℕ))
    (parts : List Part) : Type 0 where
  pub members : (part : Part) → Contains parts part ↔ Reach format directory store part
  pub ordered : AllPairs (Before format) parts

-- a file has a part of this kind and number, and its unit has this content
pub record HasContent (format : Meaning) (directory : Directory) (store : List (List ℕ)) (file : ℕ) (kind : PartKind)
    (number : ℕ) (content : List ℕ) : Type 0 where
  pub part : Part
  pub reached : Reach format directory store part
  pub in_file : part.file ≡ file
  pub of_kind : part.kind ≡ kind
  pub numbered : part.number ≡ number
  pub is : format.content directory.places part (unit_at store part.place) ≡ content

-- the files have the same parts with the same contents
abbrev pub SameContents : Meaning → Directory → Directory → List (List ℕ) → List (List ℕ) → Type 0
SameContents format before after old new =
    (file : ℕ) (kind : PartKind) (number : ℕ) (content : List ℕ) → HasContent format before old file kind number content
    ↔ HasContent format after new file kind number content
