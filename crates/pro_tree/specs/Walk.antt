-- What is known at each moment of a walk over a file.
use Rattle.std.specs.Prelude.{◌≡◌, ◌≢◌, ◌⊎◌, ◌<◌, ℕ, ◌+◌, Bool, true, false, List, [], ◌∷◌, Option, Some, None, slice_index_or, AllPairs, Contains}
use Rattle.a2_device.specs.Table.{IsTable}
use Rattle.a2_device.specs.declared.part.Part.{Part}
use Rattle.a2_device.specs.declared.fault.Fault.{Fault}
use Rattle.a2_device.specs.declared.fault.Fault.TheVariants.{OutOfRange, Shared, StorageType}
use Rattle.vol_format.specs.declared.link.Link.{Link}
use Rattle.vol_format.specs.declared.link.Link.TheVariants.{Wild, Directory as ToDirectory, OtherType, To}
use Rattle.pro_tree.specs.declared.file_walk.FileWalk.{FileWalk}
use Rattle.pro_tree.specs.File.{InFile}
use Rattle.pro_tree.specs.Parts.{rank, named_by}

-- the part that a pointer names, if it names one
abbrev pub part_named : Link → Option Part
part_named (To part) = Some part
part_named link = None

abbrev pub parts_named : Link → List Part
parts_named (To part) = part ∷ []
parts_named link = []

-- a pointer names nothing or a part
pub record IsTame (link : Link) : Type 0 where
  pub wild : link ≢ Wild
  pub directory : link ≢ ToDirectory
  pub other : link ≢ OtherType

-- why a pointer is refused: it is wild, its file has no parts, or it names a place that was met
abbrev pub IsRefusedAt : List Bool → ℕ → Link → Fault → Type 0
IsRefusedAt met holder link (OutOfRange place) = (place ≡ holder) × (link ≡ Wild)
IsRefusedAt met holder link (StorageType place) = (place ≡ holder) × ((link ≡ ToDirectory) ⊎ (link ≡ OtherType))
IsRefusedAt met holder link (Shared place) =
    (part : Part) × (link ≡ To part) × (part.place ≡ place) × (slice_index_or met place false ≡ true)
IsRefusedAt met holder link fault = ⊥

-- the parts so far are parts of the file, of ranks below a number and in order
pub record IsSoFar (store : List (List ℕ)) (file storage key below : ℕ) (parts : List Part) : Type 0 where
  pub inside : (part : Part) → Contains parts part → InFile store file storage key part × (rank part < below)
  pub ordered : AllPairs (λ part later. rank part < rank later) parts

-- a part, where its file was followed as far as its rank
pub record IsReached (store : List (List ℕ)) (file storage key : ℕ) (part : Part) (met : List Bool)
    (parts : List Part) : Type 0 where
  pub in_file : InFile store file storage key part
  pub table : IsTable met parts
  pub so_far : IsSoFar store file storage key (rank part + 1) parts

-- what the first pointers of a part's block name is among the parts, and none of them is wild
pub record AreTaken (store : List (List ℕ)) (part : Part) (parts : List Part) (n : ℕ) : Type 0 where
  pub tame : (i : ℕ) → i < n → named_by store part i ≢ Wild
  pub taken : (i : ℕ) (child : Part) → i < n → named_by store part i ≡ To child → Contains parts child

-- what all the pointers of a part's block name is
pub record IsClosed (store : List (List ℕ)) (parts : List Part) (part : Part) : Type 0 where
  pub tame : (i : ℕ) → named_by store part i ≢ Wild
  pub taken : (i : ℕ) (child : Part) → named_by store part i ≡ To child → Contains parts child

-- what is known of the parts while the pointers of a part are followed, up to a number of them and to a rank
pub record IsTaking (store : List (List ℕ)) (part : Part) (old parts : List Part) (n below : ℕ) : Type 0 where
  pub grown : (other : Part) → Contains old other → Contains parts other
  pub added : (other : Part) → Contains parts other → Contains old other ⊎ IsClosed store parts other
  pub pointers : AreTaken store part parts n
  pub walked : (file storage key : ℕ) → InFile store file storage key part
      → IsSoFar store file storage key (rank part + 1) old
      → IsSoFar store file storage key below parts

-- where the places that were met were those of the parts, they are so still
abbrev pub KeepsTable : {A : Type 0} → FileWalk A → FileWalk A → Type 0
KeepsTable old new = IsTable old.met.items old.parts.items → IsTable new.met.items new.parts.items
