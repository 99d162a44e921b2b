-- What is known of an honest device's volume at each moment of a walk over it.
use Rattle.std.specs.Prelude.{◌≡◌, ◌≢◌, ◌⊎◌, ◌<◌, ℕ, ◌+◌, true, false, List, [], AllPairs, Contains}
use Rattle.a2_device.specs.declared.part.Part.{Part}
use Rattle.a2_device.specs.declared.fault.Fault.{Fault}
use Rattle.vol_format.specs.declared.link.Link.TheVariants.{Wild, OtherType, To}
use Rattle.vol_format.specs.Directory.{Directory, root_of, is_system, is_free}
use Rattle.vol_format.specs.Meaning.{Meaning, link_from}
use Rattle.vol_format.specs.Reach.{Reach, Before}
use Rattle.vol_format.specs.Accepted.{PartFaultAt}
use Rattle.vol_check.specs.declared.walk.Pending.{Pending}
use Rattle.vol_check.specs.declared.walk.Pending.TheVariants.{Visit, Tell}
use Rattle.vol_check.specs.Walk.{Lists, is_visited}

-- the part was taken up or waits
abbrev pub IsKnown : Lists → Part → Type 0
IsKnown walk part = Contains walk.parts part ⊎ Contains walk.pending (Visit part)

-- no slot is left open
abbrev pub None : Part → ℕ → Type 0
None part pointer = ⊥

-- the pointers of this part below a number are open
abbrev pub FirstOf : Part → ℕ → Part → ℕ → Type 0
FirstOf current limit part pointer = (part ≡ current) × (pointer < limit)

-- no fault was told, and none waits
pub record IsFaultless (walk : Lists) : Type 0 where
  pub none_told : walk.faults ≡ []
  pub none_waits : (fault : Fault) → Contains walk.pending (Tell fault) → ⊥

-- While no fault was found, all that the first roots and the slots that are not open lead to is known, and nothing is
-- wrong with it.
pub record IsClean (format : Meaning) (directory : Directory) (store : List (List ℕ)) (roots : ℕ)
    (Open : Part → ℕ → Type 0) (walk : Lists) : Type 0 where
  pub outside_system : (part : Part) → Contains walk.parts part → is_system directory part.place ≡ false
  pub marked : (part : Part) → Contains walk.parts part → is_free directory part.place ≡ false
  pub no_wild : (part : Part) (pointer : ℕ) → Contains walk.parts part → (Open part pointer → ⊥)
      → link_from format store part pointer ≢ Wild
  pub followed : (part child : Part) (pointer : ℕ) → Contains walk.parts part → (Open part pointer → ⊥)
      → link_from format store part pointer ≡ To child → IsKnown walk child
  pub no_wild_root : (file : ℕ) → file < roots → root_of directory file ≢ Wild
  pub no_other_type : (file : ℕ) → file < roots → root_of directory file ≢ OtherType
  pub roots_followed : (file : ℕ) (part : Part) → file < roots → root_of directory file ≡ To part → IsKnown walk part

-- of two parts that wait, the one that comes sooner ends, with all below it, before the other
abbrev pub Apart : Meaning → Pending → Pending → Type 0
Apart format (Visit low) (Visit high) = format.Ends high (format.rank low)
Apart format low high = Unit {0}

-- A walk over the parts of so many files.
pub record IsWalking (format : Meaning) (directory : Directory) (store : List (List ℕ)) (roots : ℕ)
    (Open : Part → ℕ → Type 0) (walk : Lists) : Type 0 where
  pub reached : (part : Part) → Contains walk.parts part → Reach format directory store part
  pub waiting : (part : Part) → Contains walk.pending (Visit part) → Reach format directory store part
  pub parts_file : (part : Part) → Contains walk.parts part → part.file < roots
  pub waiting_file : (part : Part) → Contains walk.pending (Visit part) → part.file + 1 ≡ roots
  pub places : (part : Part) → Contains walk.parts part → is_visited walk part.place ≡ true
  pub by_part : (place : ℕ) → is_visited walk place ≡ true
      → (part : Part) × Contains walk.parts part × (part.place ≡ place)
  pub once : (part other : Part) → Contains walk.parts part → Contains walk.parts other → part.place ≡ other.place
      → part ≡ other
  pub ordered : AllPairs (Before format) walk.parts
  pub later : (part next : Part) → Contains walk.parts part → Contains walk.pending (Visit next)
      → Before format part next
  pub stacked : AllPairs (Apart format) walk.pending
  pub faults : (fault : Fault) → Contains walk.faults fault → PartFaultAt format directory store fault
  pub waiting_faults : (fault : Fault) → Contains walk.pending (Tell fault) → PartFaultAt format directory store fault
  pub clean : IsFaultless walk → IsClean format directory store roots Open walk
