-- Where the pointer to a part stands.
use Rattle.std.specs.Prelude.{◌≡◌, ◌⊎◌, ◌<◌, ℕ, true, false, if◌then◌else◌, List}
use Rattle.a2_device.specs.declared.part.Part.{Part}
use Rattle.vol_format.specs.declared.link.Link.TheVariants.{To}
use Rattle.vol_format.specs.declared.link.Holder.{Holder}
use Rattle.vol_format.specs.Directory.{Directory, entries, entry_of, root_of}
use Rattle.vol_format.specs.Meaning.{Meaning, link_from}
use Rattle.vol_format.specs.Reach.{Reach}

-- the entry of the part's file points to the part, and stands there
pub record IsHeldByEntry (directory : Directory) (part : Part) (holder : Holder) : Type 0 where
  pub entry : holder.entry ≡ true
  pub inside : part.file < entries directory
  pub root : root_of directory part.file ≡ To part
  pub place : holder.place ≡ (entry_of directory part.file).place
  pub slot : holder.slot ≡ (entry_of directory part.file).slot

-- a pointer in the unit of a part names the part, and stands there
pub record IsHeldByUnit (format : Meaning) (directory : Directory) (store : List (List ℕ)) (part : Part)
    (holder : Holder) : Type 0 where
  pub parent : Part
  pub entry : holder.entry ≡ false
  pub reached : Reach format directory store parent
  pub link : link_from format store parent holder.slot ≡ To part
  pub place : holder.place ≡ parent.place

abbrev pub IsHolder : Meaning → Directory → List (List ℕ) → Part → Holder → Type 0
IsHolder format directory store part holder =
    IsHeldByEntry directory part holder ⊎ IsHeldByUnit format directory store part holder

-- the unit with the pointer there naming a place
abbrev pub with_slot : Meaning → List ℕ → Holder → ℕ → List ℕ
with_slot format unit holder place =
    if holder.entry then format.with_root unit holder.slot place else format.with_pointer unit holder.slot place
