-- A directory that is to be made: the writes, and its entry.
use Rattle.std.specs.Prelude.{◌≡◌, ℕ, false, Bool, List, [], ◌∷◌, ◌++◌}
use Rattle.a2_device.specs.Device.{unit_at}
use Rattle.pro_dir.specs.declared.date.ProDate.{ProDate}
use Rattle.pro_dir.specs.Paths.{folded}
use Rattle.vol_format.specs.declared.link.Link.TheVariants.{Directory as ToDirectory}
use Rattle.vol_format.specs.Directory.{Directory, Listed, map_place}
use Rattle.pro_format.specs.Pro.{pro_with_free, without_key}
use Rattle.vol_laws.specs.Writes.{Write}
use Rattle.edit_formats.specs.declared.target.Slot.{Slot}
use Rattle.file_edits.specs.NewDirectory.{directory_block, entering, new_entry_bytes}

-- the volume of a store, the path of the new directory, and the date of its creation
pub record Making : Type 0 where
  pub reserved : List Bool
  pub store : List (List ℕ)
  pub path : List ℕ
  pub date : ProDate

abbrev pub making : List Bool → List (List ℕ) → List ℕ → ProDate → Making
making reserved store path date = record { reserved = reserved; store = store; path = path; date = date }

-- The writes: the new block, the unit of the map with its bit put to 0, and then the entry with the parent's count of
-- files, in one write or two.
abbrev pub block_write : Making → Slot → ℕ → Write
block_write making slot place = record { place = place; unit = directory_block making.path slot making.date }

abbrev pub mark_write : Making → Directory → ℕ → Write
mark_write making directory place = record {
  place = map_place directory place;
  unit = pro_with_free (unit_at making.store (map_place directory place)) place false;
}

abbrev pub placing_writes : Making → Directory → Slot → ℕ → List Write
placing_writes making directory slot place = block_write making slot place ∷ mark_write making directory place ∷ []

abbrev pub making_writes : Making → Directory → Slot → ℕ → List Write
making_writes making directory slot place =
    placing_writes making directory slot place ++ entering making.store making.path slot place making.date

-- The entry of the new directory: it stands in this slot, its path is the given one in capitals, and it leads to a
-- directory.
pub record IsNewEntry (making : Making) (slot : Slot) (place : ℕ) (entry : Listed) : Type 0 where
  pub place_is : entry.place ≡ slot.place
  pub slot_is : entry.slot ≡ slot.number
  pub path_is : entry.path ≡ folded making.path
  pub bytes_are : entry.bytes ≡ without_key (new_entry_bytes making.path slot place making.date)
  pub root_is : entry.root ≡ ToDirectory
