-- A new file of DOS 3.3: its slot in the catalog, its entry, and the one write that enters it (Beneath Apple DOS,
-- chapter 4).
use Rattle.std.specs.Prelude.{◌≡◌, ℕ, nat_lt, Bool, true, false, List, [], ◌∷◌, slice_get, slice_range, Some, None}
use Rattle.std.specs.List.{list_any}
use Rattle.std.specs.Str.{bytes_eq}
use Rattle.a2_device.specs.Device.{unit_at}
use Rattle.dos_catalog.specs.declared.entry.Entry.{Entry}
use Rattle.dos_catalog.specs.declared.slot.NewEntry.{NewEntry}
use Rattle.dos_catalog.specs.Catalog.{IsCatalog}
use Rattle.dos_catalog.specs.declared.catalog.Catalog.{Catalog}
use Rattle.dos_catalog.specs.Listed.{entries_of_catalog, free_slot_of_catalog, sectors_of_catalog}
use Rattle.dos_catalog.specs.Entry.{entries_in, free_slots_in}
use Rattle.dos_catalog.specs.Writes.{slot_offset, with_bytes, entry_bytes}
use Rattle.vol_format.specs.Directory.{Listed}
use Rattle.dos_format.specs.Slots.{IsFreeSlot, number_of_slot, new_listed}
use Rattle.vol_laws.specs.Writes.{Write}
use Rattle.edit_formats.specs.Order.{part_at}
use Rattle.edit_formats.specs.Parts.{dos_parts_of}
use Rattle.file_formats.specs.DosFiles.{dos_name}
use Rattle.edit_formats.specs.DosNames.{is_dos_name}
use Rattle.edit_formats.specs.ListUnit.{IsListUnit}
use Rattle.edit_formats.specs.declared.target.Attributes.{Attributes}
use Rattle.edit_formats.specs.declared.target.Extent.{Extent}
use Rattle.edit_formats.specs.declared.target.Slot.{Slot}
use Rattle.edit_formats.specs.declared.target.Target.{Target}
use Rattle.edit_formats.specs.declared.target.Target.TheVariants.{NoDirectory, NoName, InUse, Full, At}
use Rattle.edit_formats.specs.Saves.{SaveMeaning}

-- what is entered: the place of the first list, the kind, the name as it is stored, and the number of parts
abbrev pub new_entry : List ℕ → Attributes → Extent → NewEntry
new_entry path attributes extent = record {
  pointer = extent.first;
  kind = attributes.kind;
  name = dos_name path;
  sectors = extent.parts;
}

-- the one write to a sector of the catalog
abbrev pub dos_entering : List (List ℕ) → List ℕ → Slot → Attributes → Extent → List Write
dos_entering store path slot attributes extent = record {
  place = slot.place;
  unit = with_bytes (slot_offset slot.number) (entry_bytes (new_entry path attributes extent))
      (unit_at store slot.place);
} ∷ []

-- The catalog, of which a file may get the name, is so.
pub record HasCatalog (store : List (List ℕ)) (path : List ℕ) (Is : List ℕ → Type 0) : Type 0 where
  pub name : is_dos_name path ≡ true
  pub sectors : List ℕ
  pub catalog : IsCatalog store sectors
  pub is : Is sectors

-- an entry in use of these sectors has the name
abbrev pub is_name_used : List (List ℕ) → List ℕ → List ℕ → Bool
is_name_used store sectors path =
    list_any (λ (entry : Entry). bytes_eq (slice_range entry.bytes 3 33) (dos_name path)) (entries_in store sectors)

-- The catalog is the one directory, and begins with the VTOC. Its first slot that was never used or is deleted is a new
-- file's.
abbrev pub IsDosTarget : List (List ℕ) → List ℕ → Target → Type 0
IsDosTarget store path NoDirectory = ⊥
IsDosTarget store path NoName = is_dos_name path ≡ false
IsDosTarget store path InUse = HasCatalog store path (λ sectors. is_name_used store sectors path ≡ true)
IsDosTarget store path Full = HasCatalog store path
    (λ sectors. (is_name_used store sectors path ≡ false) × (slice_get (free_slots_in store sectors) 0 ≡ None))
IsDosTarget store path (At slot) = HasCatalog store path (λ sectors.
    (is_name_used store sectors path ≡ false)
    × (slice_get (free_slots_in store sectors) 0 ≡ Some (slot.place, slot.number)) × (slot.directory ≡ 272))

-- the entry in a free slot of the catalog, and its number
pub record IsDosEntry (store : List (List ℕ)) (path : List ℕ) (slot : Slot) (attributes : Attributes) (extent : Extent)
    (at : ℕ) (entry : Listed) : Type 0 where
  pub name : is_dos_name path ≡ true
  pub sectors : List ℕ
  pub catalog : IsCatalog store sectors
  pub free : IsFreeSlot store sectors slot.place slot.number
  pub number : at ≡ number_of_slot store sectors slot.place slot.number
  pub is : entry ≡ new_listed at slot.place slot.number (new_entry path attributes extent)

-- A file has 560 units at most, and each that is not a hole is stored. The tables are its lists.
abbrev pub dos_saves : SaveMeaning
dos_saves = record {
  too_long = λ eof units. nat_lt 560 units;
  parts = dos_parts_of;
  kept = λ stored. stored;
  IsTable = λ parts places k unit. IsListUnit parts places (part_at parts k).number unit;
  may_have = is_dos_name;
  IsTarget = IsDosTarget;
  IsEntry = IsDosEntry;
  entering = dos_entering;
}

-- the catalog of a store, as a walk over it tells it
pub record HasWalked {A : Type 0} (store : List (List ℕ)) (catalog : Catalog A) : Type 0 where
  pub is : IsCatalog store (sectors_of_catalog catalog)
  pub entries : entries_of_catalog catalog ≡ entries_in store (sectors_of_catalog catalog)
  pub free : free_slot_of_catalog catalog ≡ slice_get (free_slots_in store (sectors_of_catalog catalog)) 0
