-- A slot of the catalog, and what a new entry there says (Beneath Apple DOS, chapter 4).
use Rattle.std.specs.Prelude.{◌≡◌, ◌<◌, ℕ, ◌/◌, ◌%◌, true, false, List, ◌∷◌, ◌++◌, [], length, take, map, filter, slice_set, Contains}
use Rattle.std.specs.List.{range_with_len}
use Rattle.a2_device.specs.Device.{unit_at}
use Rattle.a2_device.specs.declared.part.PartKind.TheVariants.{List as AList}
use Rattle.dos_catalog.specs.declared.slot.NewEntry.{NewEntry}
use Rattle.dos_catalog.specs.Entry.{entry_at, is_in_use, entries_of}
use Rattle.dos_catalog.specs.Writes.{slot_offset, with_bytes, entry_bytes}
use Rattle.vol_format.specs.declared.link.Link.TheVariants.{To}
use Rattle.vol_format.specs.Directory.{Listed}
use Rattle.vol_laws.specs.Inserted.{index_in_all}

-- a slot of a catalog sector, which has an entry in use, or none
pub record IsUsedSlot (store : List (List ℕ)) (sectors : List ℕ) (place slot : ℕ) : Type 0 where
  pub of_catalog : Contains sectors place
  pub below : slot < 7
  pub in_use : is_in_use (entry_at place (unit_at store place) slot) ≡ true

pub record IsFreeSlot (store : List (List ℕ)) (sectors : List ℕ) (place slot : ℕ) : Type 0 where
  pub of_catalog : Contains sectors place
  pub below : slot < 7
  pub unused : is_in_use (entry_at place (unit_at store place) slot) ≡ false

-- The number of the entry in a slot, among the entries in use of these sectors: how many of them stand before it.
abbrev pub number_of_slot : List (List ℕ) → List ℕ → ℕ → ℕ → ℕ
number_of_slot store sectors place slot =
    index_in_all (λ p. entries_of p (unit_at store p)) sectors place
    (length (filter is_in_use (take slot (map (entry_at place (unit_at store place)) (range_with_len 0 7)))))

-- What a new entry says as number `file` of the directory: its name is the path, its bytes are the kind, the name and
-- the length with its low byte first, and it points to list 0 of the file.
abbrev pub new_listed : ℕ → ℕ → ℕ → NewEntry → Listed
new_listed file place slot new = record {
  place = place;
  slot = slot;
  path = new.name;
  bytes = new.kind ∷ (new.name ++ (new.sectors % 256) ∷ (new.sectors / 256) ∷ []);
  root = To (record { file = file; kind = AList; number = 0; place = new.pointer });
}

-- the store with a new entry written into a slot
abbrev pub entry_written : List (List ℕ) → ℕ → ℕ → NewEntry → List (List ℕ)
entry_written store place slot new =
    slice_set store place (with_bytes (slot_offset slot) (entry_bytes new) (unit_at store place))
