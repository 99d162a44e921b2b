-- The parts of a new file, in the order in which a volume has the parts of its files (Beneath Apple DOS, chapter 4;
-- ProDOS 8 Technical Reference Manual, Appendix B). A file is a row of units, of which some are stored.
use Rattle.std.specs.Prelude.{ℕ, ◌+◌, ◌*◌, ◌/◌, ◌==◌, nat_le, max, Bool, true, false, if◌then◌else◌, List, [], ◌∷◌, length, map, filter, flat_map, slice_index_or}
use Rattle.std.specs.List.{range_with_len, list_any}
use Rattle.a2_device.specs.declared.part.PartKind.{PartKind}
use Rattle.a2_device.specs.declared.part.PartKind.TheVariants.{List as AList, Master, Index, Body}
use Rattle.edit_formats.specs.declared.new_part.NewPart.{NewPart}

-- whether the unit of a number is stored; behind the end of the file none is
abbrev pub is_stored : List Bool → ℕ → Bool
is_stored stored number = slice_index_or stored number false

abbrev pub new_part : PartKind → ℕ → NewPart
new_part kind number = record { kind = kind; number = number }

-- the units of the body that are stored, of so many from a first one on
unfoldable pub bodies : List Bool → ℕ → ℕ → List NewPart
bodies stored first count = filter (λ (part : NewPart). is_stored stored part.number)
    (map (new_part Body) (range_with_len first count))

-- DOS 3.3: a track/sector list, and the units of its 122 pairs
abbrev pub list_with_bodies : List Bool → ℕ → List NewPart
list_with_bodies stored number = new_part AList number ∷ bodies stored (122 * number) 122

-- A file of so many units has a list for each 122 of them, and one at least. A list is there though none of its units
-- is stored.
abbrev pub list_count : ℕ → ℕ
list_count units = max ((units + 121) / 122) 1

unfoldable pub dos_parts_of : List Bool → List NewPart
dos_parts_of stored = flat_map (list_with_bodies stored) (range_with_len 0 (list_count (length stored)))

-- ProDOS: an index, and the units of its 256 pointers
abbrev pub index_with_bodies : List Bool → ℕ → List NewPart
index_with_bodies stored number = new_part Index number ∷ bodies stored (256 * number) 256

-- one of so many units from a first one on is stored
unfoldable pub any_stored : List Bool → ℕ → ℕ → Bool
any_stored stored first count = list_any (is_stored stored) (range_with_len first count)

-- those of the first indexes, so many, that have a unit to name
unfoldable pub indexes : List Bool → ℕ → List NewPart
indexes stored count = flat_map (index_with_bodies stored)
    (filter (λ number. any_stored stored (256 * number) 256) (range_with_len 0 count))

-- a tree has a master index, which names 128 indexes
abbrev pub tree_parts : List Bool → List NewPart
tree_parts stored = new_part Master 0 ∷ indexes stored 128

-- the storage type of a file of so many units: a seedling, a sapling or a tree
abbrev pub storage_type : ℕ → ℕ
storage_type units = if nat_le units 1 then 1 else (if nat_le units 256 then 2 else 3)

-- the units that ProDOS keeps: the one unit of a seedling in any case
abbrev pub kept : List Bool → List Bool
kept stored = if nat_le (length stored) 1 then true ∷ [] else stored

-- A seedling is its one unit, stored or not; a sapling has one index, though none of its units is stored.
unfoldable pub pro_parts_of : List Bool → List NewPart
pro_parts_of stored =
    if storage_type (length stored) == 1 then new_part Body 0 ∷ []
    else (if storage_type (length stored) == 2 then index_with_bodies stored 0 else tree_parts stored)
