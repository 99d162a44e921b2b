-- A new file of ProDOS: the directory to which its path leads, its slot there, its entry, and the writes that enter it
-- (ProDOS 8 Technical Reference Manual, Appendix B).
use Rattle.std.specs.Prelude.{◌≡◌, ◌<◌, ℕ, suc, ◌-◌, ◌*◌, ◌==◌, ◌&&◌, ◌||◌, nat_lt, Bool, true, false, if◌then◌else◌, List, [], ◌∷◌, length, take, drop, slice_get, Option, Some, None}
use Rattle.std.specs.List.{list_any}
use Rattle.std.specs.Str.{bytes_eq}
use Rattle.a2_device.specs.Device.{unit_at}
use Rattle.a2_device.specs.declared.part.PartKind.TheVariants.{Index, Master, Body}
use Rattle.pro_dir.specs.declared.entry.Entry.{Entry}
use Rattle.pro_dir.specs.declared.slot.NewFile.{NewFile}
use Rattle.pro_dir.specs.Entry.{free_slots_in, is_directory, key_of}
use Rattle.pro_dir.specs.Parents.{entry_in}
use Rattle.pro_dir.specs.Paths.{folded, path_of}
use Rattle.pro_dir.specs.Tree.{IsRun}
use Rattle.pro_dir.specs.Volume.{Directory as Tree, Describes}
use Rattle.pro_dir.specs.Writes.{entry_bytes, slot_offset, with_bytes}
use Rattle.pro_tree.specs.Reach.{pro_root}
use Rattle.vol_format.specs.Directory.{Listed}
use Rattle.pro_format.specs.Pro.{without_key}
use Rattle.vol_laws.specs.Writes.{Write}
use Rattle.edit_formats.specs.declared.new_part.NewPart.{NewPart}
use Rattle.edit_formats.specs.Order.{part_at}
use Rattle.edit_formats.specs.Parts.{kept, pro_parts_of, storage_type}
use Rattle.edit_formats.specs.TableUnit.{IsTableUnit}
use Rattle.edit_formats.specs.declared.counting.FileCount.TheVariants.{More}
use Rattle.edit_formats.specs.Counting.{counted_writes}
use Rattle.edit_formats.specs.ProNames.{is_name_in, is_pro_name, pro_name}
use Rattle.edit_formats.specs.declared.target.Attributes.{Attributes}
use Rattle.edit_formats.specs.declared.target.Extent.{Extent}
use Rattle.edit_formats.specs.declared.target.Slot.{Slot}
use Rattle.edit_formats.specs.declared.target.Target.{Target}
use Rattle.edit_formats.specs.declared.target.Target.TheVariants.{NoDirectory, NoName, InUse, Full, At}
use Rattle.edit_formats.specs.Saves.{SaveMeaning}

-- The names of a path are parted by slashes. Where the last one begins, which stands behind the last slash:
abbrev pub has_slash : List ℕ → Bool
has_slash path = list_any (λ byte. byte == 0x2f) path

abbrev pub name_start : List ℕ → ℕ
name_start [] = 0
name_start (byte ∷ path) = if has_slash (byte ∷ path) then suc (name_start path) else 0

abbrev pub last_name : List ℕ → List ℕ
last_name path = drop (name_start path) path

-- the path of the directory, which stands before that slash; the volume's has none
abbrev pub above_name : List ℕ → Option (List ℕ)
above_name path = if name_start path == 0 then None else Some (take (name_start path - 1) path)

-- the entry of a number is a subdirectory's, with this path once its letters are capitals
abbrev pub is_directory_named : List Entry → List ℕ → ℕ → Bool
is_directory_named all path number = is_directory (entry_in all number) && bytes_eq (folded path) (path_of all number)

-- the first subdirectory with a path, by its key block
pub record IsFirstDirectory (all : List Entry) (path : List ℕ) (key : ℕ) : Type 0 where
  pub number : ℕ
  pub inside : number < length all
  pub named : is_directory_named all path number ≡ true
  pub first : (other : ℕ) → other < number → is_directory_named all path other ≡ false
  pub key_is : key_of (entry_in all number) ≡ key

abbrev pub IsDirectoryAbove : List Entry → Option (List ℕ) → ℕ → Type 0
IsDirectoryAbove all None key = key ≡ 2
IsDirectoryAbove all (Some path) key = IsFirstDirectory all path key

abbrev pub IsNoDirectory : List Entry → Option (List ℕ) → Type 0
IsNoDirectory all None = ⊥
IsNoDirectory all (Some path) = (number : ℕ) → number < length all → is_directory_named all path number ≡ false

-- Which directory of the volume has a path: the first of those that have it, by its key block, or that none has it.
abbrev pub IsDirectoryAt : List (List ℕ) → List ℕ → Option ℕ → Type 0
IsDirectoryAt store path (Some key) = (tree : Tree) × Describes store tree × IsFirstDirectory tree.entries path key
IsDirectoryAt store path None = (tree : Tree) × Describes store tree × IsNoDirectory tree.entries (Some path)

-- The directory to which a path leads, among those of the volume, is so.
pub record HasDirectory (store : List (List ℕ)) (path : List ℕ) (Is : Tree → ℕ → Type 0) : Type 0 where
  pub tree : Tree
  pub described : Describes store tree
  pub key : ℕ
  pub above : IsDirectoryAbove tree.entries (above_name path) key
  pub is : Is tree key

-- the first slot of a directory that has no entry, if there is one
pub record HasFirstFree (store : List (List ℕ)) (key : ℕ) (first : Option (ℕ × ℕ)) : Type 0 where
  pub own : List ℕ
  pub run : IsRun store key own
  pub is : slice_get (free_slots_in store key own) 0 ≡ first

-- a file may get the name, and an entry of the directory has it, or none has
abbrev pub IsNameIn : Bool → List ℕ → Tree → ℕ → Type 0
IsNameIn has path tree key = (is_pro_name (last_name path) ≡ true)
    × (is_name_in key (folded (last_name path)) tree.entries ≡ has)

abbrev pub IsProTarget : List (List ℕ) → List ℕ → Target → Type 0
IsProTarget store path NoDirectory = (tree : Tree) × Describes store tree × IsNoDirectory tree.entries (above_name path)
IsProTarget store path NoName = HasDirectory store path (λ tree key. is_pro_name (last_name path) ≡ false)
IsProTarget store path InUse = HasDirectory store path (IsNameIn true path)
IsProTarget store path Full = HasDirectory store path
    (λ tree key. IsNameIn false path tree key × HasFirstFree store key None)
IsProTarget store path (At slot) = HasDirectory store path (λ tree key.
    IsNameIn false path tree key × HasFirstFree store key (Some (slot.place, slot.number)) × (slot.directory ≡ key))

-- What is entered: the access bits let the file be destroyed, renamed, written and read, and it has not been saved
-- elsewhere since its last change.
abbrev pub new_file : List ℕ → Slot → Attributes → Extent → NewFile
new_file path slot attributes extent = record {
  storage = storage_type extent.units;
  name = pro_name (last_name path);
  len = length (last_name path);
  kind = attributes.kind;
  key = extent.first;
  blocks = extent.parts;
  eof = attributes.eof;
  aux = attributes.aux;
  access = 0xe3;
  date = attributes.date;
  dir = slot.directory;
}

-- the entry in a free slot of the directory to which the path leads
pub record IsProEntry (store : List (List ℕ)) (path : List ℕ) (slot : Slot) (attributes : Attributes) (extent : Extent)
    (at : ℕ) (entry : Listed) : Type 0 where
  pub place_is : entry.place ≡ slot.place
  pub slot_is : entry.slot ≡ slot.number
  pub path_is : entry.path ≡ folded path
  pub bytes_are : entry.bytes ≡ without_key (entry_bytes (new_file path slot attributes extent))
  pub root_is : entry.root ≡ pro_root (length store) at (storage_type extent.units) extent.first

-- the slot gets the entry, and the directory counts one file more
abbrev pub pro_entering : List (List ℕ) → List ℕ → Slot → Attributes → Extent → List Write
pro_entering store path slot attributes extent =
    counted_writes More slot.place
    (with_bytes (slot_offset slot.number) (entry_bytes (new_file path slot attributes extent))
    (unit_at store slot.place)) slot.directory store

-- an index names 256 units of the body, and the master index the indexes
pub record IsProTable (parts : List NewPart) (places : List ℕ) (k : ℕ) (unit : List ℕ) : Type 0 where
  pub index : (part_at parts k).kind ≡ Index → IsTableUnit parts places Body (256 * (part_at parts k).number) unit
  pub master : (part_at parts k).kind ≡ Master → IsTableUnit parts places Index 0 unit

-- A file has 32,768 units at most, and 16,777,215 bytes, as its length has three bytes. The one unit of a seedling is
-- stored in any case.
abbrev pub pro_saves : SaveMeaning
pro_saves = record {
  too_long = λ eof units. nat_lt 32768 units || nat_lt 16777215 eof;
  parts = pro_parts_of;
  kept = kept;
  IsTable = IsProTable;
  may_have = λ path. is_pro_name (last_name path);
  IsTarget = IsProTarget;
  IsEntry = IsProEntry;
  entering = pro_entering;
}
