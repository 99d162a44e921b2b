-- What a format must meet.
use Rattle.std.specs.Prelude.{◌≡◌, ◌≢◌, ◌↔◌, ◌<◌, ◌≤◌, ◌+◌, ◌/◌, ℕ, Bool, true, false, List, length, slice_set, AllPairs, Contains}
use Rattle.a2_device.specs.Device.{unit_at}
use Rattle.a2_device.specs.declared.part.Part.{Part}
use Rattle.a2_device.specs.declared.part.PartKind.TheVariants.{Body}
use Rattle.a2_device.specs.declared.fault.Fault.{Fault}
use Rattle.vol_format.specs.declared.link.Link.TheVariants.{Null, Directory as ToDirectory, OtherType, To}
use Rattle.vol_format.specs.Directory.{Directory, entries, entry_of, root_of, is_system, map_place, turned, remapped, IsSameFrame}
use Rattle.vol_format.specs.Meaning.{Meaning}
use Rattle.vol_format.specs.Standing.{at_place}

-- What reading asks of a format. A pointer names a part of the same file that stands at a place and comes later in the
-- file's order; what a pointer leads to ends before what a later pointer of the same unit leads to; and a store has one
-- directory at most, and none where its header has a fault.
pub record IsReadable (format : Meaning) : Type 0 where
  pub child_place : (places : ℕ) (part child : Part) (unit : List ℕ) (i : ℕ) → format.Takes places
      → format.child places part unit i ≡ To child → child.place < places
  pub child_file : (places : ℕ) (part child : Part) (unit : List ℕ) (i : ℕ) → format.child places part unit i ≡ To child
      → child.file ≡ part.file
  pub child_depth : (places : ℕ) (part child : Part) (unit : List ℕ) (i : ℕ)
      → format.child places part unit i ≡ To child → format.depth child ≤ format.depth part + 1
  pub child_later : (places : ℕ) (part child : Part) (unit : List ℕ) (i : ℕ)
      → format.child places part unit i ≡ To child → format.rank part < format.rank child
  pub child_inside : (places : ℕ) (part child : Part) (unit : List ℕ) (i r : ℕ)
      → format.child places part unit i ≡ To child → format.Ends part r → format.Ends child r
  pub children_apart : (places : ℕ) (part child later : Part) (unit : List ℕ) (i j : ℕ) → i < j
      → format.child places part unit i ≡ To child → format.child places part unit j ≡ To later
      → format.Ends child (format.rank later)
  pub no_more : (places : ℕ) (part : Part) (unit : List ℕ) (i : ℕ) → format.pointers part ≤ i
      → format.child places part unit i ≡ Null
  pub few_pointers : (part : Part) → format.pointers part ≤ 256
  pub few_places : (places : ℕ) → format.Takes places → places < 65536
  pub child_type : (places : ℕ) (part : Part) (unit : List ℕ) (i : ℕ) → format.child places part unit i ≢ OtherType
  pub child_no_directory : (places : ℕ) (part : Part) (unit : List ℕ) (i : ℕ)
      → format.child places part unit i ≢ ToDirectory
  pub ends : (part : Part) (r : ℕ) → format.Ends part r → format.rank part < r
  pub body_order : (part later : Part) → part.kind ≡ Body → later.kind ≡ Body → format.rank part < format.rank later
      → part.number < later.number
  pub header_fault : (store : List (List ℕ)) (directory : Directory) (fault : Fault) → format.HeaderFaultAt store fault
      → format.Describes store directory → ⊥
  pub one_directory : (store : List (List ℕ)) (directory other : Directory) → format.Describes store directory
      → format.Describes store other → directory ≡ other
  pub all_places : (store : List (List ℕ)) (directory : Directory) → format.Describes store directory
      → directory.places ≡ length store

-- What is true of a directory that a format reads, of whatever device. An entry that names a part begins a file of its
-- own number; the available places are those that are not the system's, each once and in the order of the map's units,
-- and pointers can name them.
pub record IsDirectory (format : Meaning) (directory : Directory) : Type 0 where
  pub root_place : (file : ℕ) (part : Part) → root_of directory file ≡ To part → part.place < directory.places
  pub root_file : (file : ℕ) (part : Part) → root_of directory file ≡ To part → part.file ≡ file
  pub root_depth : (file : ℕ) (part : Part) → root_of directory file ≡ To part → format.depth part ≡ 0
  pub entry_below : (file : ℕ) → file < entries directory → (entry_of directory file).place < directory.places
  pub entry_slot : (file : ℕ) → file < entries directory → format.HasSlot true (entry_of directory file).slot
  pub few_entries : entries directory < 4294967296
  pub available_of : (place : ℕ) → Contains directory.available place
      ↔ ((place < directory.places) × (is_system directory place ≡ false))
  pub available_once : AllPairs (λ place later. place ≢ later) directory.available
  pub available_named : (place : ℕ) → Contains directory.available place → format.CanName directory.places place
  pub few_available : length directory.available ≤ 65536
  pub available_by_unit : AllPairs
      (λ place later. place / directory.map_size ≤ later / directory.map_size) directory.available
  pub map_counted : (place : ℕ) → place < directory.places → place / directory.map_size < length directory.map_units
  pub map_below : (place : ℕ) → place < directory.places → map_place directory place < directory.places

-- What moves ask of a format: a pointer has one slot, names a part whatever the place of its holder, and can be set
-- alone; and a write outside the system leaves the directory.
pub record IsMovable (format : Meaning) : Type 0 where
  pub described : (store : List (List ℕ)) (directory : Directory) → format.Describes store directory
      → IsDirectory format directory
  pub place_free : (places : ℕ) (part : Part) (unit : List ℕ) (i place : ℕ)
      → format.child places (at_place part place) unit i ≡ format.child places part unit i
  pub rank_of : (part other : Part) → part.kind ≡ other.kind → part.number ≡ other.number
      → format.rank part ≡ format.rank other
  pub one_slot : (places : ℕ) (part other child same : Part) (unit unit' : List ℕ) (i j : ℕ) → part.file ≡ other.file
      → format.child places part unit i ≡ To child → format.child places other unit' j ≡ To same
      → child.kind ≡ same.kind → child.number ≡ same.number
      → (part.kind ≡ other.kind) × (part.number ≡ other.number) × (i ≡ j)
  pub set_here : (places : ℕ) (part child : Part) (unit : List ℕ) (i place : ℕ) → length unit ≡ format.unit_size
      → format.CanName places place
      → format.child places part unit i ≡ To child
      → format.child places part (format.with_pointer unit i place) i ≡ To (at_place child place)
  pub set_elsewhere : (places : ℕ) (part : Part) (unit : List ℕ) (i j place : ℕ) → j ≢ i
      → format.child places part (format.with_pointer unit i place) j ≡ format.child places part unit j
  pub slot : (places : ℕ) (part child : Part) (unit : List ℕ) (i : ℕ) → format.child places part unit i ≡ To child
      → format.HasSlot false i
  pub content_free : (places : ℕ) (part : Part) (place : ℕ) (unit : List ℕ)
      → format.content places (at_place part place) unit ≡ format.content places part unit
  pub content_kept : (places : ℕ) (part child : Part) (unit : List ℕ) (i place : ℕ) → length unit ≡ format.unit_size
      → format.CanName places place
      → format.child places part unit i ≡ To child
      → format.content places part (format.with_pointer unit i place) ≡ format.content places part unit
  pub content_of_body : (places : ℕ) (part : Part) (unit : List ℕ) → part.kind ≡ Body
      → format.content places part unit ≡ unit
  pub pointer_length : (unit : List ℕ) (i place : ℕ) → length (format.with_pointer unit i place) ≡ length unit
  pub outside : (store : List (List ℕ)) (directory : Directory) (place : ℕ) (unit : List ℕ)
      → format.Describes store directory → is_system directory place ≡ false
      → format.Describes (slice_set store place unit) directory

-- What writes to the system's units ask of a format: the entries and the map stand there, the map has a mark for each
-- place, and an entry's pointer and a place's mark can be set alone.
pub record IsWritable (format : Meaning) : Type 0 where
  pub entry_inside : (store : List (List ℕ)) (directory : Directory) (file : ℕ) → format.Describes store directory
      → file < entries directory
      → is_system directory (entry_of directory file).place ≡ true
  pub marks : (store : List (List ℕ)) (directory : Directory) → format.Describes store directory
      → length directory.free ≡ directory.places
  pub map_inside : (store : List (List ℕ)) (directory : Directory) (place : ℕ) → format.Describes store directory
      → place < directory.places
      → is_system directory (map_place directory place) ≡ true
  pub turn : (store : List (List ℕ)) (directory : Directory) (file place : ℕ) (part : Part)
      → format.Describes store directory
      → file < entries directory → root_of directory file ≡ To part → format.CanName directory.places place
      → length (unit_at store (entry_of directory file).place) ≡ format.unit_size
      → format.Describes (slice_set store (entry_of directory file).place
      (format.with_root (unit_at store (entry_of directory file).place) (entry_of directory file).slot place))
      (turned directory file (To (at_place part place)))
  pub remap : (store : List (List ℕ)) (directory : Directory) (place : ℕ) (free : Bool)
      → format.Describes store directory → place < directory.places
      → length (unit_at store (map_place directory place)) ≡ format.unit_size
      → format.Describes (slice_set store (map_place directory place)
      (format.with_free (unit_at store (map_place directory place)) place free))
      (remapped directory place free)
  pub root_length : (unit : List ℕ) (slot place : ℕ) → length (format.with_root unit slot place) ≡ length unit
  pub free_length : (unit : List ℕ) (place : ℕ) (free : Bool) → length (format.with_free unit place free) ≡ length unit
  pub turn_content : (store : List (List ℕ)) (directory : Directory) (file place : ℕ) (part : Part) (unit : List ℕ)
      → format.Describes store directory
      → file < entries directory → root_of directory file ≡ To part → length unit ≡ format.unit_size
      → format.system_content directory (entry_of directory file).place
      (format.with_root unit (entry_of directory file).slot place)
      ≡ format.system_content directory (entry_of directory file).place unit
  pub remap_content : (store : List (List ℕ)) (directory : Directory) (place : ℕ) (free : Bool) (unit : List ℕ)
      → format.Describes store directory
      → Contains directory.available place → length unit ≡ format.unit_size
      → format.system_content directory (map_place directory place) (format.with_free unit place free)
      ≡ format.system_content directory (map_place directory place) unit
  pub frame_content : (before after : Directory) (place : ℕ) (unit : List ℕ) → IsSameFrame before after
      → format.system_content after place unit ≡ format.system_content before place unit
