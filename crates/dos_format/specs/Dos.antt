-- What the units of a DOS 3.3 volume mean (Beneath Apple DOS, chapter 4).
use Rattle.std.specs.Prelude.{◌≡◌, ◌⊎◌, ◌<◌, ◌≤◌, ℕ, ◌+◌, ◌*◌, ◌-◌, ◌/◌, ◌%◌, ◌==◌, nat_lt, not, ◌&&◌, ◌||◌, Bool, true, false, if◌then◌else◌, List, [], ◌∷◌, length, map, filter, take, drop, Option, Some, None, slice_index}
use Rattle.std.specs.List.{range_with_len, list_any}
use Rattle.a2_device.specs.Device.{unit_at}
use Rattle.a2_device.specs.declared.part.PartKind.{PartKind}
use Rattle.a2_device.specs.declared.part.PartKind.TheVariants.{List as AList, Body}
use Rattle.a2_device.specs.declared.fault.Fault.{Fault}
use Rattle.a2_device.specs.declared.fault.Fault.TheVariants.{Geometry}
use Rattle.dos_vtoc.specs.Vtoc.{HasGeometry, link_of, volume_number, is_free, marked, released, order_of}
use Rattle.dos_catalog.specs.declared.entry.Entry.{Entry}
use Rattle.dos_catalog.specs.Entry.{entries_in}
use Rattle.dos_catalog.specs.Catalog.{IsCatalog, CatalogFaultAt}
use Rattle.dos_catalog.specs.Writes.{slot_offset, with_place}
use Rattle.dos_tslist.specs.Pointers.{pair_of, pair_offset, link_offset}
use Rattle.dos_tslist.specs.Reach.{entry_pointer, place_named, rank_of}
use Rattle.vol_layout.specs.Reserved.{is_reserved}
use Rattle.vol_format.specs.declared.link.Link.{Link}
use Rattle.vol_format.specs.declared.link.Link.TheVariants.{Null, Wild, To}
use Rattle.vol_format.specs.Directory.{Directory, Listed}
use Rattle.vol_format.specs.Meaning.{Meaning}

-- whether tracks 1 and 2 are for files, and which places are reserved
pub record DosRules : Type 0 where
  pub data_disk : Bool
  pub reserved : List Bool

-- the part that a track and a sector name; past the last track or sector they are wild
abbrev pub link_to : ℕ → PartKind → ℕ → Option (ℕ × ℕ) → Link
link_to file kind number None = Null
link_to file kind number (Some pointer) =
    if nat_lt 34 pointer.0 || nat_lt 15 pointer.1 then Wild
    else To (record { file = file; kind = kind; number = number; place = 16 * pointer.0 + pointer.1 })

-- The pointers of a list: pairs 0 to 121 name units of the body, the link is pointer 122 and names the next list.
abbrev pub list_link : ℕ → ℕ → List ℕ → ℕ → Link
list_link file number unit i =
    if nat_lt i 122 then link_to file Body (122 * number + i) (pair_of unit i)
    else (if i == 122 then link_to file AList (number + 1) (link_of unit) else Null)

abbrev pub dos_child : PartKind → ℕ → ℕ → List ℕ → ℕ → Link
dos_child AList file number unit i = list_link file number unit i
dos_child kind file number unit i = Null

abbrev pub dos_pointers : PartKind → ℕ
dos_pointers AList = 123
dos_pointers kind = 0

-- where pointer i of a list stands
abbrev pub pointer_offset : ℕ → ℕ
pointer_offset i = if i == 122 then link_offset else pair_offset i

-- a list ends nowhere; a unit of the body with itself
abbrev pub dos_ends : PartKind → ℕ → ℕ → Type 0
dos_ends AList number rank = ⊥
dos_ends kind number rank = rank_of kind number < rank

-- as many lists lead to a list
abbrev pub dos_depth : PartKind → ℕ → ℕ
dos_depth AList number = number
dos_depth kind number = 0

-- Of a list, the bytes that belong to a pointer: the link has 01 and 02, and from 0C on each pair has two.
abbrev pub pointer_at_byte : List ℕ → ℕ → Option (ℕ × ℕ)
pointer_at_byte unit at =
    if at == 1 || at == 2 then link_of unit
    else (if nat_lt at 12 then None else pair_of unit ((at - 12) / 2))

-- a pointer names a part
abbrev pub names_part : Option (ℕ × ℕ) → Bool
names_part pointer = names (place_named pointer)
  where
    names : Option ℕ → Bool
    names None = false
    names (Some place) = true

-- a list with its pointers to parts put to 0
abbrev pub dos_content : PartKind → List ℕ → List ℕ
dos_content AList unit = map (λ at. if names_part (pointer_at_byte unit at) then 0 else slice_index unit at)
    (range_with_len 0 256)
dos_content kind unit = unit

-- The system has tracks 0 and 17, on a disk with DOS tracks 1 and 2 too, and what is reserved.
abbrev pub is_dos_system : Bool → List Bool → ℕ → Bool
is_dos_system data_disk reserved place =
    nat_lt place 16 || place / 16 == 17 || not data_disk && nat_lt place 48 || is_reserved reserved place

-- an entry of the catalog, by its number: the path is the 30 bytes of the name, its bytes those from the kind on
abbrev pub dos_entry : ℕ → Entry → Listed
dos_entry file entry = record {
  place = entry.place;
  slot = entry.slot;
  path = take 30 (drop 3 entry.bytes);
  bytes = drop 2 entry.bytes;
  root = link_to file AList 0 (entry_pointer entry);
}

-- the entries from a number on
abbrev pub numbered : ℕ → List Entry → List Listed
numbered file [] = []
numbered file (entry ∷ entries) = dos_entry file entry ∷ numbered (file + 1) entries

-- The available places of so many: tracks upward, in a track sectors 15 down to 0.
unfoldable pub first_available : Bool → List Bool → ℕ → List ℕ
first_available data_disk reserved count =
    filter (λ place. not (is_dos_system data_disk reserved place)) (map order_of (range_with_len 0 count))

abbrev pub dos_available : Bool → List Bool → List ℕ
dos_available data_disk reserved = first_available data_disk reserved 560

unfoldable pub dos_system : Bool → List Bool → List Bool
dos_system data_disk reserved = map (is_dos_system data_disk reserved) (range_with_len 0 560)

unfoldable pub dos_free : List ℕ → List Bool
dos_free vtoc = map (is_free vtoc) (range_with_len 0 560)

-- what a VTOC and the entries of a catalog say
abbrev pub dos_directory : Bool → List Bool → List ℕ → List Entry → Directory
dos_directory data_disk reserved vtoc entries = record {
  places = 560;
  name = volume_number vtoc ∷ [];
  listed = numbered 0 entries;
  system = dos_system data_disk reserved;
  free = dos_free vtoc;
  available = dos_available data_disk reserved;
  map_units = 272 ∷ [];
  map_size = 560;
}

-- the VTOC, the chain of catalog sectors, and what they say
pub record DescribesDos (data_disk : Bool) (reserved : List Bool) (store : List (List ℕ))
    (directory : Directory) : Type 0 where
  pub size : length store ≡ 560
  pub geometry : HasGeometry (unit_at store 272)
  pub sectors : List ℕ
  pub catalog : IsCatalog store sectors
  pub says : directory ≡ dos_directory data_disk reserved (unit_at store 272) (entries_in store sectors)

-- another geometry, or a bad link of the catalog
abbrev pub DosHeaderFaultAt : List (List ℕ) → Fault → Type 0
DosHeaderFaultAt store fault =
    ((fault ≡ Geometry 272) × ¬ HasGeometry (unit_at store 272))
    ⊎ (HasGeometry (unit_at store 272) × CatalogFaultAt store fault)

-- pointers can name each place but those of track 0, sector 0 of track 0 among them
abbrev pub CanNameDos : ℕ → Type 0
CanNameDos place = (16 ≤ place) × (place < 560)

-- a list, a catalog sector and the VTOC with one thing written
abbrev pub dos_with_pointer : List ℕ → ℕ → ℕ → List ℕ
dos_with_pointer unit i place = with_place (pointer_offset i) place unit

abbrev pub dos_with_root : List ℕ → ℕ → ℕ → List ℕ
dos_with_root unit slot place = with_place (slot_offset slot) place unit

abbrev pub dos_with_free : List ℕ → ℕ → Bool → List ℕ
dos_with_free unit place free = if free then released unit place else marked unit place

abbrev pub HasDosSlot : Bool → ℕ → Type 0
HasDosSlot true slot = slot < 7
HasDosSlot false slot = slot < 123

-- an entry in use stands in a slot of this unit
abbrev pub has_root_at : Directory → ℕ → ℕ → Bool
has_root_at directory place slot =
    list_any (λ (entry : Listed). entry.place == place && entry.slot == slot) directory.listed

-- A unit of the system with the entries' pointers and the marks of available places put to 0.
abbrev pub marks_cleared : List ℕ → List ℕ → List ℕ
marks_cleared [] vtoc = vtoc
marks_cleared (place ∷ places) vtoc = marks_cleared places (marked vtoc place)

abbrev pub root_at_byte : Directory → ℕ → ℕ → Bool
root_at_byte directory place at =
    not (nat_lt at 0x0b) && nat_lt ((at - 0x0b) % 35) 2 && has_root_at directory place ((at - 0x0b) / 35)

unfoldable pub dos_system_content : Directory → ℕ → List ℕ → List ℕ
dos_system_content directory place unit =
    if place == 272 then marks_cleared directory.available unit
    else map (λ at. if root_at_byte directory place at then 0 else slice_index unit at) (range_with_len 0 256)

abbrev pub dos_meaning : Bool → List Bool → Meaning
dos_meaning data_disk reserved = record {
  unit_size = 256;
  Takes = λ places. places ≡ 560;
  Describes = DescribesDos data_disk reserved;
  HeaderFaultAt = DosHeaderFaultAt;
  pointers = λ part. dos_pointers part.kind;
  child = λ _ part unit i. dos_child part.kind part.file part.number unit i;
  rank = λ part. rank_of part.kind part.number;
  Ends = λ part rank. dos_ends part.kind part.number rank;
  depth = λ part. dos_depth part.kind part.number;
  CanName = λ _ place. CanNameDos place;
  HasSlot = HasDosSlot;
  with_pointer = dos_with_pointer;
  with_root = dos_with_root;
  with_free = dos_with_free;
  content = λ _ part unit. dos_content part.kind unit;
  system_content = dos_system_content;
}
