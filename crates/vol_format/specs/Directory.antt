-- What the header, the directory and the map of a volume say.
use Rattle.std.specs.Prelude.{◌≡◌, ℕ, ◌/◌, Bool, true, false, not, List, [], length, map, filter, slice_index_or, slice_index, slice_set}
use Rattle.vol_format.specs.declared.link.Link.{Link}
use Rattle.vol_format.specs.declared.link.Link.TheVariants.{Null, Directory as ToDirectory, To}

-- An entry in use: the unit that has it and its slot there, the path of its file, its bytes without those of its
-- pointer, and what it points to.
pub record Listed : Type 0 where
  pub place : ℕ
  pub slot : ℕ
  pub path : List ℕ
  pub bytes : List ℕ
  pub root : Link

-- How many places the volume has; its name, for DOS 3.3 the one byte of its number; its entries in use, in directory
-- order; for each place whether it is one of the system's and whether it is marked free; the available places, in their
-- order; the places of the map's units, and how many places each unit of the map has.
pub record Directory : Type 0 where
  pub places : ℕ
  pub name : List ℕ
  pub listed : List Listed
  pub system : List Bool
  pub free : List Bool
  pub available : List ℕ
  pub map_units : List ℕ
  pub map_size : ℕ

-- how many entries are in use
abbrev pub entries : Directory → ℕ
entries directory = length directory.listed

abbrev pub no_entry : Listed
no_entry = record { place = 0; slot = 0; path = []; bytes = []; root = Null }

-- whether an entry is that of a directory, and the entries that are files'
abbrev pub leads_to_directory : Link → Bool
leads_to_directory ToDirectory = true
leads_to_directory link = false

abbrev pub is_directory : Listed → Bool
is_directory entry = leads_to_directory entry.root

abbrev pub files : Directory → List Listed
files directory = filter (λ (entry : Listed). not (is_directory entry)) directory.listed

-- an entry by its number
abbrev pub entry_of : Directory → ℕ → Listed
entry_of directory file = slice_index_or directory.listed file no_entry

-- what it points to
abbrev pub root_of : Directory → ℕ → Link
root_of directory file = (entry_of directory file).root

-- what is past the last place is the system's
abbrev pub is_system : Directory → ℕ → Bool
is_system directory place = slice_index_or directory.system place true

abbrev pub is_free : Directory → ℕ → Bool
is_free directory place = slice_index_or directory.free place false

-- the unit of the map that has the mark of a place
abbrev pub map_place : Directory → ℕ → ℕ
map_place directory place = slice_index directory.map_units (place / directory.map_size)

-- a link, and an entry, without the place of the part that it names
abbrev pub unplaced : Link → Link
unplaced (To part) = To (record part { place = 0 })
unplaced link = link

-- a directory without the places that its entries point to and without what is marked free
abbrev pub frame_of : Directory → Directory
frame_of directory = record directory {
  listed = map (λ (entry : Listed). record entry { root = unplaced entry.root }) directory.listed;
  free = [];
}

-- two directories that differ in these alone
abbrev pub IsSameFrame : Directory → Directory → Type 0
IsSameFrame before after = frame_of after ≡ frame_of before

-- a directory with one entry pointing to something else
abbrev pub turned : Directory → ℕ → Link → Directory
turned directory file root = record directory {
  listed = slice_set directory.listed file (record (entry_of directory file) { root = root });
}

-- a directory with one place marked free or used
abbrev pub remapped : Directory → ℕ → Bool → Directory
remapped directory place free = record directory { free = slice_set directory.free place free }
