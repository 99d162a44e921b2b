-- AppleSingle files, of version 2. (AppleSingle/AppleDouble Formats for Foreign Files: Developer's Note, Apple: the
-- header, its entries, and entry 11, ProDOS File Info.) All numbers have their high byte first.
use Rattle.std.specs.Prelude.{◌<◌, ℕ, ◌+◌, ◌/◌, ◌%◌, ◌^◌, List, [], ◌∷◌, ◌++◌, flat_map, length}
use Rattle.std.specs.Prelude.{slice_range}
use Rattle.apple_single.specs.declared.entries.Entry.{Entry}
use Rattle.apple_single.specs.declared.single.FileInfo.{FileInfo}

-- a number as two bytes
abbrev pub two_bytes : ℕ → List ℕ
two_bytes n = n / 256 ∷ n % 256 ∷ []

-- a number as four bytes
abbrev pub four_bytes : ℕ → List ℕ
four_bytes n = two_bytes (n / 65536) ++ two_bytes (n % 65536)

-- ---- the header

-- an entry: its ID, where its bytes begin, and how many they are
abbrev pub entry_bytes : Entry → List ℕ
entry_bytes entry = four_bytes entry.id ++ four_bytes entry.offset ++ four_bytes entry.size

-- what an entry can say: its numbers have four bytes
pub record IsEntry (entry : Entry) : Type 0 where
  pub id : entry.id < 2 ^ 32
  pub offset : entry.offset < 2 ^ 32
  pub size : entry.size < 2 ^ 32

abbrev pub magic_number : List ℕ
magic_number = 0x00 ∷ 0x05 ∷ 0x16 ∷ 0x00 ∷ []

abbrev pub version_2 : List ℕ
version_2 = 0x00 ∷ 0x02 ∷ 0x00 ∷ 0x00 ∷ []

-- the header: magic number, version, filler, how many entries, and the entries
abbrev pub header : List ℕ → List Entry → List ℕ
header filler entries =
    magic_number ++ version_2 ++ filler ++ two_bytes (length entries) ++ flat_map entry_bytes entries

-- ---- entries

-- the IDs
abbrev pub data_fork_id : ℕ
data_fork_id = 1

abbrev pub resource_fork_id : ℕ
resource_fork_id = 2

abbrev pub real_name_id : ℕ
real_name_id = 3

abbrev pub file_info_id : ℕ
file_info_id = 11

-- the bytes of an entry
abbrev pub part : List ℕ → Entry → List ℕ
part file entry = slice_range file entry.offset (entry.offset + entry.size)

-- the ProDOS file info: two bytes access, two type and four aux type
abbrev pub info_bytes : FileInfo → List ℕ
info_bytes info = two_bytes info.access ++ two_bytes info.file_type ++ four_bytes info.aux_type

-- what ProDOS can say of a file
pub record IsFileInfo (info : FileInfo) : Type 0 where
  pub access : info.access < 65536
  pub file_type : info.file_type < 256
  pub aux_type : info.aux_type < 65536
