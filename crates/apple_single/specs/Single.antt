-- The AppleSingle files that are read: those that keep a file of the Apple II whole, but for its name.
use Rattle.std.specs.Prelude.{◌≡◌, ◌≢◌, ◌≤◌, ℕ, ◌+◌, List, ◌++◌, Option, Some, None, All, AllPairs, Contains, length}
use Rattle.apple_single.specs.declared.entries.Entry.{Entry}
use Rattle.apple_single.specs.declared.single.FileInfo.{FileInfo}
use Rattle.apple_single.specs.Format.{IsEntry, IsFileInfo, data_fork_id, file_info_id, header, info_bytes, part}
use Rattle.apple_single.specs.Format.{resource_fork_id}

-- the file begins with a header that has these entries, 64 at most, and anything as its 16 bytes of filler
pub record IsHeader (file : List ℕ) (entries : List Entry) : Type 0 where
  pub filler : List ℕ
  pub behind : List ℕ
  pub filler_size : length filler ≡ 16
  pub few : length entries ≤ 64
  pub numbers : All IsEntry entries
  pub bytes : file ≡ header filler entries ++ behind

-- an entry that lies within the file, and is no resource fork with bytes in it
pub record IsSound (file : List ℕ) (entry : Entry) : Type 0 where
  pub within : entry.offset + entry.size ≤ length file
  pub no_resources : entry.id ≡ resource_fork_id → entry.size ≡ 0

-- each entry is sound, and no ID stands there twice
pub record AreSound (file : List ℕ) (entries : List Entry) : Type 0 where
  pub each : All (IsSound file) entries
  pub once : AllPairs (λ entry later. entry.id ≢ later.id) entries

-- an entry of that ID has these bytes
pub record IsPart (file : List ℕ) (entries : List Entry) (id : ℕ) (bytes : List ℕ) : Type 0 where
  pub entry : Entry
  pub listed : Contains entries entry
  pub of_id : entry.id ≡ id
  pub bytes_are : bytes ≡ part file entry

-- the bytes, 8 or more, begin with this file info
pub record IsInfo (bytes : List ℕ) (info : FileInfo) : Type 0 where
  pub behind : List ℕ
  pub is_info : IsFileInfo info
  pub split : bytes ≡ info_bytes info ++ behind

-- no entry is the file info, or this is what it says
abbrev pub IsInfoOf : List ℕ → List Entry → Option FileInfo → Type 0
IsInfoOf file entries None = All (λ entry. entry.id ≢ file_info_id) entries
IsInfoOf file entries (Some info) = (bytes : List ℕ) × IsPart file entries file_info_id bytes × IsInfo bytes info

-- the file keeps a file of the Apple II with this file info, where it has any, and with this data fork
pub record IsSingle (file : List ℕ) (info : Option FileInfo) (fork : List ℕ) : Type 0 where
  pub entries : List Entry
  pub begins : IsHeader file entries
  pub sound : AreSound file entries
  pub data_fork : IsPart file entries data_fork_id fork
  pub file_info : IsInfoOf file entries info

-- a file that can be read
abbrev pub CanBeRead : List ℕ → Type 0
CanBeRead file = (info : Option FileInfo) × (fork : List ℕ) × IsSingle file info fork
