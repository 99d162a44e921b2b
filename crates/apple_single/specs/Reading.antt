-- What the readers of a file answer.
use Rattle.std.specs.Prelude.{◌≡◌, ◌≢◌, ℕ, List, ◌++◌, All, Contains, flat_map, length}
use Rattle.apple_single.specs.declared.entries.Entry.{Entry}
use Rattle.apple_single.specs.Format.{entry_bytes, magic_number, two_bytes, version_2}

-- the bytes are those of these entries
pub record IsTable (table : List ℕ) (entries : List Entry) : Type 0 where
  pub bytes : table ≡ flat_map entry_bytes entries

-- the file begins as AppleSingle files do, says that it has so many entries, and these bytes stand behind that
pub record IsCounted (file : List ℕ) (count : ℕ) (rest : List ℕ) : Type 0 where
  pub filler : List ℕ
  pub filler_size : length filler ≡ 16
  pub bytes : file ≡ magic_number ++ version_2 ++ filler ++ two_bytes count ++ rest

abbrev pub IsNotCounted : List ℕ → Type 0
IsNotCounted file = (count : ℕ) (rest : List ℕ) → ¬ IsCounted file count rest

-- an entry of that ID is listed
pub record IsListed (entries : List Entry) (id : ℕ) (entry : Entry) : Type 0 where
  pub listed : Contains entries entry
  pub of_id : entry.id ≡ id

-- no entry has that ID
abbrev pub HasNone : List Entry → ℕ → Type 0
HasNone entries id = All (λ entry. entry.id ≢ id) entries
