-- Files of a volume that are to be taken by their paths, found by short keys of these.
use Rattle.std.specs.Prelude.{◌≡◌, ◌<◌, ◌≤◌, ◌+◌, ◌^◌, ℕ, Bool, true, false, List, Option, Some, None, length, take, slice_index, slice_index_or, slice_set}
use Rattle.std.specs.List.{Contains}
use Rattle.std.specs.Int.{from_be_bytes, w64}
use Rattle.sha2.specs.Sha256.{sha256}
use Rattle.volume_compare.specs.Pairs.{path_at, taken_at}
use Rattle.volume_compare.specs.declared.keys.Key.{Key}

-- a short key of a path: the first eight bytes of its SHA-256; paths that differ may have one
abbrev pub hash_of : List ℕ → ℕ
hash_of path = from_be_bytes w64 (take 8 (sha256 path))

abbrev pub no_key : Key
no_key = record { hash = 0; file = 0 }

abbrev pub key_at : List Key → ℕ → Key
key_at keys place = slice_index_or keys place no_key

-- that of a file with a path
abbrev pub key_of : List ℕ → ℕ → Key
key_of path file = record { hash = hash_of path; file = file }

-- a key is that of a file
abbrev pub IsKey : List (Option (List ℕ)) → Key → Type 0
IsKey paths key = (path : List ℕ) × (path_at paths key.file ≡ Some path) × (key.hash ≡ hash_of path)

-- each key is that of a file, and each file of the first entries has one
pub record AreKeysUpTo (paths : List (Option (List ℕ))) (many : ℕ) (keys : List Key) : Type 0 where
  pub short : length keys ≤ many
  pub each : (key : Key) → Contains keys key → IsKey paths key
  pub all : (file : ℕ) (path : List ℕ) → file < many → path_at paths file ≡ Some path → Contains keys (key_of path file)

-- Keys stand in rising order, those of one hash in the order of their files.
pub record AreRising (keys : List Key) : Type 0 where
  pub hashes : (place later : ℕ) → place ≤ later → later < length keys
      → (key_at keys place).hash ≤ (key_at keys later).hash
  pub files : (place later : ℕ) → place ≤ later → later < length keys
      → (key_at keys place).hash ≡ (key_at keys later).hash
      → (key_at keys place).file ≤ (key_at keys later).file

-- Of each key it is known of how many keys from it on the files are taken.
pub record AreFronts (keys : List Key) (fronts : List ℕ) (taken : List Bool) : Type 0 where
  pub long : length fronts ≡ length keys
  pub each : (place behind : ℕ) → place < length keys → behind < slice_index fronts place
      → (place + behind < length keys) × (taken_at taken (key_at keys (place + behind)).file ≡ true)

-- the keys of all files, in rising order, and what is known of how many are taken
pub record AreCandidates (paths : List (Option (List ℕ))) (keys : List Key) (fronts : List ℕ)
    (taken : List Bool) : Type 0 where
  pub few : length paths < 2 ^ 32
  pub long : length taken ≡ length paths
  pub are_keys : AreKeysUpTo paths (length paths) keys
  pub rising : AreRising keys
  pub are_fronts : AreFronts keys fronts taken

-- the first file with a path that is not taken
pub record IsFirstFree (paths : List (Option (List ℕ))) (taken : List Bool) (path : List ℕ) (file : ℕ) : Type 0 where
  pub of_path : path_at paths file ≡ Some path
  pub free : taken_at taken file ≡ false
  pub first : (earlier : ℕ) → earlier < file → path_at paths earlier ≡ Some path → taken_at taken earlier ≡ true

-- each file with a path is taken
abbrev pub HasNoneFree : List (Option (List ℕ)) → List Bool → List ℕ → Type 0
HasNoneFree paths taken path = (file : ℕ) → path_at paths file ≡ Some path → taken_at taken file ≡ true

-- which files are taken when this one is too
abbrev pub with_taken : List Bool → Option ℕ → List Bool
with_taken taken None = taken
with_taken taken (Some file) = slice_set taken file true

-- ---- how one is found

-- all keys of a hash stand between these places
pub record IsRun (keys : List Key) (hash start end : ℕ) : Type 0 where
  pub begun : start ≤ length keys
  pub ended : end ≤ length keys
  pub all : (place : ℕ) → place < length keys → (key_at keys place).hash ≡ hash → (start ≤ place) × (place < end)

-- none of the first keys is that of a free file with a path
abbrev pub NoneFreeIn : List (Option (List ℕ)) → List Bool → List ℕ → List Key → ℕ → Type 0
NoneFreeIn paths taken path keys many = (place : ℕ) → place < many
    → path_at paths (key_at keys place).file ≡ Some path → taken_at taken (key_at keys place).file ≡ true

-- the first key that is that of a free file with a path
pub record IsFreeAt (paths : List (Option (List ℕ))) (taken : List Bool) (path : List ℕ) (keys : List Key)
    (place : ℕ) : Type 0 where
  pub inside : place < length keys
  pub of_path : path_at paths (key_at keys place).file ≡ Some path
  pub free : taken_at taken (key_at keys place).file ≡ false
  pub first : NoneFreeIn paths taken path keys place

-- the key of the first free file with a path, in the run of its hash
pub record IsFirstFreeIn (paths : List (Option (List ℕ))) (taken : List Bool) (path : List ℕ) (keys : List Key)
    (start place : ℕ) : Type 0 where
  pub start_inside : start < length keys
  pub inside : place < length keys
  pub is_first : IsFirstFree paths taken path (key_at keys place).file
