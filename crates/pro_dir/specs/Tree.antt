-- The directories of a volume, as they stand in a store (ProDOS 8 Technical Reference Manual, Appendix B).
use Rattle.std.specs.Prelude.{◌≡◌, ◌≢◌, ◌⊎◌, ◌<◌, ◌≤◌, ℕ, ◌/◌, Bool, true, false, List, [], ◌∷◌, ◌++◌, length, slice_index, AllPairs, Contains}
use Rattle.a2_device.specs.Device.{unit_at}
use Rattle.a2_device.specs.declared.fault.Fault.{Fault}
use Rattle.a2_device.specs.declared.fault.Fault.TheVariants.{Geometry, DirLink}
use Rattle.pro_dir.specs.declared.entry.Entry.{Entry}
use Rattle.pro_dir.specs.Entry.{word, entries_in, is_directory, key_of}

-- the next block of a directory, where 0 is the end
abbrev pub next_of : List ℕ → ℕ
next_of unit = word unit 2

-- a block that a link can name
abbrev pub CanLink : List (List ℕ) → ℕ → Type 0
CanLink store block = (2 ≤ block) × (block < length store)

-- from one block, the links lead over these blocks to the last of them
abbrev pub Leads : List (List ℕ) → ℕ → List ℕ → ℕ → Type 0
Leads store from [] last = last ≡ from
Leads store from (block ∷ rest) last =
    CanLink store block × (block ≡ next_of (unit_at store from)) × Leads store block rest last

-- the blocks of the directory with a key block: the links lead from it over the others to one that has no link
pub record IsRun (store : List (List ℕ)) (key : ℕ) (blocks : List ℕ) : Type 0 where
  pub rest : List ℕ
  pub last : ℕ
  pub is : blocks ≡ key ∷ rest
  pub can_link : CanLink store key
  pub leads : Leads store key rest last
  pub ends : next_of (unit_at store last) ≡ 0

-- a header of a type, F for the volume's directory and E for the others, and its entry length and entries per block
abbrev pub HasKind : ℕ → List ℕ → Type 0
HasKind kind unit = slice_index unit 0x04 / 16 ≡ kind

abbrev pub HasSizes : List ℕ → Type 0
HasSizes unit = (slice_index unit 0x23 ≡ 39) × (slice_index unit 0x24 ≡ 13)

-- a directory of a type
pub record IsDirectory (store : List (List ℕ)) (kind key : ℕ) (blocks : List ℕ) : Type 0 where
  pub run : IsRun store key blocks
  pub kind_is : HasKind kind (unit_at store key)
  pub sizes : HasSizes (unit_at store key)

-- the blocks that an entry has of its own: a subdirectory's, or none
abbrev pub HasBlocks : Bool → List (List ℕ) → ℕ → List ℕ → Type 0
HasBlocks true store key blocks = IsDirectory store 0x0e key blocks
HasBlocks false store key blocks = blocks ≡ []

-- What is listed from some entries on, with the blocks of the subdirectories: each entry, then what it has in blocks of
-- its own, then the entries after it; `rest` is what is still to be listed.
abbrev pub Lists : List (List ℕ) → List Entry → List Entry → List ℕ → List Entry → Type 0
Lists store from [] blocks rest = (from ≡ rest) × (blocks ≡ [])
Lists store from (entry ∷ entries) blocks rest =
    (others : List Entry) × (own : List ℕ) × (later : List ℕ) × (from ≡ entry ∷ others) × (blocks ≡ own ++ later)
    × HasBlocks (is_directory entry) store (key_of entry) own
    × Lists store (entries_in store (key_of entry) own ++ others) entries later rest

-- the tree of directories from block 2 on: its blocks and its entries, as far as to `rest`
pub record IsListed (store : List (List ℕ)) (blocks : List ℕ) (entries rest : List Entry) : Type 0 where
  pub own : List ℕ
  pub later : List ℕ
  pub is : blocks ≡ own ++ later
  pub volume : IsDirectory store 0x0f 2 own
  pub lists : Lists store (entries_in store 2 own) entries later rest

-- the whole tree, with no block twice
pub record IsTree (store : List (List ℕ)) (blocks : List ℕ) (entries : List Entry) : Type 0 where
  pub listed : IsListed store blocks entries []
  pub once : AllPairs (λ block later. block ≢ later) blocks

-- the links lead from a key block to one whose link is to no block, or to one that was met
pub record HasBadLink (store : List (List ℕ)) (before : List ℕ) (key holder : ℕ) : Type 0 where
  pub rest : List ℕ
  pub leads : Leads store key rest holder
  pub linked_on : next_of (unit_at store holder) ≢ 0
  pub bad : (¬ CanLink store (next_of (unit_at store holder)))
      ⊎ Contains (before ++ key ∷ rest) (next_of (unit_at store holder))

-- What is wrong with the subdirectory that an entry in the block `holder` names, where some blocks were met before: its
-- key block is none or was met, or has no header of a subdirectory; or the header has other sizes; or a link is bad.
abbrev pub SubdirectoryFaultAt : List (List ℕ) → List ℕ → ℕ → ℕ → Fault → Type 0
SubdirectoryFaultAt store before holder key (DirLink place) =
    ((place ≡ holder) × ((¬ CanLink store key) ⊎ Contains before key ⊎ ¬ HasKind 0x0e (unit_at store key)))
    ⊎ (CanLink store key × HasKind 0x0e (unit_at store key) × HasSizes (unit_at store key)
    × HasBadLink store before key place)
SubdirectoryFaultAt store before holder key (Geometry place) =
    (place ≡ key) × CanLink store key × HasKind 0x0e (unit_at store key) × ¬ HasSizes (unit_at store key)
SubdirectoryFaultAt store before holder key fault = ⊥

-- the tree is listed so far, and the next entry is of a subdirectory with a fault
pub record IsCutOff (store : List (List ℕ)) (fault : Fault) : Type 0 where
  pub blocks : List ℕ
  pub entries : List Entry
  pub entry : Entry
  pub others : List Entry
  pub listed : IsListed store blocks entries (entry ∷ others)
  pub subdirectory : is_directory entry ≡ true
  pub faulty : SubdirectoryFaultAt store blocks entry.place (key_of entry) fault

-- the volume directory has a bad link, or a subdirectory has this fault
abbrev pub TreeFaultAt : List (List ℕ) → Fault → Type 0
TreeFaultAt store fault = ((holder : ℕ) × (fault ≡ DirLink holder) × HasBadLink store [] 2 holder)
    ⊎ IsCutOff store fault
