-- What is known at each moment of a walk over the directories.
use Rattle.std.specs.Prelude.{◌≡◌, ◌≢◌, ◌⊎◌, ◌≤◌, ◌<◌, ◌==◌, ℕ, ◌+◌, ◌-◌, ◌*◌, Bool, true, false, not, List, [], ◌∷◌, ◌++◌, Option, Some, None, length, count_by, filter, flat_map, map, option_map, reverse, find, slice_index_or, slice_get, sum_by, AllPairs, Contains}
use Rattle.std.specs.List.{range_with_len}
use Rattle.a2_device.specs.Device.{unit_at}
use Rattle.pro_dir.specs.declared.entry.Entry.{Entry}
use Rattle.pro_dir.specs.declared.reading.FreeSlot.{FreeSlot}
use Rattle.pro_dir.specs.declared.waiting.Waiting.{Waiting}
use Rattle.pro_dir.specs.Entry.{entry_at, is_inactive, is_listed, is_directory, key_of, free_slots_in}
use Rattle.pro_dir.specs.Tree.{CanLink, HasKind, HasSizes, Leads, IsRun, IsListed}

-- whether a block was met
abbrev pub is_met : List Bool → ℕ → Bool
is_met met block = slice_index_or met block false

-- the table has the blocks so far, each once
pub record IsTable (places : ℕ) (met : List Bool) (blocks : List ℕ) : Type 0 where
  pub size : length met ≡ places
  pub has : (block : ℕ) → is_met met block ≡ true → Contains blocks block
  pub all : (block : ℕ) → Contains blocks block → is_met met block ≡ true
  pub once : AllPairs (λ block later. block ≢ later) blocks
  pub low : (block : ℕ) → Contains blocks block → 2 ≤ block

-- the entries of a block of a directory from a slot on
unfoldable pub entries_from : ℕ → ℕ → List ℕ → ℕ → List Entry
entries_from directory place unit slot =
    filter is_listed (map (entry_at directory place unit) (range_with_len slot (13 - slot)))

-- the entries of slots that wait, and of all that wait, the next of them in the last
abbrev pub waiting_in : List (List ℕ) → Waiting → List Entry
waiting_in store slots = entries_from slots.directory slots.place (unit_at store slots.place) slots.slot

abbrev pub all_waiting : List (List ℕ) → List Waiting → List Entry
all_waiting store pending = flat_map (waiting_in store) (reverse pending)

-- all slots of a block of a directory
abbrev pub whole_block : ℕ → ℕ → Waiting
whole_block directory place = record { directory = directory; place = place; slot = 0 }

-- There is as much to do: a block that is met takes the place of fourteen, of which slots that wait have those from
-- theirs on.
abbrev pub left_in : Waiting → ℕ
left_in slots = 14 - slots.slot

abbrev pub work : List Bool → List Waiting → ℕ
work met pending = 14 * count_by not met + sum_by left_in pending

-- as many blocks more were met as there are in the list
pub record HasMetMore (met marks : List Bool) (blocks more : List ℕ) : Type 0 where
  pub unmet : count_by not marks + length more ≡ count_by not met + length blocks
  pub longer : length blocks ≤ length more

-- the listing of slots has stopped at an entry of a subdirectory
pub record IsStop (slots : Waiting) (unit : List ℕ) (entry : Entry) : Type 0 where
  pub slot_from : slots.slot ≤ entry.slot
  pub slot : entry.slot < 13
  pub is : entry ≡ entry_at slots.directory slots.place unit entry.slot
  pub directory : is_directory entry ≡ true

-- what is left of the slots where their listing has stopped
abbrev pub left_behind : Waiting → List ℕ → Option Entry → List Entry
left_behind slots unit None = []
left_behind slots unit (Some entry) = entry ∷ entries_from slots.directory slots.place unit (entry.slot + 1)

-- no more entries were listed than slots are done with
abbrev pub FewListed : Waiting → List Entry → List Entry → Option Entry → Type 0
FewListed slots old new None = length new + slots.slot ≤ length old + 13
FewListed slots old new (Some entry) = length new + slots.slot ≤ length old + entry.slot

-- the first slot of one block that has no entry
unfoldable pub first_free_of : ℕ → ℕ → List ℕ → Option (ℕ × ℕ)
first_free_of directory place unit =
    option_map (λ slot. (place, slot))
    (find (λ slot. is_inactive (entry_at directory place unit slot)) (range_with_len 0 13))

-- a directory is read up to the holder, whose unit is at hand, with its first slot that has no entry
pub record IsFollowing (store : List (List ℕ)) (key : ℕ) (before blocks : List ℕ) (free : Option (ℕ × ℕ)) (holder : ℕ)
    (unit : List ℕ) : Type 0 where
  pub rest : List ℕ
  pub is : blocks ≡ before ++ key ∷ rest
  pub can_link : CanLink store key
  pub leads : Leads store key rest holder
  pub here : unit ≡ unit_at store holder
  pub first : free ≡ slice_get (free_slots_in store key (key ∷ rest)) 0

-- a directory was read to its end
pub record IsReadOut (store : List (List ℕ)) (key : ℕ) (before blocks : List ℕ) (free : Option (ℕ × ℕ)) : Type 0 where
  pub own : List ℕ
  pub run : IsRun store key own
  pub is : blocks ≡ before ++ own
  pub first : free ≡ slice_get (free_slots_in store key own) 0

-- the slot that a directory has, if it has one
abbrev pub kept_slots : ℕ → Option (ℕ × ℕ) → List FreeSlot
kept_slots key None = []
kept_slots key (Some slot) = record { directory = key; place = slot.0; number = slot.1 } ∷ []

-- a block is the key block of a directory that some entries name, or of the volume's
abbrev pub IsKeyOf : List Entry → ℕ → Type 0
IsKeyOf entries key = (key ≡ 2)
    ⊎ ((entry : Entry) × Contains entries entry × (is_directory entry ≡ true) × (key_of entry ≡ key))

-- the slot that is kept for a directory
abbrev pub kept_for : List FreeSlot → ℕ → Option (ℕ × ℕ)
kept_for free key = option_map (λ (slot : FreeSlot). (slot.place, slot.number))
    (find (λ (slot : FreeSlot). slot.directory == key) free)

-- for each directory so far its first slot without an entry is kept, if it has one
pub record KeepsFree (store : List (List ℕ)) (blocks : List ℕ) (entries : List Entry)
    (free : List FreeSlot) : Type 0 where
  pub named : (slot : FreeSlot) → Contains free slot → Contains blocks slot.directory
  pub keys : (key : ℕ) → IsKeyOf entries key → Contains blocks key
  pub first : (key : ℕ) (own : List ℕ) → IsKeyOf entries key → IsRun store key own
      → kept_for free key ≡ slice_get (free_slots_in store key own) 0

-- the tree is listed up to what waits, the next of it last
pub record IsListing (store : List (List ℕ)) (blocks : List ℕ) (entries rest : List Entry)
    (free : List FreeSlot) : Type 0 where
  pub listed : IsListed store blocks entries rest
  pub keeps : KeepsFree store blocks entries free

-- the unit at hand is the key block of the volume's directory, with its header
pub record IsVolumeKey (store : List (List ℕ)) (unit : List ℕ) : Type 0 where
  pub here : unit ≡ unit_at store 2
  pub kind_is : HasKind 0x0f unit
  pub sizes : HasSizes unit
