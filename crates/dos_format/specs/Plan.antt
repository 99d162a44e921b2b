-- The plan of a new file: its track/sector lists first, then the units of its body (Beneath Apple DOS, chapter 4).
use Rattle.std.specs.Prelude.{◌≡◌, ◌≢◌, ◌⊎◌, ◌<◌, ◌≤◌, ℕ, ◌+◌, ◌*◌, ◌/◌, ◌%◌, List, length, slice_index}
use Rattle.a2_device.specs.declared.part.PartKind.TheVariants.{List as AList, Body}
use Rattle.dos_tslist.specs.Pointers.{pair_offset, link_offset}
use Rattle.dos_format.specs.Dos.{CanNameDos}
use Rattle.vol_laws.specs.Built.{Planned, part_of, place_of, unit_of}

-- a track and a sector stand at a byte of a unit
abbrev pub NamesAt : List ℕ → ℕ → ℕ → Type 0
NamesAt unit at place = (slice_index unit at ≡ place / 16) × (slice_index unit (at + 1) ≡ place % 16)

-- The unit of list n of a plan that begins with so many lists, with the pairs of those of its first `upto` parts that
-- are of the body: each of them that is of list n is named by its pair, and each other pair names nothing.
pub record HasPairs (count : ℕ) (planned : List Planned) (n upto : ℕ) (unit : List ℕ) : Type 0 where
  pub pairs : (i : ℕ) → i < 122
      → (slice_index unit (pair_offset i) ≡ 0)
      ⊎ ((m : ℕ) × (count ≤ m) × (m < upto) × ((part_of planned m).number ≡ 122 * n + i)
      × NamesAt unit (pair_offset i) (place_of planned m))
  pub each : (m : ℕ) → count ≤ m → m < upto → (part_of planned m).number / 122 ≡ n
      → NamesAt unit (pair_offset ((part_of planned m).number % 122)) (place_of planned m)

-- its link names the next list, and in the last list nothing
pub record HasLink (count : ℕ) (planned : List Planned) (n : ℕ) (unit : List ℕ) : Type 0 where
  pub next : n + 1 < count → NamesAt unit link_offset (place_of planned (n + 1))
  pub last : n + 1 ≡ count → slice_index unit link_offset ≡ 0

-- Of the parts of a file those before `count` are its lists, in the order of their numbers, and the others are units of
-- its body, each of one of these lists. Pointers can name their places, no two of which are the same; and the unit of
-- each list has its pairs and its link.
pub record IsDosPlan (file count : ℕ) (planned : List Planned) : Type 0 where
  pub has_list : 0 < count
  pub enough : count ≤ length planned
  pub in_file : (k : ℕ) → k < length planned → (part_of planned k).file ≡ file
  pub lists : (k : ℕ) → k < count → ((part_of planned k).kind ≡ AList) × ((part_of planned k).number ≡ k)
  pub body : (k : ℕ) → count ≤ k → k < length planned
      → ((part_of planned k).kind ≡ Body) × ((part_of planned k).number / 122 < count)
  pub named : (k : ℕ) → k < length planned → CanNameDos (place_of planned k)
  pub once : (j k : ℕ) → j < k → k < length planned → place_of planned j ≢ place_of planned k
  pub pairs : (n : ℕ) → n < count → HasPairs count planned n (length planned) (unit_of planned n)
  pub link : (n : ℕ) → n < count → HasLink count planned n (unit_of planned n)

-- two plans have the same parts, whatever units are built for them
abbrev pub HaveSameParts : List Planned → List Planned → Type 0
HaveSameParts planned other = (k : ℕ) → part_of other k ≡ part_of planned k
