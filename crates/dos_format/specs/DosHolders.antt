-- Which list names a part, and with which of its pointers.
use Rattle.std.specs.Prelude.{◌≡◌, ◌≢◌, ◌<◌, ℕ, ◌%◌, List, slice_index_or}
use Rattle.a2_device.specs.declared.part.Part.{Part}
use Rattle.a2_device.specs.declared.part.PartKind.{PartKind}
use Rattle.a2_device.specs.declared.part.PartKind.TheVariants.{List as AList}
use Rattle.vol_format.specs.Standing.{no_part}

abbrev pub part_of : List Part → ℕ → Part
part_of parts k = slice_index_or parts k no_part

-- A list before part k, of the same file, with no list between the two. In the order of a file's parts a list comes
-- before the units that its pairs name, and these before the list that its link names: so this is the list that names
-- part k.
pub record IsListBefore (parts : List Part) (k list : ℕ) : Type 0 where
  pub before : list < k
  pub kind : (part_of parts list).kind ≡ AList
  pub file : (part_of parts list).file ≡ (part_of parts k).file
  pub nearest : (between : ℕ) → list < between → between < k → (part_of parts between).kind ≢ AList

-- the pointer of a list that names a part: a list is named by the link
abbrev pub dos_slot : PartKind → ℕ → ℕ
dos_slot AList number = 122
dos_slot kind number = number % 122
