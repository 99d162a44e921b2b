-- A directory with one entry more, after which the files from there on have numbers one higher; or with one entry
-- rewritten.
use Rattle.std.specs.Prelude.{ℕ, ◌+◌, ◌==◌, not, length, suc, zero, nat_lt, if◌then◌else◌, List, [], ◌∷◌, map, filter, take, slice_set}
use Rattle.a2_device.specs.declared.part.Part.{Part}
use Rattle.vol_format.specs.declared.link.Link.{Link}
use Rattle.vol_format.specs.declared.link.Link.TheVariants.{Null, Wild, Directory as ToDirectory, OtherType, To}
use Rattle.vol_format.specs.Directory.{Directory, Listed, entry_of, is_directory}

-- a list with an element at an index, before what stood there
abbrev pub insert_at : {X : Type 0} → ℕ → X → List X → List X
insert_at zero x xs = x ∷ xs
insert_at (suc i) x [] = x ∷ []
insert_at (suc i) x (y ∷ ys) = y ∷ insert_at i x ys

-- the number of a file once another is entered at an index
abbrev pub shifted : ℕ → ℕ → ℕ
shifted at file = if nat_lt file at then file else (file + 1)

-- a part as one of the file with a number, and a link
abbrev pub in_file : Part → ℕ → Part
in_file part file = record part { file = file }

abbrev pub refiled : ℕ → Link → Link
refiled file (To part) = To (in_file part file)
refiled file Null = Null
refiled file Wild = Wild
refiled file ToDirectory = ToDirectory
refiled file OtherType = OtherType

abbrev pub shifted_part : ℕ → Part → Part
shifted_part at part = in_file part (shifted at part.file)

abbrev pub shifted_link : ℕ → Link → Link
shifted_link at (To part) = To (shifted_part at part)
shifted_link at Null = Null
shifted_link at Wild = Wild
shifted_link at ToDirectory = ToDirectory
shifted_link at OtherType = OtherType

abbrev pub shifted_entry : ℕ → Listed → Listed
shifted_entry at entry = record entry { root = shifted_link at entry.root }

-- A directory with an entry at an index. Read backwards it is one with that entry taken out.
abbrev pub inserted : Directory → ℕ → Listed → Directory
inserted directory at entry = record directory { listed = insert_at at entry (map (shifted_entry at) directory.listed) }

-- a directory with one entry under this path and with these bytes, pointing to what it pointed to
abbrev pub rewritten : Directory → ℕ → List ℕ → List ℕ → Directory
rewritten directory file path bytes =
    record directory {
      listed = slice_set directory.listed file (record (entry_of directory file) { path = path; bytes = bytes });
    }

-- how many of the entries before an index are files'
abbrev pub files_before : Directory → ℕ → ℕ
files_before directory at = length (filter (λ (entry : Listed). not (is_directory entry)) (take at directory.listed))

-- where an element stands in the lists of some places, one after another, that is number k of the list of one of them
abbrev pub index_in_all : {X : Type 0} → (ℕ → List X) → List ℕ → ℕ → ℕ → ℕ
index_in_all f [] place k = 0
index_in_all f (first ∷ rest) place k = if first == place then k else (length (f first) + index_in_all f rest place k)
