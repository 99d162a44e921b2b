-- A file as what its entry leads to, and a list of files in which one is rewritten.
use Rattle.std.specs.Prelude.{◌≡◌, ◌↔◌, ◌<◌, ℕ, List, [], AllPairs, Contains, slice_index_or, slice_set}
use Rattle.a2_device.specs.Device.{unit_at}
use Rattle.a2_device.specs.declared.part.Part.{Part}
use Rattle.a2_device.specs.declared.part.PartKind.TheVariants.{Body}
use Rattle.vol_format.specs.declared.link.Link.{Link}
use Rattle.vol_format.specs.Directory.{Listed}
use Rattle.vol_format.specs.Meaning.{Meaning}
use Rattle.vol_format.specs.Files.{Stored, File}
use Rattle.vol_laws.specs.PartsOf.{PartOf}

-- what a link leads to has a part of the body of this number, and this unit stands there
pub record HasUnit (format : Meaning) (store : List (List ℕ)) (root : Link) (stored : Stored) : Type 0 where
  pub part : Part
  pub reached : PartOf format store root part
  pub of_body : part.kind ≡ Body
  pub numbered : part.number ≡ stored.number
  pub stands : unit_at store part.place ≡ stored.unit

-- The file of an entry, from what the entry says and what it points to: the number of the entry is not asked for. It is
-- the file that `vol_format` has by that number.
pub record IsFileOf (format : Meaning) (store : List (List ℕ)) (entry : Listed) (file : File) : Type 0 where
  pub path : file.path ≡ entry.path
  pub bytes : file.bytes ≡ entry.bytes
  pub members : (stored : Stored) → Contains file.body stored ↔ HasUnit format store entry.root stored
  pub rising : AllPairs (λ (stored later : Stored). stored.number < later.number) file.body

abbrev pub no_file : File
no_file = record { path = []; bytes = []; body = [] }

-- number k of a list of files
abbrev pub file_of : List File → ℕ → File
file_of files k = slice_index_or files k no_file

-- a list of files with number k under this path and with these bytes, and with the body that it had
abbrev pub rewritten_files : List File → ℕ → List ℕ → List ℕ → List File
rewritten_files files k path bytes = slice_set files k (record (file_of files k) { path = path; bytes = bytes })
