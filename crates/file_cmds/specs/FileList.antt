-- What a read answers, by the list of the files of a volume.
use Rattle.std.specs.Prelude.{◌≡◌, ℕ, Bool, List, filter, Some, slice_get}
use Rattle.vol_format.specs.Files.{File}
use Rattle.file_formats.specs.FileNames.{FileNameView}
use Rattle.file_formats.specs.Files.{FileMeaning}
use Rattle.file_cmds.specs.Text.{text_of}

-- the files of a list with a name
abbrev pub named_files : FileMeaning → FileNameView → List File → List File
named_files meaning name files = filter (λ file. meaning.matches name file.path) files

-- the text of the first file of a list with a name
pub record IsTextOfFirst (meaning : FileMeaning) (unit_size : ℕ) (files : List File) (name : FileNameView)
    (whole : Bool) (text : List ℕ) : Type 0 where
  pub file : File
  pub first : slice_get (named_files meaning name files) 0 ≡ Some file
  pub is : text ≡ text_of meaning unit_size whole file.bytes file.body
