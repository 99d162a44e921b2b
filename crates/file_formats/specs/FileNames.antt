-- How a file of a volume is named.
use Rattle.std.specs.Prelude.{ℕ, List}
use Rattle.file_formats.specs.declared.file_name.FileName.{FileName}
use Rattle.file_formats.specs.declared.file_name.FileName.TheVariants as names

-- a name, as contracts see it: a path as it is given, or the bytes of the path that is stored
pub data FileNameView : Type 0 where
  GivenPath : List ℕ → FileNameView
  StoredPath : List ℕ → FileNameView

abbrev pub name_view : FileName → FileNameView
name_view (names.Path path) = GivenPath path.now
name_view (names.Stored bytes) = StoredPath bytes.now
