-- One file of a volume, as if no other were there and each place were available.
use Rattle.std.specs.Prelude.{ℕ, ◌==◌, if◌then◌else◌, false, List, [], map, replicate}
use Rattle.std.specs.List.{range_with_len}
use Rattle.vol_format.specs.declared.link.Link.TheVariants.{Null}
use Rattle.vol_format.specs.Directory.{Directory, Listed, entries, entry_of}

-- an entry by its number, pointing to nothing if it is another file's
abbrev pub entry_alone : Directory → ℕ → ℕ → Listed
entry_alone directory file entry =
    if entry == file then entry_of directory entry else record (entry_of directory entry) { root = Null }

unfoldable pub entries_alone : Directory → ℕ → List Listed
entries_alone directory file = map (entry_alone directory file) (range_with_len 0 (entries directory))

-- the directory with this file alone: no place is the system's, and none is marked free
abbrev pub file_alone : Directory → ℕ → Directory
file_alone directory file = record directory {
  listed = entries_alone directory file;
  system = replicate directory.places false;
  free = [];
  available = range_with_len 0 directory.places;
}
