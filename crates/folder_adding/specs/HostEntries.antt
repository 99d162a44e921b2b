-- The entries of a folder of the host.
use Rattle.std.specs.Prelude.{ℕ, ◌&&◌, Bool, true, false, List, ◌++◌, Option, codes, string_bytes}
use Rattle.std.specs.List.{list_any, position}
use Rattle.std.specs.Str.{bytes_eq}
use Rattle.folder_adding.specs.declared.host_entry.HostEntry.{HostEntry}
use Rattle.folder_adding.specs.declared.host_entry.HostKind.{HostKind}
use Rattle.folder_adding.specs.declared.host_entry.HostKind.TheVariants.{File, Folder, Other}

-- an entry as contracts see it: the bytes of its path from the folder on, with `/` between its parts, and what it is
pub record EntryView : Type 0 where
  pub path : List ℕ
  pub kind : HostKind

abbrev pub entry_view : HostEntry → EntryView
entry_view entry = record { path = string_bytes entry.path; kind = entry.kind }

-- whether an entry is a file
abbrev pub is_file : HostKind → Bool
is_file File = true
is_file Folder = false
is_file Other = false

-- whether one of the entries is a file of this path
abbrev pub has_file : List EntryView → List ℕ → Bool
has_file entries path = list_any (λ entry. is_file entry.kind && bytes_eq path entry.path) entries

-- the path of the readable form of a file, which stands beside it
abbrev pub readable_path : List ℕ → List ℕ
readable_path path = path ++ codes ".utf8.txt"

-- whether a path is that of the readable form of a file that is one of the entries
abbrev pub has_file_beside : List EntryView → List ℕ → Bool
has_file_beside entries path =
    list_any (λ entry. is_file entry.kind && bytes_eq path (readable_path entry.path)) entries

-- whether an entry is a file that has the path of the readable form of the file of a path
abbrev pub stands_beside : List ℕ → EntryView → Bool
stands_beside path entry = is_file entry.kind && bytes_eq (readable_path path) entry.path

-- the number of the first such entry
abbrev pub second_at : List EntryView → List ℕ → Option ℕ
second_at entries path = position (stands_beside path) entries
