use Rattle.std.proofs.Common.{◌≡◌, List, map, ℕ, take}
use Rattle.std.specs.HashSet.{contains_by}
use Rattle.std.specs.Str.{bytes_eq}
use Rattle.folder_adding.specs.HostEntries.{entry_view, has_file}
use Rattle.folder_adding.proofs.beside.file_paths.Given as goal

-- the paths of the files among the entries so far
abbrev pub invariant-loop-entry : goal.invariant-loop-entry
invariant-loop-entry l = (path : List ℕ)
    → contains_by (λ file. bytes_eq path file.now) l.paths ≡ has_file (map entry_view (take l.entry-index l.entries)) path
