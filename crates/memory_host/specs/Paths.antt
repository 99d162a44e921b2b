-- Paths of a host in memory: the folder of the program is the root.
use Rattle.std.specs.Prelude.{[], ◌++◌, codes, drop, bytes_eq, if◌then◌else◌, slice_index, ◌==◌, nat_eq}
use Rattle.std.specs.List.{starts_with}
use Rattle.std.specs.Path.{slash}
use Rattle.shop_host.specs.State.{Path}

-- a path without what says that it begins in the folder of the program
abbrev pub without_dot : Path → Path
without_dot path = if bytes_eq path (codes ".") then []
    else (if starts_with nat_eq path (codes "./") then drop 2 path else path)

-- a path from the root on
abbrev pub rooted : Path → Path
rooted path = if slice_index path 0 == slash then path else codes "/" ++ without_dot path
