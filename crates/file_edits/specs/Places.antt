-- The places that a new file takes.
use Rattle.std.specs.Prelude.{ℕ, List, filter, take}
use Rattle.vol_format.specs.Directory.{Directory, is_free}

-- the available places that are marked free, in their order
abbrev pub free_places : Directory → List ℕ
free_places directory = filter (is_free directory) directory.available

-- the first of them, so many
abbrev pub first_places : Directory → ℕ → List ℕ
first_places directory count = take count (free_places directory)
