-- Which files of two volumes belong together.
use Rattle.std.specs.Prelude.{◌≡◌, ◌<◌, ℕ, Bool, true, false, List, Option, Some, None, count_by, length, map, slice_index_or, take, if◌then◌else◌}
use Rattle.std.specs.Str.{bytes_eq}
use Rattle.std.specs.declared.alloc.Global.{Global}
use Rattle.vol_format.specs.Directory.{Directory, Listed, is_directory}
use Rattle.file_formats.specs.Files.{FileMeaning}

-- the stored path of the file of an entry; the entry of a directory has no file
abbrev pub file_path : FileMeaning → Listed → Option (List ℕ)
file_path files entry = if is_directory entry then None else Some (files.shown {A = Global} entry).path

-- those of all entries, in directory order
abbrev pub paths_of : FileMeaning → Directory → List (Option (List ℕ))
paths_of files directory = map (file_path files) directory.listed

-- that of an entry by its number
abbrev pub path_at : List (Option (List ℕ)) → ℕ → Option (List ℕ)
path_at paths file = slice_index_or paths file None

abbrev pub is_path : List ℕ → Option (List ℕ) → Bool
is_path path (Some other) = bytes_eq other path
is_path path None = false

-- how many files that stand before an entry have a path
abbrev pub rank : List ℕ → List (Option (List ℕ)) → ℕ → ℕ
rank path paths file = count_by (is_path path) (take file paths)

-- Two files are partners where they have one path, and equally many files of it stand before them: the first of a path
-- in one volume is the partner of the first in the other, and so on.
pub record IsPartner (first second : List (Option (List ℕ))) (file other : ℕ) : Type 0 where
  pub path : List ℕ
  pub of_file : path_at first file ≡ Some path
  pub of_other : path_at second other ≡ Some path
  pub ranks : rank path first file ≡ rank path second other

-- the partner of a file of the first volume, or that it has none
abbrev pub IsPartnerOf : List (Option (List ℕ)) → List (Option (List ℕ)) → ℕ → Option ℕ → Type 0
IsPartnerOf first second file (Some other) = IsPartner first second file other
IsPartnerOf first second file None = (other : ℕ) → ¬ IsPartner first second file other

-- whether a file of the second volume is the partner of one that stands before an entry of the first
abbrev pub IsTakenBefore : List (Option (List ℕ)) → List (Option (List ℕ)) → ℕ → ℕ → Bool → Type 0
IsTakenBefore first second many other true = (file : ℕ) × (file < many) × IsPartner first second file other
IsTakenBefore first second many other false = (file : ℕ) → file < many → ¬ IsPartner first second file other

abbrev pub taken_at : List Bool → ℕ → Bool
taken_at taken other = slice_index_or taken other false

-- the partners of the files of the first entries of the first volume, and which files of the second are taken by them
pub record ArePairsUpTo (first second : List (Option (List ℕ))) (many : ℕ) (partners : List (Option ℕ))
    (taken : List Bool) : Type 0 where
  pub told : length partners ≡ many
  pub long : length taken ≡ length second
  pub each : (file : ℕ) → file < many → IsPartnerOf first second file (slice_index_or partners file None)
  pub others : (other : ℕ) → IsTakenBefore first second many other (taken_at taken other)

-- all pairs of two volumes
abbrev pub ArePairs : List (Option (List ℕ)) → List (Option (List ℕ)) → List (Option ℕ) → List Bool → Type 0
ArePairs first second partners taken = ArePairsUpTo first second (length first) partners taken
