-- When the files of two volumes have too many bytes.
use Rattle.std.specs.Prelude.{◌≡◌, ◌⊎◌, ◌<◌, ◌≤◌, ◌+◌, ℕ, List, ◌++◌, Option, None, length, slice_index, sum}
use Rattle.vol_format.specs.Directory.{entries}
use Rattle.volume_compare.specs.Contents.{FileContent, IsContent, IsUnread, SeenVolume}
use Rattle.volume_compare.specs.Findings.{AreToldAloneUpTo, AreToldUpTo, Compared, Told, paths_in, second_bytes}
use Rattle.volume_compare.specs.Pairs.{path_at}
use Rattle.volume_compare.specs.declared.error.CompareError.{CompareError}
use Rattle.volume_compare.specs.declared.error.CompareError.TheVariants.{Check, Device, TooLarge, Memory}
use Rattle.volume_compare.specs.declared.finding.Side.{Side}
use Rattle.volume_compare.specs.declared.finding.Side.TheVariants.{First, Second}

-- how many bytes the text of a file has: none where it can't be read, and of a directory
abbrev pub IsCount : SeenVolume → (ℕ → Type 0) → ℕ → ℕ → Type 0
IsCount volume failed file count =
    ((count ≡ 0) × ((path_at (paths_in volume) file ≡ None) ⊎ IsUnread volume failed file))
    ⊎ ((content : FileContent) × IsContent volume file content × (count ≡ length content.text))

-- those of the files of the first entries
pub record AreCounts (volume : SeenVolume) (failed : ℕ → Type 0) (counts : List ℕ) : Type 0 where
  pub within : length counts ≤ entries volume.directory
  pub each : (file : ℕ) → file < length counts → IsCount volume failed file (slice_index counts file)

-- the files of the first entries have more bytes than they may
abbrev pub HasTooMany : SeenVolume → (ℕ → Type 0) → ℕ → Type 0
HasTooMany volume failed most = (counts : List ℕ) × AreCounts volume failed counts × (most < sum counts)

-- those of all entries have no more
abbrev pub HasFew : SeenVolume → (ℕ → Type 0) → ℕ → Type 0
HasFew volume failed most =
    (counts : List ℕ) × AreCounts volume failed counts × (length counts ≡ entries volume.directory)
    × (sum counts ≤ most)

-- the files of the second volume that were told of have more bytes than they may
pub record HasTooManySecond (compared : Compared) (most : ℕ) : Type 0 where
  pub told : List (Option Told)
  pub others : List (Option Told)
  pub are_told : AreToldUpTo compared (length told) told
  pub are_others : AreToldAloneUpTo compared (length others) others
  pub within : length told ≤ entries compared.first.directory
  pub others_within : length others ≤ entries compared.second.directory
  pub many : most < second_bytes (told ++ others)

-- Why not all files are told of: those of a volume have too many bytes, those of the first where both have; or want of
-- memory.
abbrev pub IsTooLarge : Compared → ℕ → CompareError → Type 0
IsTooLarge compared most (TooLarge First) = HasTooMany compared.first compared.first_failed most
IsTooLarge compared most (TooLarge Second) =
    HasTooManySecond compared most × HasFew compared.first compared.first_failed most
IsTooLarge compared most Memory = Unit {0}
IsTooLarge compared most (Check side) = ⊥
IsTooLarge compared most (Device side) = ⊥

-- ---- how far they are counted

-- those of the first entries, of whose bytes the rest may be read yet
pub record IsCountedTo (volume : SeenVolume) (failed : ℕ → Type 0) (most many left : ℕ) : Type 0 where
  pub counts : List ℕ
  pub long : length counts ≡ many
  pub are_counts : AreCounts volume failed counts
  pub rest : left + sum counts ≡ most

-- whether the first volume has too many bytes
abbrev pub IsLarger : SeenVolume → (ℕ → Type 0) → ℕ → Side → Type 0
IsLarger volume failed most First = HasTooMany volume failed most
IsLarger volume failed most Second = HasFew volume failed most

-- what is told where the second has too many
abbrev pub IsLargerBy : SeenVolume → (ℕ → Type 0) → ℕ → CompareError → Type 0
IsLargerBy volume failed most (TooLarge side) = IsLarger volume failed most side
IsLargerBy volume failed most Memory = Unit {0}
IsLargerBy volume failed most (Check side) = ⊥
IsLargerBy volume failed most (Device side) = ⊥
