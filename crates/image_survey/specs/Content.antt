-- The content of a volume: the digest of a text with a line for each of its files. Two dumps of one disk, in other
-- orders or with other gaps, have one content.
use Rattle.std.specs.Prelude.{◌≡◌, ◌<◌, ◌≤◌, ◌⊎◌, ℕ, Bool, List, flat_map, is_some, length, slice_index_or, sum_by}
use Rattle.std.specs.List.{list_all}
use Rattle.sha2.specs.Sha256.{sha256}
use Rattle.file_listings.specs.DosText.{line}
use Rattle.row_text.specs.Shown.{Text}
use Rattle.volume_compare.specs.Contents.{SeenVolume}
use Rattle.volume_compare.specs.Findings.{paths_in}
use Rattle.image_survey.specs.FileLine.{IsLineOf, line_text}
use Rattle.image_survey.specs.Ordered.{AreInOrder, path_bytes}
use Rattle.image_survey.specs.declared.content.Content.{Content}
use Rattle.image_survey.specs.declared.content.Content.TheVariants.{Of, TooLarge}
use Rattle.image_survey.specs.declared.file_line.FileLine.{FileLine}
use Rattle.image_survey.specs.declared.ordered.Named.{Named}

-- the most bytes that the bodies of the files of a volume, and their paths, may have in all
abbrev pub most_bytes : ℕ
most_bytes = 1073741824

abbrev pub most_path_bytes : ℕ
most_path_bytes = 16777216

-- the text of some lines
abbrev pub ended : FileLine → Text
ended l = line (line_text l)

abbrev pub lines_text : List FileLine → Text
lines_text lines = flat_map ended lines

-- how many bytes the bodies have in all, and whether each could be read
abbrev pub bytes_of : List FileLine → ℕ
bytes_of lines = sum_by (λ (l : FileLine). l.bytes) lines

abbrev pub is_read : FileLine → Bool
is_read l = is_some l.digest

abbrev pub are_read : List FileLine → Bool
are_read lines = list_all is_read lines

-- the lines of the first files of an order
pub record AreLinesOf (volume : SeenVolume) (unreadable : List ℕ) (order : List Named)
    (lines : List FileLine) : Type 0 where
  pub within : length lines ≤ length order
  pub each : (n : ℕ) (named : Named) (l : FileLine) → n < length lines
      → IsLineOf volume unreadable (slice_index_or order n named).file (slice_index_or lines n l)

-- the digest of the lines of all files, in the order of their paths, and whether each of them could be read
pub record IsDigestOf (volume : SeenVolume) (unreadable : List ℕ) (digest : List ℕ) (whole : Bool) : Type 0 where
  pub few_paths : path_bytes (paths_in volume) ≤ most_path_bytes
  pub order : List Named
  pub in_order : AreInOrder (paths_in volume) order
  pub lines : List FileLine
  pub are_lines : AreLinesOf volume unreadable order lines
  pub all : length lines ≡ length order
  pub few : bytes_of lines ≤ most_bytes
  pub is : digest ≡ sha256 (lines_text lines)
  pub are_whole : whole ≡ are_read lines

-- the bodies of the first files, in the order of their paths, have too many bytes
pub record HasLargeBodies (volume : SeenVolume) (unreadable : List ℕ) : Type 0 where
  pub few_paths : path_bytes (paths_in volume) ≤ most_path_bytes
  pub order : List Named
  pub in_order : AreInOrder (paths_in volume) order
  pub lines : List FileLine
  pub are_lines : AreLinesOf volume unreadable order lines
  pub many : most_bytes < bytes_of lines

-- The content; or that the paths or the bodies of the files have too many bytes.
abbrev pub IsContent : SeenVolume → List ℕ → Content → Type 0
IsContent volume unreadable (Of digest whole) = IsDigestOf volume unreadable digest whole
IsContent volume unreadable TooLarge =
    (most_path_bytes < path_bytes (paths_in volume)) ⊎ HasLargeBodies volume unreadable
