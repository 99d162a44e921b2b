-- How far the lines of the files of a volume are hashed.
use Rattle.std.specs.Prelude.{◌≡◌, ◌<◌, ℕ, ◌+◌, Bool, true, false, List, length}
use Rattle.sha2.specs.Hashers.{Holds256}
use Rattle.sha2.specs.Sha256.{sha256}
use Rattle.volume_compare.specs.Contents.{SeenVolume}
use Rattle.image_survey.specs.Content.{AreLinesOf, are_read, bytes_of, lines_text, most_bytes}
use Rattle.image_survey.specs.declared.content.Content.{Content}
use Rattle.image_survey.specs.declared.content.Content.TheVariants.{Of, TooLarge}
use Rattle.image_survey.specs.declared.content.Hashing.{Hashing}
use Rattle.image_survey.specs.declared.file_line.FileLine.{FileLine}
use Rattle.image_survey.specs.declared.ordered.Named.{Named}

-- these lines were hashed
pub record IsHashed (hashing : Hashing) (lines : List FileLine) : Type 0 where
  pub text : Holds256 hashing.hasher (lines_text lines)
  pub left : hashing.left + bytes_of lines ≡ most_bytes
  pub whole : hashing.whole ≡ are_read lines

-- so they were, or they have too many bytes
abbrev pub IsAdded : Hashing → List FileLine → Bool → Type 0
IsAdded hashing lines true = IsHashed hashing lines
IsAdded hashing lines false = most_bytes < bytes_of lines

-- the lines of the first files of an order were hashed
pub record IsHashedTo (volume : SeenVolume) (unreadable : List ℕ) (order : List Named) (many : ℕ)
    (hashing : Hashing) : Type 0 where
  pub lines : List FileLine
  pub are_lines : AreLinesOf volume unreadable order lines
  pub long : length lines ≡ many
  pub hashed : IsHashed hashing lines

-- the digest of lines that were hashed
pub record IsDigestBy (lines : List FileLine) (digest : List ℕ) (whole : Bool) : Type 0 where
  pub few : (left : ℕ) × (left + bytes_of lines ≡ most_bytes)
  pub is : digest ≡ sha256 (lines_text lines)
  pub are_whole : whole ≡ are_read lines

abbrev pub IsFinished : List FileLine → Content → Type 0
IsFinished lines (Of digest whole) = IsDigestBy lines digest whole
IsFinished lines TooLarge = ⊥

-- the lines of all files of an order were hashed, or those of the first have too many bytes
pub record AreHashed (volume : SeenVolume) (unreadable : List ℕ) (order : List Named) (digest : List ℕ)
    (whole : Bool) : Type 0 where
  pub lines : List FileLine
  pub are_lines : AreLinesOf volume unreadable order lines
  pub all : length lines ≡ length order
  pub by : IsDigestBy lines digest whole

pub record AreTooLarge (volume : SeenVolume) (unreadable : List ℕ) (order : List Named) : Type 0 where
  pub lines : List FileLine
  pub are_lines : AreLinesOf volume unreadable order lines
  pub many : most_bytes < bytes_of lines

abbrev pub IsHashedOf : SeenVolume → List ℕ → List Named → Content → Type 0
IsHashedOf volume unreadable order (Of digest whole) = AreHashed volume unreadable order digest whole
IsHashedOf volume unreadable order TooLarge = AreTooLarge volume unreadable order
