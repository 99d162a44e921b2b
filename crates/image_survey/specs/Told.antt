-- The files that are surveyed, and how often each thing is found.
use Rattle.std.specs.Prelude.{◌≡◌, ◌==◌, ◌&&◌, ◌+◌, ℕ, nat_lt, Bool, true, false, List, [], ◌∷◌, ◌++◌, Option, Some, None, count_by, if◌then◌else◌, map, option_map, string_bytes}
use Rattle.std.specs.HashSet.{contains_by}
use Rattle.std.specs.List.{filter_map, list_any}
use Rattle.image_survey.specs.declared.content.Content.{Content}
use Rattle.image_survey.specs.declared.content.Content.TheVariants.{Of, TooLarge}
use Rattle.image_survey.specs.declared.counts.Counts.{Counts}
use Rattle.image_survey.specs.declared.file_id.FileId.{FileId}
use Rattle.image_survey.specs.declared.kept.Images.{Images}
use Rattle.image_survey.specs.declared.kept.Kept.{Kept}
use Rattle.image_survey.specs.declared.likeness.Likeness.{Likeness}
use Rattle.image_survey.specs.declared.likeness.Likeness.TheVariants.{Files, Disk}
use Rattle.image_survey.specs.declared.surveyed.BestReading.{BestReading}
use Rattle.image_survey.specs.declared.surveyed.ImageVerdict.{ImageVerdict}
use Rattle.image_survey.specs.declared.surveyed.ImageVerdict.TheVariants.{Best, Ambiguous, NoVolume}
use Rattle.image_survey.specs.declared.surveyed.Surveyed.{Surveyed}
use Rattle.image_survey.specs.declared.surveyed.Surveyed.TheVariants.{Image, Other, Unread}

-- a path, as bytes of UTF-8, the file that it leads to, where that is known, and what was found of it
pub record Told : Type 0 where
  pub path : List ℕ
  pub file : Option FileId
  pub found : Surveyed

-- ---- counts

abbrev pub is_best : ImageVerdict → Bool
is_best (Best best) = true
is_best Ambiguous = false
is_best NoVolume = false

abbrev pub is_ambiguous : ImageVerdict → Bool
is_ambiguous Ambiguous = true
is_ambiguous (Best best) = false
is_ambiguous NoVolume = false

abbrev pub is_no_volume : ImageVerdict → Bool
is_no_volume NoVolume = true
is_no_volume (Best best) = false
is_no_volume Ambiguous = false

abbrev pub of_image : (ImageVerdict → Bool) → Surveyed → Bool
of_image test (Image image) = test image.verdict
of_image test Other = false
of_image test Unread = false

abbrev pub is_other : Surveyed → Bool
is_other Other = true
is_other (Image image) = false
is_other Unread = false

abbrev pub is_unread : Surveyed → Bool
is_unread Unread = true
is_unread (Image image) = false
is_unread Other = false

abbrev pub how_many : (Surveyed → Bool) → List Told → ℕ
how_many test told = count_by (λ (one : Told). test one.found) told

abbrev pub counts_of : List Told → Counts
counts_of told = record {
  best = how_many (of_image is_best) told;
  ambiguous = how_many (of_image is_ambiguous) told;
  none = how_many (of_image is_no_volume) told;
  other = how_many is_other told;
  unread = how_many is_unread told;
}

-- those with one more
abbrev pub counts_by : Counts → ImageVerdict → Counts
counts_by counts (Best best) = record counts { best = counts.best + 1 }
counts_by counts Ambiguous = record counts { ambiguous = counts.ambiguous + 1 }
counts_by counts NoVolume = record counts { none = counts.none + 1 }

abbrev pub counts_with : Counts → Surveyed → Counts
counts_with counts (Image image) = counts_by counts image.verdict
counts_with counts Other = record counts { other = counts.other + 1 }
counts_with counts Unread = record counts { unread = counts.unread + 1 }

-- ---- what may be the same

-- An image that may be the same as another: the content of its volume and the digest of its disk, where these are
-- told, the file that it stands in, and its path.
pub record Candidate : Type 0 where
  pub content : Option (List ℕ)
  pub disk : Option (List ℕ)
  pub file : Option FileId
  pub path : List ℕ

abbrev pub candidate_of : Kept → Candidate
candidate_of kept = record {
  content = kept.content;
  disk = kept.disk;
  file = kept.file;
  path = string_bytes kept.path;
}

-- what it has alike with those that are the same as it
abbrev pub key_by : Likeness → Candidate → Option (List ℕ)
key_by Files image = image.content
key_by Disk image = image.disk

abbrev pub keys_by : Likeness → List Candidate → List (Option (List ℕ))
keys_by likeness images = map (key_by likeness) images

-- The content of a volume by which it may be the same as another: one with files, each of which can be read.
abbrev pub content_if : Bool → Content → Option (List ℕ)
content_if has_files (Of digest whole) = if has_files && whole then Some digest else None
content_if has_files TooLarge = None

abbrev pub content_by : BestReading → Option (List ℕ)
content_by best = content_if (nat_lt 0 best.facts.files) best.facts.content

-- an image with a best reading may be the same as another
abbrev pub candidate_by : List ℕ → Option FileId → BestReading → Candidate
candidate_by path file best = record { content = content_by best; disk = best.disk; file = file; path = path }

abbrev pub best_by : ImageVerdict → Option BestReading
best_by (Best best) = Some best
best_by Ambiguous = None
best_by NoVolume = None

abbrev pub best_in : Surveyed → Option BestReading
best_in (Image image) = best_by image.verdict
best_in Other = None
best_in Unread = None

abbrev pub candidate : Told → Option Candidate
candidate one = option_map (candidate_by one.path one.file) (best_in one.found)

-- ---- paths that lead to one file

abbrev pub is_file : FileId → FileId → Bool
is_file one other = one.device == other.device && one.number == other.number

-- whether a file is this one; a file that is not known is none
abbrev pub is_of_file : Option FileId → FileId → Bool
is_of_file None other = false
is_of_file (Some file) other = is_file file other

abbrev pub is_known : List Candidate → FileId → Bool
is_known images file = list_any (λ (image : Candidate). is_of_file image.file file) images

-- whether one of these images stands in the file of another
abbrev pub has_file_of : List Candidate → Option FileId → Bool
has_file_of images None = false
has_file_of images (Some file) = is_known images file

-- of images that stand behind others those in whose files none before them stands
abbrev pub firsts_behind : List Candidate → List Candidate → List Candidate
firsts_behind before [] = []
firsts_behind before (image ∷ later) =
    (if has_file_of before image.file then [] else image ∷ []) ++ firsts_behind (before ++ image ∷ []) later

-- the images that may be the same as another: paths that lead to one file are one image, the first of them
abbrev pub candidates : List Told → List Candidate
candidates told = firsts_behind [] (filter_map candidate told)

-- of these images the first of each file are kept, and their files are known
pub record AreKept (found : List Candidate) (images : Images) : Type 0 where
  pub kept : map candidate_of images.kept.items ≡ firsts_behind [] found
  pub files : (file : FileId) → contains_by (is_file file) images.files ≡ is_known found file
