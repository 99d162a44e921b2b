-- The lines of a survey.
use Rattle.std.specs.Prelude.{◌+◌, ℕ, List, [], ◌∷◌, ◌++◌, Option, Some, None, codes, decimal, map, slice_index}
use Rattle.shop_jobs.specs.declared.input.FileSystem.{FileSystem}
use Rattle.shop_jobs.specs.declared.input.FileSystem.TheVariants.{Dos, Prodos}
use Rattle.row_text.specs.Shown.{Text, lower_hex, shown}
use Rattle.image_readings.specs.IdentifyText.{file_system_word, order_word}
use Rattle.image_survey.specs.FileLine.{digest_text}
use Rattle.image_survey.specs.declared.content.Content.{Content}
use Rattle.image_survey.specs.declared.content.Content.TheVariants.{Of, TooLarge}
use Rattle.image_survey.specs.declared.counts.Counts.{Counts}
use Rattle.image_survey.specs.declared.counts.Totals.{Totals}
use Rattle.image_survey.specs.declared.facts.VolumeFacts.{VolumeFacts}
use Rattle.image_survey.specs.declared.likeness.Likeness.{Likeness}
use Rattle.image_survey.specs.declared.likeness.Likeness.TheVariants.{Files, Disk}
use Rattle.image_survey.specs.declared.surveyed.BestReading.{BestReading}
use Rattle.image_survey.specs.declared.surveyed.ImageVerdict.{ImageVerdict}
use Rattle.image_survey.specs.declared.surveyed.ImageVerdict.TheVariants.{Best, Ambiguous, NoVolume}
use Rattle.image_survey.specs.declared.surveyed.Surveyed.{Surveyed}
use Rattle.image_survey.specs.declared.surveyed.Surveyed.TheVariants.{Image, Other, Unread}

-- the name of a volume as it is shown: of DOS 3.3 its number
abbrev pub volume_text : FileSystem → List ℕ → Text
volume_text Dos name = decimal (slice_index name 0)
volume_text Prodos name = map shown name

-- a number, or a hyphen
abbrev pub number_text : Option ℕ → Text
number_text None = 45 ∷ []
number_text (Some n) = decimal n

abbrev pub digest_in : Content → Option (List ℕ)
digest_in (Of digest whole) = Some digest
digest_in TooLarge = None

-- how many files, lost places and free places a volume has
abbrev pub numbers_text : VolumeFacts → Text
numbers_text facts = codes "files " ++ decimal facts.files ++ codes " lost " ++ number_text facts.lost ++ codes " free "
    ++ decimal facts.free

abbrev pub reading_text : BestReading → Text
reading_text best = file_system_word best.file_system ++ 32 ∷ order_word best.order ++ 32
    ∷ volume_text best.file_system best.facts.name
    ++ 32 ∷ numbers_text best.facts

-- the digests of a file and of its volume's content
abbrev pub best_text : BestReading → List ℕ → Text
best_text best sha256 = codes "BEST " ++ reading_text best ++ codes " image " ++ lower_hex sha256 ++ codes " content "
    ++ digest_text (digest_in best.facts.content)

abbrev pub image_text : ImageVerdict → List ℕ → Text
image_text (Best best) sha256 = best_text best sha256
image_text Ambiguous sha256 = codes "AMBIGUOUS image " ++ lower_hex sha256
image_text NoVolume sha256 = codes "NONE image " ++ lower_hex sha256

abbrev pub found_text : Surveyed → Text
found_text (Image image) = image_text image.verdict image.sha256
found_text Other = codes "OTHER"
found_text Unread = codes "UNREAD"

-- the line of a file, with its path as it is shown, without its end
abbrev pub file_text : Surveyed → Text → Text
file_text found path = found_text found ++ 32 ∷ path

-- the line of an image that is the same as another: the number of the group, and the path
abbrev pub same_word : Likeness → Text
same_word Files = codes "SAME "
same_word Disk = codes "TWIN "

abbrev pub same_text : Likeness → ℕ → Text → Text
same_text likeness group path = same_word likeness ++ decimal group ++ 32 ∷ path

-- the last line: how many files there are, and of each kind
abbrev pub total_of : Counts → ℕ
total_of counts = counts.best + counts.ambiguous + counts.none + counts.other + counts.unread

abbrev pub images_text : Counts → Text
images_text counts = codes "best " ++ decimal counts.best ++ codes " ambiguous " ++ decimal counts.ambiguous
    ++ codes " none " ++ decimal counts.none

abbrev pub others_text : Counts → Text
others_text counts = codes "other " ++ decimal counts.other ++ codes " unread " ++ decimal counts.unread

-- how many lines tell that an image is the same as another, and what was passed over
abbrev pub same_counts_text : Totals → Text
same_counts_text totals = codes "same " ++ decimal totals.same ++ codes " twin " ++ decimal totals.twins
    ++ codes " passed " ++ decimal totals.passed

abbrev pub totals_text : Totals → Text
totals_text totals = codes "SURVEYED files " ++ decimal (total_of totals.counts) ++ 32 ∷ images_text totals.counts
    ++ 32 ∷ others_text totals.counts ++ 32 ∷ same_counts_text totals
