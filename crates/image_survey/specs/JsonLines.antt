-- The lines of a survey as JSON: an object each, its members in rising order of their keys.
use Rattle.std.specs.Prelude.{ℕ, Bool, true, false, List, Option, Some, None, codes, option_map}
use Rattle.a2_device.specs.declared.order.Order.{Order}
use Rattle.shop_jobs.specs.declared.input.FileSystem.{FileSystem}
use Rattle.serde_json.specs.Data.{Data, null, string, object, Members, no_members, member}
use Rattle.row_text.specs.Row.{number_or_null, number_value}
use Rattle.row_text.specs.Shown.{Text, lower_hex}
use Rattle.image_readings.specs.IdentifyText.{file_system_word, order_word}
use Rattle.image_survey.specs.Lines.{digest_in, total_of, volume_text}
use Rattle.image_survey.specs.declared.counts.Totals.{Totals}
use Rattle.image_survey.specs.declared.json_row.VerdictWord.{VerdictWord}
use Rattle.image_survey.specs.declared.json_row.VerdictWord.TheVariants as words
use Rattle.image_survey.specs.declared.likeness.Likeness.{Likeness}
use Rattle.image_survey.specs.declared.likeness.Likeness.TheVariants.{Files, Disk}
use Rattle.image_survey.specs.declared.surveyed.BestReading.{BestReading}
use Rattle.image_survey.specs.declared.surveyed.ImageVerdict.{ImageVerdict}
use Rattle.image_survey.specs.declared.surveyed.ImageVerdict.TheVariants.{Best, Ambiguous, NoVolume}
use Rattle.image_survey.specs.declared.surveyed.Surveyed.{Surveyed}
use Rattle.image_survey.specs.declared.surveyed.Surveyed.TheVariants.{Image, Other, Unread}

abbrev pub word_text : VerdictWord → Text
word_text words.Best = codes "BEST"
word_text words.Ambiguous = codes "AMBIGUOUS"
word_text words.NoVolume = codes "NONE"
word_text words.Other = codes "OTHER"
word_text words.Unread = codes "UNREAD"

-- what is told of a file, where it is there
pub record RowView : Type 0 where
  pub content : Option (List ℕ)
  pub disk : Option (List ℕ)
  pub files : Option ℕ
  pub free : Option ℕ
  pub file_system : Option FileSystem
  pub image : Option (List ℕ)
  pub lost : Option ℕ
  pub order : Option Order
  pub path : Text
  pub container : Bool
  pub word : VerdictWord
  pub volume : Option Text

-- of a file without a best reading the digest of its image, and whether it is a container
abbrev pub bare_row : VerdictWord → Option (List ℕ) → Bool → Text → RowView
bare_row word image container path = record {
  content = None;
  disk = None;
  files = None;
  free = None;
  file_system = None;
  image = image;
  lost = None;
  order = None;
  path = path;
  container = container;
  word = word;
  volume = None;
}

abbrev pub best_row : BestReading → List ℕ → Bool → Text → RowView
best_row best sha256 container path = record {
  content = digest_in best.facts.content;
  disk = best.disk;
  files = Some best.facts.files;
  free = Some best.facts.free;
  file_system = Some best.file_system;
  image = Some sha256;
  lost = best.facts.lost;
  order = Some best.order;
  path = path;
  container = container;
  word = words.Best;
  volume = Some (volume_text best.file_system best.facts.name);
}

abbrev pub row_by : ImageVerdict → List ℕ → Bool → Text → RowView
row_by (Best best) sha256 container path = best_row best sha256 container path
row_by Ambiguous sha256 container path = bare_row words.Ambiguous (Some sha256) container path
row_by NoVolume sha256 container path = bare_row words.NoVolume (Some sha256) container path

abbrev pub row_of : Surveyed → Text → RowView
row_of (Image image) path = row_by image.verdict image.sha256 image.container path
row_of Other path = bare_row words.Other None false path
row_of Unread path = bare_row words.Unread None false path

-- ---- values

abbrev pub digest_or_null : Option (List ℕ) → Data
digest_or_null None = null
digest_or_null (Some digest) = string (lower_hex digest)

abbrev pub text_or_null : Option Text → Data
text_or_null None = null
text_or_null (Some text) = string text

abbrev pub shell_text : Bool → Option Text
shell_text true = Some (codes "2img")
shell_text false = None

-- ---- the line of a file: its members, and for some keys those from it on

abbrev pub path_on : RowView → Members
path_on r = member (codes "path") (string r.path)
    (member (codes "shell") (text_or_null (shell_text r.container))
    (member (codes "verdict") (string (word_text r.word))
    (member (codes "volume") (text_or_null r.volume) no_members)))

abbrev pub image_on : RowView → Members
image_on r = member (codes "image") (digest_or_null r.image)
    (member (codes "lost") (number_or_null r.lost)
    (member (codes "order") (text_or_null (option_map order_word r.order)) (path_on r)))

abbrev pub free_on : RowView → Members
free_on r = member (codes "free") (number_or_null r.free)
    (member (codes "fs") (text_or_null (option_map file_system_word r.file_system)) (image_on r))

abbrev pub row_members : RowView → Members
row_members r = member (codes "content") (digest_or_null r.content)
    (member (codes "disk") (digest_or_null r.disk)
    (member (codes "files") (number_or_null r.files) (free_on r)))

abbrev pub row_data : RowView → Data
row_data r = object (row_members r)

abbrev pub file_data : Surveyed → Text → Data
file_data found path = row_data (row_of found path)

-- ---- the line of an image that is the same as another, and the last line

abbrev pub same_key : Likeness → Text
same_key Files = codes "same"
same_key Disk = codes "twin"

abbrev pub same_data : Likeness → ℕ → Text → Data
same_data likeness group path = object (member (codes "path") (string path)
    (member (same_key likeness) (number_value group) no_members))

abbrev pub passed_on : Totals → Members
passed_on totals = member (codes "passed") (number_value totals.passed)
    (member (codes "same") (number_value totals.same)
    (member (codes "twin") (number_value totals.twins)
    (member (codes "unread") (number_value totals.counts.unread) no_members)))

abbrev pub totals_members : Totals → Members
totals_members totals = member (codes "ambiguous") (number_value totals.counts.ambiguous)
    (member (codes "best") (number_value totals.counts.best)
    (member (codes "files") (number_value (total_of totals.counts))
    (member (codes "none") (number_value totals.counts.none)
    (member (codes "other") (number_value totals.counts.other) (passed_on totals)))))

abbrev pub totals_data : Totals → Data
totals_data totals = object (totals_members totals)
