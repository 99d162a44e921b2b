-- The text of what was made of the entries of a volume.
use Rattle.std.specs.Prelude.{ℕ, ◌+◌, ◌≤◌, Bool, true, false, List, ◌++◌, codes, count_by, decimal, flat_map, length}
use Rattle.host_folders.specs.HostNames.{Text as HostText, text_beside}
use Rattle.file_listings.specs.DosText.{line}
use Rattle.volume_extract.specs.Items.{Found, found_folder, found_file, found_both, found_text, found_unread, Item, bytes_in}
use Rattle.volume_extract.specs.declared.kept.Outcome.{Outcome}
use Rattle.volume_extract.specs.declared.kept.Outcome.TheVariants.{Folder, File, Both, Text, Unreadable}
use Rattle.volume_extract.specs.declared.totals.Totals.{Totals}

-- what is told of what is found: of a file how many bytes it has
abbrev pub outcome_of : Found → Outcome
outcome_of found_folder = Folder
outcome_of (found_file bytes) = File (length bytes)
outcome_of (found_both bytes text) = Both (length bytes) (length text)
outcome_of (found_text text) = Text (length text)
outcome_of found_unread = Unreadable

-- `FILE n HOST`
abbrev pub file_text : ℕ → HostText → HostText
file_text bytes host = codes "FILE " ++ (decimal bytes ++ (codes " " ++ host))

-- `TEXT n HOST`
abbrev pub text_text : ℕ → HostText → HostText
text_text bytes host = codes "TEXT " ++ (decimal bytes ++ (codes " " ++ host))

-- `FOLDER HOST/`, `FILE n HOST`, `UNREADABLE HOST`; of a readable form `TEXT n HOST`, in a line behind that of its file
abbrev pub outcome_text : Outcome → HostText → HostText
outcome_text Folder host = codes "FOLDER " ++ (host ++ codes "/")
outcome_text (File bytes) host = file_text bytes host
outcome_text (Both bytes text) host = line (file_text bytes host) ++ text_text text (text_beside host)
outcome_text (Text bytes) host = text_text bytes host
outcome_text Unreadable host = codes "UNREADABLE " ++ host

abbrev pub item_text : Item → HostText
item_text item = outcome_text (outcome_of item.found) item.host

abbrev pub is_file : Found → Bool
is_file (found_file bytes) = true
is_file (found_both bytes text) = true
is_file found = false

abbrev pub has_text : Found → Bool
has_text (found_both bytes text) = true
has_text (found_text text) = true
has_text found = false

abbrev pub is_folder : Found → Bool
is_folder found_folder = true
is_folder found = false

abbrev pub is_unreadable : Found → Bool
is_unreadable found_unread = true
is_unreadable found = false

-- how many items of each kind there are, how many of them have a readable form, and how many bytes all of it has
abbrev pub totals_of : List Item → Totals
totals_of items = record {
  files = count_by (λ (item : Item). is_file item.found) items;
  folders = count_by (λ (item : Item). is_folder item.found) items;
  texts = count_by (λ (item : Item). has_text item.found) items;
  unreadable = count_by (λ (item : Item). is_unreadable item.found) items;
  bytes = bytes_in items;
}

abbrev pub totals_text : Totals → HostText
totals_text totals = codes "EXTRACTED files " ++ (decimal totals.files ++ (codes " folders " ++ (decimal totals.folders
    ++ (codes " texts " ++ (decimal totals.texts
    ++ (codes " unreadable " ++ (decimal totals.unreadable ++ (codes " bytes "
    ++ decimal totals.bytes))))))))

-- a line for each item, and last how many there are
abbrev pub extract_text : List Item → HostText
extract_text items = flat_map (λ item. line (item_text item)) items ++ line (totals_text (totals_of items))

-- ---- one more

-- one more of an outcome, where all files have so many bytes then
abbrev pub totals_with : Totals → Outcome → ℕ → Totals
totals_with totals Folder bytes = record totals { folders = totals.folders + 1; bytes = bytes }
totals_with totals (File len) bytes = record totals { files = totals.files + 1; bytes = bytes }
totals_with totals (Both len text) bytes = record totals {
  files = totals.files + 1;
  texts = totals.texts + 1;
  bytes = bytes;
}
totals_with totals (Text len) bytes = record totals { texts = totals.texts + 1; bytes = bytes }
totals_with totals Unreadable bytes = record totals { unreadable = totals.unreadable + 1; bytes = bytes }

-- each number of entries is at most this
pub record AreAtMost (totals : Totals) (most : ℕ) : Type 0 where
  pub files : totals.files ≤ most
  pub folders : totals.folders ≤ most
  pub texts : totals.texts ≤ most
  pub unreadable : totals.unreadable ≤ most
