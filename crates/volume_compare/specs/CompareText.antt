-- The text of what is found of the files of two volumes.
use Rattle.std.specs.Prelude.{ℕ, ◌+◌, ◌≤◌, Bool, true, false, List, [], ◌∷◌, ◌++◌, Option, Some, None, codes, count_by, decimal, flat_map, if◌then◌else◌}
use Rattle.std.specs.List.{list_all}
use Rattle.vol_layout.specs.declared.form.PlaceForm.{PlaceForm}
use Rattle.file_listings.specs.DosText.{Text, line}
use Rattle.file_listings.specs.Steps.{shown_path}
use Rattle.volume_compare.specs.Findings.{Told}
use Rattle.volume_compare.specs.declared.finding.Finding.{Finding}
use Rattle.volume_compare.specs.declared.finding.Finding.TheVariants.{Unreadable, Only, Body, Entry, Same}
use Rattle.volume_compare.specs.declared.finding.Side.{Side}
use Rattle.volume_compare.specs.declared.finding.Side.TheVariants.{First, Second}
use Rattle.volume_compare.specs.declared.totals.Totals.{Totals}

-- ---- the lines of files

abbrev pub side_word : Side → Text
side_word First = codes "1"
side_word Second = codes "2"

abbrev pub finding_words : Finding → Text
finding_words (Unreadable side) = codes "UNREADABLE " ++ side_word side
finding_words (Only side) = codes "ONLY " ++ side_word side
finding_words Body = codes "BODY"
finding_words Entry = codes "ENTRY"
finding_words Same = codes "SAME"

-- what is found, and the path as a listing shows it
abbrev pub finding_text : PlaceForm → Finding → List ℕ → Text
finding_text form finding path = finding_words finding ++ (32 ∷ shown_path form path)

-- a file that is the same is told of where all are
abbrev pub is_shown : Bool → Finding → Bool
is_shown all Same = all
is_shown all finding = true

abbrev pub shown_line : Bool → PlaceForm → Finding → List ℕ → Text
shown_line all form finding path = if is_shown all finding then line (finding_text form finding path) else []

abbrev pub told_line : Bool → PlaceForm → Option Told → Text
told_line all form (Some told) = shown_line all form told.found.finding told.path
told_line all form None = []

abbrev pub told_lines : Bool → PlaceForm → List (Option Told) → Text
told_lines all form told = flat_map (told_line all form) told

-- ---- how many there are

abbrev pub is_same : Finding → Bool
is_same Same = true
is_same finding = false

abbrev pub is_body : Finding → Bool
is_body Body = true
is_body finding = false

abbrev pub is_entry : Finding → Bool
is_entry Entry = true
is_entry finding = false

abbrev pub is_only_first : Finding → Bool
is_only_first (Only First) = true
is_only_first finding = false

abbrev pub is_only_second : Finding → Bool
is_only_second (Only Second) = true
is_only_second finding = false

abbrev pub is_unreadable : Finding → Bool
is_unreadable (Unreadable side) = true
is_unreadable finding = false

-- a file is told of, and this is found
abbrev pub is_told : (Finding → Bool) → Option Told → Bool
is_told test (Some told) = test told.found.finding
is_told test None = false

abbrev pub how_many : (Finding → Bool) → List (Option Told) → ℕ
how_many test told = count_by (is_told test) told

-- nothing but that files are the same is found
abbrev pub is_alike : Option Told → Bool
is_alike (Some told) = is_same told.found.finding
is_alike None = true

abbrev pub are_equal : List (Option Told) → Bool
are_equal told = list_all is_alike told

abbrev pub totals_of : List (Option Told) → Totals
totals_of told = record {
  equal = are_equal told;
  same = how_many is_same told;
  body = how_many is_body told;
  entry = how_many is_entry told;
  only_first = how_many is_only_first told;
  only_second = how_many is_only_second told;
  unreadable = how_many is_unreadable told;
}

-- ---- the last line

abbrev pub equal_text : Totals → Text
equal_text totals = codes "EQUAL files " ++ decimal totals.same

abbrev pub different_text : Totals → Text
different_text totals = codes "DIFFERENT same " ++ (decimal totals.same ++ (codes " body " ++ (decimal totals.body
    ++ (codes " entry " ++ (decimal totals.entry ++ (codes " only1 " ++ (decimal totals.only_first
    ++ (codes " only2 " ++ (decimal totals.only_second ++ (codes " unreadable " ++ decimal totals.unreadable))))))))))

abbrev pub totals_text : Totals → Text
totals_text totals = if totals.equal then equal_text totals else different_text totals

-- the lines of the files that are told of, and how many there are
abbrev pub compare_text : Bool → PlaceForm → List (Option Told) → Text
compare_text all form told = told_lines all form told ++ line (totals_text (totals_of told))

-- ---- one more

abbrev pub totals_with : Totals → Finding → Totals
totals_with totals Same = record totals { same = totals.same + 1 }
totals_with totals Body = record totals { equal = false; body = totals.body + 1 }
totals_with totals Entry = record totals { equal = false; entry = totals.entry + 1 }
totals_with totals (Only First) = record totals { equal = false; only_first = totals.only_first + 1 }
totals_with totals (Only Second) = record totals { equal = false; only_second = totals.only_second + 1 }
totals_with totals (Unreadable side) = record totals { equal = false; unreadable = totals.unreadable + 1 }

-- each number is at most this
pub record AreAtMost (totals : Totals) (most : ℕ) : Type 0 where
  pub same : totals.same ≤ most
  pub body : totals.body ≤ most
  pub entry : totals.entry ≤ most
  pub only_first : totals.only_first ≤ most
  pub only_second : totals.only_second ≤ most
  pub unreadable : totals.unreadable ≤ most
