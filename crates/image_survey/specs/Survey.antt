-- What is told of a survey, and its status.
use Rattle.std.specs.Prelude.{◌≡◌, ◌⊎◌, ◌==◌, ◌&&◌, ℕ, List, [], ◌∷◌, ◌++◌, Result, Ok, Err, if◌then◌else◌, flat_map, length, Option}
use Rattle.std.specs.Io.KnownBytes.{Appends, Keeps}
use Rattle.std.specs.List.{filter_map}
use Rattle.serde_json.specs.Written.{compact_text}
use Rattle.file_listings.specs.DosText.{line}
use Rattle.row_text.specs.Shown.{Text}
use Rattle.shop_replies.specs.Reply.{AppendsFront, IsWritten}
use Rattle.shown_text.specs.Escaping.{escaped}
use Rattle.image_survey.specs.JsonLines.{file_data, same_data, totals_data}
use Rattle.image_survey.specs.Lines.{file_text, same_text, totals_text}
use Rattle.image_survey.specs.Same.{AreSameLines, candidate_at}
use Rattle.image_survey.specs.Told.{AreKept, Candidate, Told, candidate, candidates, counts_of, keys_by}
use Rattle.image_survey.specs.declared.counts.Counts.{Counts}
use Rattle.image_survey.specs.declared.counts.Totals.{Totals}
use Rattle.image_survey.specs.declared.error.SurveyError.{SurveyError}
use Rattle.image_survey.specs.declared.error.SurveyError.TheVariants.{Memory, Output}
use Rattle.image_survey.specs.declared.likeness.Likeness.{Likeness}
use Rattle.image_survey.specs.declared.likeness.Likeness.TheVariants.{Files, Disk}
use Rattle.shop_jobs.specs.declared.folders.SurveyForm.{SurveyForm}
use Rattle.shop_jobs.specs.declared.folders.SurveyForm.TheVariants.{Lines, Json}
use Rattle.image_survey.specs.declared.same.SameLine.{SameLine}
use Rattle.image_survey.specs.declared.survey.Survey.{Survey}

-- the line of a file; a path is shown as words are, and as JSON has it in JSON
abbrev pub file_line : SurveyForm → Told → Text
file_line Lines told = line (file_text told.found (escaped told.path))
file_line Json told = line (compact_text (file_data told.found told.path))

-- the line of an image that is the same as another
abbrev pub same_line : SurveyForm → Likeness → List Candidate → SameLine → Text
same_line Lines likeness images told =
    line (same_text likeness told.group (escaped (candidate_at images told.image).path))
same_line Json likeness images told =
    line (compact_text (same_data likeness told.group (candidate_at images told.image).path))

-- the lines of the images that are the same as another by their files, and of those that are by their disks
abbrev pub same_lines_text : SurveyForm → List Candidate → List SameLine → List SameLine → Text
same_lines_text form images same twins =
    flat_map (same_line form Files images) same ++ flat_map (same_line form Disk images) twins

-- the last line
abbrev pub last_line : SurveyForm → Totals → Text
last_line Lines totals = line (totals_text totals)
last_line Json totals = line (compact_text (totals_data totals))

abbrev pub totals_with : Counts → List SameLine → List SameLine → ℕ → Totals
totals_with counts same twins passed =
    record { counts = counts; same = length same; twins = length twins; passed = passed }

abbrev pub end_text : SurveyForm → List Told → List SameLine → List SameLine → ℕ → Text
end_text form told same twins passed = same_lines_text form (candidates told) same twins
    ++ last_line form (totals_with (counts_of told) same twins passed)

-- 0, or 1 where an image has no best reading or no volume, or a file could not be read
abbrev pub status_of : Counts → ℕ
status_of counts = if counts.ambiguous == 0 && counts.none == 0 && counts.unread == 0 then 0 else 1

-- these files were told of
pub record IsSurveyOf (told : List Told) (survey : Survey) : Type 0 where
  pub counts : survey.counts ≡ counts_of told
  pub kept : AreKept (filter_map candidate told) survey.images

-- One more was told of; or the writer failed behind a front of its line, and it counts as told; or there was no memory,
-- and those that were told of are the same.
abbrev pub IsTelling : Told → Survey → Survey → Option (List ℕ) → Option (List ℕ) → Result (Unit {0}) SurveyError
    → Type 0
IsTelling one old new text text_now (Ok done) =
    ((told : List Told) → IsSurveyOf told old → IsSurveyOf (told ++ one ∷ []) new)
    × Appends text text_now (file_line old.form one)
IsTelling one old new text text_now (Err Output) =
    ((told : List Told) → IsSurveyOf told old → IsSurveyOf (told ++ one ∷ []) new)
    × AppendsFront text text_now (file_line old.form one)
IsTelling one old new text text_now (Err Memory) =
    ((told : List Told) → IsSurveyOf told old → IsSurveyOf told new) × Keeps text text_now

-- The end of a survey of these files was told, with its status, where so much was passed over; or the writer failed or
-- memory ran out behind a front of it, and the status is 4.
pub record IsEndTold (form : SurveyForm) (told : List Told) (passed status : ℕ)
    (text text_now : Option (List ℕ)) : Type 0 where
  pub same : List SameLine
  pub are_same : AreSameLines (keys_by Files (candidates told)) same
  pub twins : List SameLine
  pub are_twins : AreSameLines (keys_by Disk (candidates told)) twins
  pub written : IsWritten (status_of (counts_of told)) (end_text form told same twins passed) status text text_now

-- so it was, or there was no memory, and nothing was told
abbrev pub IsEnded : SurveyForm → List Told → ℕ → ℕ → Option (List ℕ) → Option (List ℕ) → Type 0
IsEnded form told passed status text text_now =
    IsEndTold form told passed status text text_now ⊎ ((status ≡ 4) × Keeps text text_now)
