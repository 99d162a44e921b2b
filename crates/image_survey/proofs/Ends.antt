-- The end of a survey.
use Rattle.std.specs.Prelude.{◌≡◌, ◌++◌, ℕ, List, Option, map}
use Rattle.std.specs.Io.KnownBytes.{Appends}
use Rattle.std.proofs.Common.{refl, ap, subst, ◌∙◌, inl, inr, ⊎_elim}
use Rattle.shop_replies.proofs.Appended.{appends_both, front_before, front_behind}
use Rattle.shop_replies.specs.Reply.{AppendsFront, IsWritten}
use Rattle.image_survey.specs.Same.{AreSameLines}
use Rattle.image_survey.specs.Survey.{IsEnded, IsSurveyOf, end_text, last_line, same_lines_text, status_of, totals_with}
use Rattle.image_survey.specs.Told.{Candidate, Told, candidate_of, candidates, keys_by}
use Rattle.image_survey.specs.declared.counts.Counts.{Counts}
use Rattle.image_survey.specs.declared.likeness.Likeness.TheVariants.{Files, Disk}
use Rattle.shop_jobs.specs.declared.folders.SurveyForm.{SurveyForm}
use Rattle.image_survey.specs.declared.same.SameLine.{SameLine}
use Rattle.image_survey.specs.declared.survey.Survey.{Survey}

module _ (told : List Told) (survey : Survey) (is : IsSurveyOf told survey) (same twins : List SameLine)
    (are_same : AreSameLines (keys_by Files (map candidate_of survey.images.kept.items)) same)
    (are_twins : AreSameLines (keys_by Disk (map candidate_of survey.images.kept.items)) twins) (passed : ℕ) (old mid new : Option (List ℕ)) where
  abbrev images : List Candidate
  images = map candidate_of survey.images.kept.items

  abbrev form : SurveyForm
  form = survey.form

  abbrev lines_text : List ℕ
  lines_text = same_lines_text form images same twins

  abbrev last : List ℕ
  last = last_line form (totals_with survey.counts same twins passed)

  -- the text of the end, by what was kept
  whole : lines_text ++ last ≡ end_text form told same twins passed
  whole =
      ap (λ (some : List Candidate). same_lines_text form some same twins ++ last) is.kept.kept
      ∙ ap (λ (counts : Counts). same_lines_text form (candidates told) same twins ++ last_line form (totals_with counts same twins passed)) is.counts

  told_same : AreSameLines (keys_by Files (candidates told)) same
  told_same = subst (λ (some : List Candidate). AreSameLines (keys_by Files some) same) is.kept.kept are_same

  told_twins : AreSameLines (keys_by Disk (candidates told)) twins
  told_twins = subst (λ (some : List Candidate). AreSameLines (keys_by Disk some) twins) is.kept.kept are_twins

  -- a front of the lines was told
  pub ended_early : AppendsFront old new lines_text → IsEnded form told passed 4 old new
  ended_early front = inl (record {
    same = same;
    are_same = told_same;
    twins = twins;
    are_twins = told_twins;
    written = inr (refl, subst (AppendsFront old new) whole (front_before old new lines_text last front));
  })

  -- all lines were told, and the last one or a front of it
  pub ended : (status : ℕ) → Appends old mid lines_text → IsWritten (status_of survey.counts) last status mid new
      → IsEnded form told passed status old new
  ended status first later = inl (record {
    same = same;
    are_same = told_same;
    twins = twins;
    are_twins = told_twins;
    written = ⊎_elim
        (λ all. inl (all.0 ∙ ap status_of is.counts, subst (Appends old new) whole (appends_both old mid new lines_text last first all.1)))
        (λ part. inr (part.0, subst (AppendsFront old new) whole (front_behind old mid new lines_text last first part.1)))
        later;
  })
