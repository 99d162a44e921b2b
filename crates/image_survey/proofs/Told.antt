-- One file more of a survey.
use Rattle.std.specs.Prelude.{◌≡◌, ◌+◌, ℕ, Bool, true, false, List, [], ◌∷◌, ◌++◌, Option, Some, None, if◌then◌else◌, option_map}
use Rattle.std.specs.List.{filter_map}
use Rattle.std.proofs.Common.{refl, sym, ◌∙◌, ap, subst, add-zero, append-nil}
use Rattle.std.proofs.lemmas.List.Elements.{filter_map-append}
use Rattle.std.proofs.lemmas.List.Sums.{sum_by_push}
use Rattle.image_survey.specs.Survey.{IsSurveyOf}
use Rattle.image_survey.specs.Told.{AreKept, Candidate, Told, best_in, candidate, candidate_by, counts_by, counts_of, counts_with, how_many, is_ambiguous, is_best, is_no_volume, is_other, is_unread, of_image}
use Rattle.image_survey.specs.declared.counts.Counts.{Counts}
use Rattle.image_survey.specs.declared.file_id.FileId.{FileId}
use Rattle.image_survey.specs.declared.survey.Survey.{Survey}
use Rattle.image_survey.specs.declared.surveyed.BestReading.{BestReading}
use Rattle.image_survey.specs.declared.surveyed.ImageFile.{ImageFile}
use Rattle.image_survey.specs.declared.surveyed.ImageVerdict.{ImageVerdict}
use Rattle.image_survey.specs.declared.surveyed.ImageVerdict.TheVariants.{Best, Ambiguous, NoVolume}
use Rattle.image_survey.specs.declared.surveyed.Surveyed.{Surveyed}
use Rattle.image_survey.specs.declared.surveyed.Surveyed.TheVariants.{Image, Other, Unread}

many_more : (test : Surveyed → Bool) (told : List Told) (one : Told)
    → how_many test (told ++ one ∷ []) ≡ how_many test told + (if test one.found then 1 else 0)
many_more test told one = sum_by_push (λ (any : Told). if test any.found then 1 else 0) told one

stays : (test : Surveyed → Bool) (told : List Told) (one : Told) → test one.found ≡ false → how_many test (told ++ one ∷ []) ≡ how_many test told
stays test told one is = many_more test told one ∙ ap (λ (b : Bool). how_many test told + (if b then 1 else 0)) is ∙ add-zero (how_many test told)

grows : (test : Surveyed → Bool) (told : List Told) (one : Told) → test one.found ≡ true → how_many test (told ++ one ∷ []) ≡ how_many test told + 1
grows test told one is = many_more test told one ∙ ap (λ (b : Bool). how_many test told + (if b then 1 else 0)) is

module _ (told : List Told) (path : List ℕ) (file : Option FileId) where
  abbrev with_one : Surveyed → List Told
  with_one found = told ++ record { path = path; file = file; found = found } ∷ []

  kept : (test : Surveyed → Bool) (found : Surveyed) → test found ≡ false → how_many test (with_one found) ≡ how_many test told
  kept test found is = stays test told (record { path = path; file = file; found = found }) is

  more : (test : Surveyed → Bool) (found : Surveyed) → test found ≡ true → how_many test (with_one found) ≡ how_many test told + 1
  more test found is = grows test told (record { path = path; file = file; found = found }) is

  by_verdict : (image : ImageFile) (verdict : ImageVerdict) → image.verdict ≡ verdict
      → counts_of (with_one (Image image)) ≡ counts_by (counts_of told) verdict
  by_verdict image (Best best) is = λ i. record {
    best = more (of_image is_best) (Image image) (ap is_best is) i;
    ambiguous = kept (of_image is_ambiguous) (Image image) (ap is_ambiguous is) i;
    none = kept (of_image is_no_volume) (Image image) (ap is_no_volume is) i;
    other = kept is_other (Image image) refl i;
    unread = kept is_unread (Image image) refl i;
  }
  by_verdict image Ambiguous is = λ i. record {
    best = kept (of_image is_best) (Image image) (ap is_best is) i;
    ambiguous = more (of_image is_ambiguous) (Image image) (ap is_ambiguous is) i;
    none = kept (of_image is_no_volume) (Image image) (ap is_no_volume is) i;
    other = kept is_other (Image image) refl i;
    unread = kept is_unread (Image image) refl i;
  }
  by_verdict image NoVolume is = λ i. record {
    best = kept (of_image is_best) (Image image) (ap is_best is) i;
    ambiguous = kept (of_image is_ambiguous) (Image image) (ap is_ambiguous is) i;
    none = more (of_image is_no_volume) (Image image) (ap is_no_volume is) i;
    other = kept is_other (Image image) refl i;
    unread = kept is_unread (Image image) refl i;
  }

  -- the counts with one file more
  pub counts_more : (found : Surveyed) → counts_of (with_one found) ≡ counts_with (counts_of told) found
  counts_more Other = λ i. record {
    best = kept (of_image is_best) Other refl i;
    ambiguous = kept (of_image is_ambiguous) Other refl i;
    none = kept (of_image is_no_volume) Other refl i;
    other = more is_other Other refl i;
    unread = kept is_unread Other refl i;
  }
  counts_more Unread = λ i. record {
    best = kept (of_image is_best) Unread refl i;
    ambiguous = kept (of_image is_ambiguous) Unread refl i;
    none = kept (of_image is_no_volume) Unread refl i;
    other = kept is_other Unread refl i;
    unread = more is_unread Unread refl i;
  }
  counts_more (Image image) = by_verdict image image.verdict refl

-- the images that were found, with one file more
with_image : (told : List Told) (one : Told) (best : BestReading) → best_in one.found ≡ Some best
    → filter_map candidate (told ++ one ∷ []) ≡ filter_map candidate told ++ candidate_by one.path one.file best ∷ []
with_image told one best is =
    filter_map-append candidate told (one ∷ [])
    ∙ ap
    (λ (found : Option BestReading). filter_map candidate told ++ filter_map (λ (image : Option Candidate). image) (option_map (candidate_by one.path one.file) found ∷ []))
    is

without_image : (told : List Told) (one : Told) → best_in one.found ≡ None → filter_map candidate (told ++ one ∷ []) ≡ filter_map candidate told
without_image told one is =
    filter_map-append candidate told (one ∷ [])
    ∙ ap
    (λ (found : Option BestReading). filter_map candidate told ++ filter_map (λ (image : Option Candidate). image) (option_map (candidate_by one.path one.file) found ∷ []))
    is
    ∙ append-nil (filter_map candidate told)

-- the survey of one file more
module _ (told : List Told) (one : Told) (old new : Survey) (before : IsSurveyOf told old) (counts : new.counts ≡ counts_with old.counts one.found) where
  all_counts : new.counts ≡ counts_of (told ++ one ∷ [])
  all_counts =
      counts ∙ ap (λ (c : Counts). counts_with c one.found) before.counts ∙ sym (counts_more told one.path one.file one.found)

  pub survey_with : (best : BestReading) → best_in one.found ≡ Some best
      → AreKept (filter_map candidate told ++ candidate_by one.path one.file best ∷ []) new.images → IsSurveyOf (told ++ one ∷ []) new
  survey_with best is kept = record {
    counts = all_counts;
    kept = subst (λ (found : List Candidate). AreKept found new.images) (sym (with_image told one best is)) kept;
  }

  pub survey_without : best_in one.found ≡ None → AreKept (filter_map candidate told) new.images → IsSurveyOf (told ++ one ∷ []) new
  survey_without is kept = record {
    counts = all_counts;
    kept = subst (λ (found : List Candidate). AreKept found new.images) (sym (without_image told one is)) kept;
  }
