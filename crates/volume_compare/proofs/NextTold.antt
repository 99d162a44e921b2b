-- One file more is told of, or can't be.
use Rattle.std.specs.Prelude.{◌≡◌, ◌≢◌, ◌<◌, ◌≤◌, ◌+◌, ℕ, List, [], ◌∷◌, ◌++◌, Option, Some, None, Result, Ok, Err, IsTrue, length, map}
use Rattle.std.proofs.Common.{refl, sym, ◌∙◌, ap, subst, arith, inl, inr}
use Rattle.std.proofs.lemmas.List.{append-nil, get_or-map, length-map, length_push}
use Rattle.std.proofs.lemmas.List.Sums.{sum-map, sum_by_push}
use Rattle.a2_device.specs.Device.{DeviceState}
use Rattle.vol_layout.specs.declared.form.PlaceForm.{PlaceForm}
use Rattle.vol_format.specs.Directory.{Directory, entries}
use Rattle.vol_format.specs.Fits.{Fits}
use Rattle.vol_format.specs.Meaning.{Meaning}
use Rattle.file_formats.specs.Files.{FileMeaning}
use Rattle.file_cmds.specs.ReadingOn.{FailedInFile, ReadsOn}
use Rattle.volume_compare.specs.CompareText.{AreAtMost}
use Rattle.volume_compare.specs.Findings.{AreToldUpTo, Compared, IsFinding, IsTold, Told, compared_in, first_bytes_of, second_bytes, second_bytes_of, told_at}
use Rattle.volume_compare.specs.Progress.{IsTelling, IsToldTo, TellsNext}
use Rattle.volume_compare.specs.TooLarge.{AreCounts, HasTooMany, HasTooManySecond, IsCount, IsCountedTo, IsLargerBy, IsTooLarge}
use Rattle.volume_compare.specs.declared.error.CompareError.{CompareError}
use Rattle.volume_compare.specs.declared.error.CompareError.TheVariants.{Check, Device, TooLarge, Memory}
use Rattle.volume_compare.specs.declared.finding.Finding.{Finding}
use Rattle.volume_compare.specs.declared.finding.Finding.TheVariants.{Unreadable, Only, Body, Entry, Same}
use Rattle.volume_compare.specs.declared.finding.Found.{Found}
use Rattle.volume_compare.specs.declared.finding.Side.TheVariants.{First, Second}
use Rattle.volume_compare.specs.declared.progress.Progress.{Progress}
use Rattle.volume_compare.specs.declared.totals.Totals.{Totals}
use Rattle.file_cmds.specs.lemmas.Reading.{failed_in_file_before, none_read, read_twice}
use Rattle.volume_compare.proofs.Counts.{wider_counts}
use Rattle.volume_compare.proofs.Wider.{early_told, early_told_alone, late_told, told_more}

-- what was told of one
pub tells : (honest : Type 0) (IsNext : Option Told → Type 0) (form : PlaceForm) (old new : Progress) (next : Option Told) (result : Result (Unit {0}) CompareError)
    → IsTelling form old new next result → (honest → IsNext next) → TellsNext honest IsNext form old new result
tells honest IsNext form old new next (Ok done) told is = (next, told, is)
tells honest IsNext form old new next (Err Memory) told is = tt
tells honest IsNext form old new next (Err (TooLarge side)) told is = (next, told, is)
tells honest IsNext form old new next (Err (Check side)) told is = absurd told
tells honest IsNext form old new next (Err (Device side)) told is = absurd told

-- where they are few, they are few under a greater bound
pub few_under : (totals : Totals) (low high : ℕ) → low ≤ high → AreAtMost totals low → AreAtMost totals high
few_under totals low high under few = record {
  same = omega (arith, few.same);
  body = omega (arith, few.body);
  entry = omega (arith, few.entry);
  only_first = omega (arith, few.only_first);
  only_second = omega (arith, few.only_second);
  unreadable = omega (arith, few.unreadable);
}

pub few_yet : (totals : Totals) (most : ℕ) → AreAtMost totals most → AreAtMost totals (most + 1)
few_yet totals most few = few_under totals most (most + 1) (omega arith) few

-- a device that was read is as large as before
pub still_fits : (format : Meaning) (old new : DeviceState) → Fits format old → ReadsOn old new → Fits format new
still_fits format old new fits reads = record {
  unit = reads.same.unit_size ∙ fits.unit;
  places = subst format.Takes (sym reads.same.places) fits.places;
}

-- how many bytes of the first volume were read for what is found of a file is how many its text has
count_by_finding : (compared : Compared) (file : ℕ) (found : Found) (finding : Finding) → IsFinding compared file found finding
    → IsCount compared.first compared.first_failed file found.first_bytes
count_by_finding compared file found (Unreadable First) is = inl (is.bytes.0, inr is.unread)
count_by_finding compared file found (Unreadable Second) is = inr (is.content, is.is_content, is.bytes.0)
count_by_finding compared file found (Only First) is = inr (is.content, is.is_content, is.bytes.0)
count_by_finding compared file found (Only Second) is = absurd is
count_by_finding compared file found Body is = inr (is.content, is.is_content, is.bytes.0)
count_by_finding compared file found Entry is = inr (is.content, is.is_content, is.bytes.0)
count_by_finding compared file found Same is = inr (is.content, is.is_content, is.bytes.0)

count_of_told : (compared : Compared) (file : ℕ) (told : Option Told) → IsTold compared file told → IsCount compared.first compared.first_failed file (first_bytes_of told)
count_of_told compared file (Some told) is = count_by_finding compared file told.found told.found.finding is.1
count_of_told compared file None is = inl (refl, inl is)

pub counts_of_told : (compared : Compared) (many : ℕ) (told : List (Option Told)) → AreToldUpTo compared many told → many ≤ entries compared.first.directory
    → AreCounts compared.first compared.first_failed (map first_bytes_of told)
counts_of_told compared many told are within = record {
  within = omega (arith, length-map told first_bytes_of, are.long);
  each = λ file low.
      let inside : file < length told = omega (arith, low, length-map told first_bytes_of) in
      subst (IsCount compared.first compared.first_failed file) (sym (get_or-map first_bytes_of told file None 0 inside))
      (count_of_told compared file (told_at told file) (are.each file (omega (arith, inside, are.long))));
}

module _ (form : PlaceForm) (files : FileMeaning) (format : Meaning) (first second : Directory) (start now after other other_now other_after : DeviceState)
    (reads : ReadsOn start now) (more : ReadsOn now after) (other_reads : ReadsOn other other_now) (other_more : ReadsOn other_now other_after)
    (most many : ℕ) (old new : Progress) where
  abbrev by_now : Compared
  by_now = compared_in form files format first second start now other other_now

  abbrev since_now : Compared
  since_now = compared_in form files format first second now after other_now other_after

  abbrev in_all : Compared
  in_all = compared_in form files format first second start after other other_after

  abbrev AreHonest : Type 0
  AreHonest = IsTrue start.honest × IsTrue other.honest

  abbrev BothHonest : Type 0
  BothHonest = IsTrue now.honest × IsTrue other_now.honest

  both : AreHonest → BothHonest
  both honest = (subst IsTrue (sym reads.same.honest) honest.0, subst IsTrue (sym other_reads.same.honest) honest.1)

  module _ (before : IsToldTo AreHonest (AreToldUpTo by_now many) form most many old) where
    told_next : (next : Option Told) → (BothHonest → IsTold since_now many next) → AreHonest → AreToldUpTo in_all (many + 1) (before.told ++ next ∷ [])
    told_next next is honest =
        told_more in_all many before.told next
        (early_told form files format first second start now after other other_now other_after reads more other_reads other_more many before.told (before.are_told honest))
        (late_told form files format first second start now after other other_now other_after reads more other_reads other_more honest.0 honest.1 many next (is (both honest)))

    pub one_more : (done : Unit {0}) → TellsNext BothHonest (IsTold since_now many) form old new (Ok done) → IsToldTo AreHonest (AreToldUpTo in_all (many + 1)) form most (many + 1) new
    one_more done tells = record {
      told = before.told ++ tells.0 ∷ [];
      long = length_push before.told tells.0 ∙ ap (λ (n : ℕ). n + 1) before.long;
      is_progress = tells.1 most before.told before.is_progress;
      are_told = told_next tells.0 tells.2;
    }

    -- the first volume has too many bytes with this file
    pub first_over : TellsNext BothHonest (IsTold since_now many) form old new (Err (TooLarge First)) → many < entries first → AreHonest
        → HasTooMany in_all.first in_all.first_failed most
    first_over tells low honest =
        let all = before.told ++ tells.0 ∷ [] in
        let bytes = sum-map first_bytes_of all in
        let pushed = sum_by_push first_bytes_of before.told tells.0 in (
          map first_bytes_of all,
          counts_of_told in_all (many + 1) all (told_next tells.0 tells.2 honest) (omega arith),
          omega (arith, bytes, pushed, before.is_progress.first, tells.1),
        )

    -- the second has; and so far the bytes of the first are counted
    pub second_over : TellsNext BothHonest (IsTold since_now many) form old new (Err (TooLarge Second)) → many < entries first → AreHonest
        → HasTooManySecond in_all most
    second_over tells low honest =
        let all = before.told ++ tells.0 ∷ [] in
        let pushed = sum_by_push second_bytes_of before.told tells.0 in
        let long : length all ≡ many + 1 = length_push before.told tells.0 ∙ ap (λ (n : ℕ). n + 1) before.long in
        record {
          told = all;
          others = [];
          are_told = subst (λ (n : ℕ). AreToldUpTo in_all n all) (sym long) (told_next tells.0 tells.2 honest);
          are_others = record { long = refl; each = λ file none. absurd (omega arith) };
          within = omega (arith, long);
          others_within = omega arith;
          many = subst (λ (told : List (Option Told)). most < second_bytes told) (sym (append-nil all))
              (omega (arith, pushed, before.is_progress.second, tells.1.1));
        }

    pub first_counted : TellsNext BothHonest (IsTold since_now many) form old new (Err (TooLarge Second)) → many < entries first → AreHonest
        → IsCountedTo in_all.first in_all.first_failed most (many + 1) new.left.first
    first_counted tells low honest =
        let all = before.told ++ tells.0 ∷ [] in
        let bytes = sum-map first_bytes_of all in
        let pushed = sum_by_push first_bytes_of before.told tells.0 in
        record {
          counts = map first_bytes_of all;
          long = length-map all first_bytes_of ∙ length_push before.told tells.0 ∙ ap (λ (n : ℕ). n + 1) before.long;
          are_counts = counts_of_told in_all (many + 1) all (told_next tells.0 tells.2 honest) (omega arith);
          rest = omega (arith, bytes, pushed, before.is_progress.first, tells.1.0);
        }

    -- the first volume was read on, to see whether it has too many bytes
    module _ (last : DeviceState) (behind : ReadsOn after last) where
      abbrev in_last : Compared
      in_last = compared_in form files format first second start last other other_after

      on : (file : ℕ) → FailedInFile format first start after file → FailedInFile format first start last file
      on file failed = failed_in_file_before format first start after last file behind failed

      until_last : (all : List (Option Told)) → AreToldUpTo in_all (length all) all → AreToldUpTo in_last (length all) all
      until_last all are =
          early_told form files format first second start after last other other_after other_after (read_twice start now after reads more) behind
          (read_twice other other_now other_after other_reads other_more) (none_read other_after) (length all) all are

      second_until_last : HasTooManySecond in_all most → HasTooManySecond in_last most
      second_until_last is = record {
        told = is.told;
        others = is.others;
        are_told = until_last is.told is.are_told;
        are_others =
            early_told_alone form files format first second start after last other other_after other_after (read_twice start now after reads more) behind
            (read_twice other other_now other_after other_reads other_more) (none_read other_after) (length is.others) is.others is.are_others;
        within = is.within;
        others_within = is.others_within;
        many = is.many;
      }

      pub refused : (error result : CompareError) → TellsNext BothHonest (IsTold since_now many) form old new (Err error) → many < entries first → AreHonest
          → (error ≢ TooLarge Second → result ≡ error)
          → (IsCountedTo in_all.first in_all.first_failed most (many + 1) new.left.first → error ≡ TooLarge Second → IsLargerBy in_last.first in_last.first_failed most result)
          → IsTooLarge in_last most result
      refused (TooLarge First) result tells low honest same larger =
          subst (IsTooLarge in_last most) (sym (same (λ is. cc)))
          (let over = first_over tells low honest in (over.0, wider_counts in_all.first in_all.first_failed in_last.first_failed on over.0 over.1, over.2))
      refused (TooLarge Second) result tells low honest same larger = by_result result (larger (first_counted tells low honest) refl)
        where
          by_result : (result : CompareError) → IsLargerBy in_last.first in_last.first_failed most result → IsTooLarge in_last most result
          by_result (TooLarge First) is = is
          by_result (TooLarge Second) is = (second_until_last (second_over tells low honest), is)
          by_result Memory is = tt
          by_result (Check side) is = absurd is
          by_result (Device side) is = absurd is
      refused Memory result tells low honest same larger = subst (IsTooLarge in_last most) (sym (same (λ is. cc))) tt
      refused (Check side) result tells low honest same larger = absurd tells.1
      refused (Device side) result tells low honest same larger = absurd tells.1
