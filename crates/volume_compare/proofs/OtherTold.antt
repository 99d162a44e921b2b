-- One file more of the second volume is told of, or can't be.
use Rattle.std.specs.Prelude.{◌≡◌, ◌<◌, ◌+◌, ℕ, List, [], ◌∷◌, ◌++◌, Option, Some, None, Ok, Err, IsTrue, length}
use Rattle.std.proofs.Common.{sym, ◌∙◌, ap, subst, arith, append_assoc}
use Rattle.std.proofs.lemmas.List.{append-nil, length_push}
use Rattle.std.proofs.lemmas.List.Sums.{sum_by_push}
use Rattle.a2_device.specs.Device.{DeviceState}
use Rattle.vol_layout.specs.declared.form.PlaceForm.{PlaceForm}
use Rattle.vol_format.specs.Directory.{Directory, entries}
use Rattle.vol_format.specs.Meaning.{Meaning}
use Rattle.file_formats.specs.Files.{FileMeaning}
use Rattle.file_cmds.specs.ReadingOn.{FailedInFile, ReadsOn}
use Rattle.file_cmds.specs.lemmas.Reading.{failed_in_file_before, failed_in_file_since}
use Rattle.volume_compare.specs.Contents.{volume_in}
use Rattle.volume_compare.specs.Findings.{AreToldAloneUpTo, Compared, IsFindingAlone, IsToldAlone, Told, compared_in, first_bytes_of, second_bytes, second_bytes_of, told_at}
use Rattle.volume_compare.specs.Progress.{IsOverBehind, IsProgress, IsToldBehind, TellsNext}
use Rattle.volume_compare.specs.CompareText.{told_lines}
use Rattle.volume_compare.specs.declared.error.CompareError.{CompareError}
use Rattle.volume_compare.specs.declared.error.CompareError.TheVariants.{Check, Device, TooLarge, Memory}
use Rattle.volume_compare.specs.declared.finding.Finding.{Finding}
use Rattle.volume_compare.specs.declared.finding.Finding.TheVariants.{Unreadable, Only, Body, Entry, Same}
use Rattle.volume_compare.specs.declared.finding.Found.{Found}
use Rattle.volume_compare.specs.declared.finding.Side.TheVariants.{First, Second}
use Rattle.volume_compare.specs.declared.progress.Progress.{Progress}
use Rattle.volume_compare.proofs.Reports.{lines_more, totals_less}
use Rattle.volume_compare.proofs.Wider.{told_alone_more, wider_told_alone}

-- an entry that is not told of
pub none_told : (form : PlaceForm) (most : ℕ) (told : List (Option Told)) (progress : Progress) → IsProgress form most told progress
    → IsProgress form most (told ++ None ∷ []) progress
none_told form most told progress is = record {
  text = is.text ∙ sym (append-nil (told_lines progress.all form told)) ∙ sym (lines_more progress.all form told None);
  totals = is.totals ∙ sym (totals_less told);
  first = omega (arith, is.first, sum_by_push first_bytes_of told None);
  second = omega (arith, is.second, sum_by_push second_bytes_of told None);
}

-- of a file of the second no byte of the first was read
none_of_first : (compared : Compared) (other : ℕ) (found : Found) (finding : Finding) → IsFindingAlone compared other found finding → found.first_bytes ≡ 0
none_of_first compared other found (Unreadable Second) is = is.bytes.0
none_of_first compared other found (Unreadable First) is = absurd is
none_of_first compared other found (Only Second) is = is.bytes.0
none_of_first compared other found (Only First) is = absurd is
none_of_first compared other found Body is = absurd is
none_of_first compared other found Entry is = absurd is
none_of_first compared other found Same is = absurd is

none_over : (compared : Compared) (other left : ℕ) (told : Option Told) → IsToldAlone compared other told → ¬ (left < first_bytes_of told)
none_over compared other left (Some told) is over = absurd (omega (arith, none_of_first compared other told.found told.found.finding is.2))
none_over compared other left None is over = absurd (omega arith)

module _ (form : PlaceForm) (files : FileMeaning) (format : Meaning) (first second : Directory) (device device_now start now after : DeviceState)
    (reads : ReadsOn start now) (more : ReadsOn now after)
    (most many : ℕ) (told : List (Option Told)) (old new : Progress) where
  abbrev by_now : Compared
  by_now = compared_in form files format first second device device_now start now

  abbrev since_now : Compared
  since_now = compared_in form files format first second device device_now now after

  abbrev in_all : Compared
  in_all = compared_in form files format first second device device_now start after

  -- what stood on the second device when it was read later
  abbrev with_store : List (List ℕ) → Compared
  with_store store = record in_all { second = volume_in form files format second store }

  both : IsTrue start.honest → IsTrue now.honest
  both honest = subst IsTrue (sym reads.same.honest) honest

  module _ (before : IsToldBehind (IsTrue start.honest) (AreToldAloneUpTo by_now many) form most told many old) where
    told_next : (next : Option Told) → (IsTrue now.honest → IsToldAlone since_now many next) → IsTrue start.honest
        → AreToldAloneUpTo in_all (many + 1) (before.others ++ next ∷ [])
    told_next next is honest =
        told_alone_more in_all many before.others next
        (earlier many before.others (before.are_others honest))
        (later honest many next (is (both honest)))
      where
        earlier : (many : ℕ) (others : List (Option Told)) → AreToldAloneUpTo by_now many others → AreToldAloneUpTo in_all many others
        earlier many others are = record {
          long = are.long;
          each = λ other low. wider_told_alone by_now (FailedInFile format first device device_now) (FailedInFile format second start after) (λ file failed. failed)
              (λ file failed. failed_in_file_before format second start now after file more failed) other (told_at others other) (are.each other low);
        }

        later : IsTrue start.honest → (other : ℕ) (next : Option Told) → IsToldAlone since_now other next → IsToldAlone in_all other next
        later honest other next is =
            subst (λ (store : List (List ℕ)). IsToldAlone (with_store store) other next) (ap (λ (device : DeviceState). device.store) (reads.kept honest))
            (wider_told_alone since_now (FailedInFile format first device device_now) (FailedInFile format second start after) (λ file failed. failed)
            (λ file failed. failed_in_file_since format second start now after file honest reads failed) other next is)

    all_told : (next : Option Told) → told ++ (before.others ++ next ∷ []) ≡ (told ++ before.others) ++ next ∷ []
    all_told next = sym (append_assoc told before.others (next ∷ []))

    pub one_more : (done : Unit {0}) → TellsNext (IsTrue now.honest) (IsToldAlone since_now many) form old new (Ok done)
        → IsToldBehind (IsTrue start.honest) (AreToldAloneUpTo in_all (many + 1)) form most told (many + 1) new
    one_more done tells = record {
      others = before.others ++ tells.0 ∷ [];
      long = length_push before.others tells.0 ∙ ap (λ (n : ℕ). n + 1) before.long;
      is_progress = subst (λ (all : List (Option Told)). IsProgress form most all new) (sym (all_told tells.0)) (tells.1 most (told ++ before.others) before.is_progress);
      are_others = told_next tells.0 tells.2;
    }

    pub refused : (error : CompareError) → TellsNext (IsTrue now.honest) (IsToldAlone since_now many) form old new (Err error) → many < entries second
        → IsTrue start.honest → IsOverBehind in_all most told error
    refused (TooLarge First) tells low honest = absurd (none_over since_now many old.left.first tells.0 (tells.2 (both honest)) tells.1)
    refused (TooLarge Second) tells low honest =
        let others = before.others ++ tells.0 ∷ [] in
        let long : length others ≡ many + 1 = length_push before.others tells.0 ∙ ap (λ (n : ℕ). n + 1) before.long in
        let pushed = sum_by_push second_bytes_of (told ++ before.others) tells.0 in
        record {
          others = others;
          are_others = subst (λ (n : ℕ). AreToldAloneUpTo in_all n others) (sym long) (told_next tells.0 tells.2 honest);
          within = omega (arith, long);
          many = subst (λ (all : List (Option Told)). most < second_bytes all) (sym (all_told tells.0)) (omega (arith, pushed, before.is_progress.second, tells.1.1));
        }
    refused Memory tells low honest = tt
    refused (Check side) tells low honest = absurd tells.1
    refused (Device side) tells low honest = absurd tells.1
