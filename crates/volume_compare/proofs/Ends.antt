-- All files of two volumes are told of, or can't be.
use Rattle.std.specs.Prelude.{◌≡◌, ℕ, Bool, List, ◌++◌, IsTrue, map, string_bytes}
use Rattle.std.proofs.Common.{sym, ◌∙◌, ap, subst, arith}
use Rattle.std.proofs.lemmas.List.{length-map}
use Rattle.std.proofs.lemmas.List.Sums.{sum-map}
use Rattle.a2_device.specs.Device.{DeviceState}
use Rattle.vol_layout.specs.declared.form.PlaceForm.{PlaceForm}
use Rattle.vol_format.specs.Directory.{Directory, entries}
use Rattle.vol_format.specs.Meaning.{Meaning}
use Rattle.file_formats.specs.Files.{FileMeaning}
use Rattle.file_cmds.specs.ReadingOn.{ReadsOn}
use Rattle.file_cmds.specs.lemmas.Reading.{none_read}
use Rattle.file_listings.specs.DosText.{line}
use Rattle.volume_compare.specs.Comparison.{TellsAll}
use Rattle.volume_compare.specs.CompareText.{compare_text, told_lines, totals_text}
use Rattle.volume_compare.specs.Findings.{AreToldAloneUpTo, AreToldUpTo, Compared, compared_in, first_bytes_of}
use Rattle.volume_compare.specs.Progress.{IsOverBehind, IsToldBehind, IsToldTo}
use Rattle.volume_compare.specs.TooLarge.{IsTooLarge}
use Rattle.volume_compare.specs.declared.error.CompareError.{CompareError}
use Rattle.volume_compare.specs.declared.error.CompareError.TheVariants.{Check, Device, TooLarge, Memory}
use Rattle.volume_compare.specs.declared.finding.Side.TheVariants.{First, Second}
use Rattle.volume_compare.specs.declared.progress.Progress.{Progress}
use Rattle.volume_compare.specs.declared.report.Comparison.{Comparison}
use Rattle.volume_compare.specs.declared.totals.Totals.{Totals}
use Rattle.volume_compare.proofs.NextTold.{counts_of_told}
use Rattle.volume_compare.proofs.Wider.{early_told}

module _ (form : PlaceForm) (files : FileMeaning) (format : Meaning) (first second : Directory) (start after other other_now other_after : DeviceState)
    (other_reads : ReadsOn other other_now) (other_more : ReadsOn other_now other_after) (reads : ReadsOn start after)
    (honest : IsTrue start.honest × IsTrue other.honest) (most : ℕ) (begun : Progress) where
  abbrev by_now : Compared
  by_now = compared_in form files format first second start after other other_now

  abbrev in_all : Compared
  in_all = compared_in form files format first second start after other other_after

  module _ (told : IsToldTo (IsTrue start.honest × IsTrue other.honest) (AreToldUpTo by_now (entries first)) form most (entries first) begun) where
    all_told : AreToldUpTo in_all (entries first) told.told
    all_told =
        early_told form files format first second start after after other other_now other_after reads (none_read after) other_reads other_more (entries first) told.told
        (told.are_told honest)

    pub refused_last : (error : CompareError) → IsOverBehind in_all most told.told error → IsTooLarge in_all most error
    refused_last (TooLarge Second) over = (
      record {
        told = told.told;
        others = over.others;
        are_told = subst (λ (n : ℕ). AreToldUpTo in_all n told.told) (sym told.long) all_told;
        are_others = over.are_others;
        within = omega (arith, told.long);
        others_within = over.within;
        many = over.many;
      },
      (
        map first_bytes_of told.told,
        counts_of_told in_all (entries first) told.told all_told (omega arith),
        length-map told.told first_bytes_of ∙ told.long,
        omega (arith, sum-map first_bytes_of told.told, told.is_progress.first),
      ),
    )
    refused_last (TooLarge First) over = absurd over
    refused_last Memory over = tt
    refused_last (Check side) over = absurd over
    refused_last (Device side) over = absurd over

    pub told_last : (all : Bool) (last : Progress) (comparison : Comparison) → last.all ≡ all
        → IsToldBehind (IsTrue other.honest) (AreToldAloneUpTo in_all (entries second)) form most told.told (entries second) last
        → string_bytes comparison.text ≡ string_bytes last.report.text ++ line (totals_text last.report.totals)
        → comparison.equal ≡ last.report.totals.equal
        → TellsAll all form in_all most comparison
    told_last all last comparison all_is behind text equal = record {
      told = told.told;
      others = behind.others;
      are_told = all_told;
      are_others = behind.are_others honest.1;
      few = omega (arith, behind.is_progress.first);
      few_others = omega (arith, behind.is_progress.second);
      text = text
          ∙ ap (λ (front : List ℕ). front ++ line (totals_text last.report.totals)) behind.is_progress.text
          ∙ ap (λ (totals : Totals). told_lines last.all form (told.told ++ behind.others) ++ line (totals_text totals)) behind.is_progress.totals
          ∙ ap (λ (b : Bool). compare_text b form (told.told ++ behind.others)) all_is;
      equal = equal ∙ ap (λ (totals : Totals). totals.equal) behind.is_progress.totals;
    }
