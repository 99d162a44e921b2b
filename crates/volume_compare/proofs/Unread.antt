-- One of two volumes can't be read.
use Rattle.std.specs.Prelude.{◌≡◌, ◌≢◌, ℕ, Bool, Result, Ok, Err, IfErr, IfOk, IsTrue}
use Rattle.std.proofs.Common.{refl, subst}
use Rattle.a2_device.specs.Device.{DeviceState, OnlyReads}
use Rattle.vol_layout.specs.declared.form.PlaceForm.{PlaceForm}
use Rattle.vol_format.specs.Directory.{Directory}
use Rattle.vol_format.specs.Meaning.{Meaning}
use Rattle.file_formats.specs.Files.{FileMeaning}
use Rattle.file_formats.specs.Listing.{HasHeaderFault}
use Rattle.file_cmds.specs.Refusal.{told_device}
use Rattle.file_cmds.specs.declared.error.CmdError.{CmdError}
use Rattle.file_cmds.specs.declared.error.CmdError.TheVariants.{Check, NotFound, Device, Memory}
use Rattle.file_cmds.specs.lemmas.Reading.{one_failed}
use Rattle.volume_compare.specs.Comparison.{IsComparison, IsRefused, TellsAll}
use Rattle.volume_compare.specs.Findings.{Compared, compared_in}
use Rattle.volume_compare.specs.Refusal.{refusal_of}
use Rattle.volume_compare.specs.TooLarge.{IsTooLarge}
use Rattle.volume_compare.specs.declared.error.CompareError.{CompareError}
use Rattle.volume_compare.specs.declared.error.CompareError.TheVariants as refusals
use Rattle.volume_compare.specs.declared.report.Comparison.{Comparison}
use Rattle.volume_compare.specs.declared.finding.Side.TheVariants.{First, Second}

module _ (form : PlaceForm) (files : FileMeaning) (format : Meaning) (most : ℕ) where
  -- the first can't, and the second wasn't looked at
  pub first_unread : (T : Type 0) (old new other : DeviceState) (error : CmdError) → IsTrue old.honest → OnlyReads (told_device {T = T} (Err error)) old new
      → (error ≡ Check → HasHeaderFault format old.store) → error ≢ NotFound → IsRefused form files format most old new other other (refusal_of First error)
  first_unread T old new other Check honest reads check found = check refl
  first_unread T old new other NotFound honest reads check found = absurd (found refl)
  first_unread T old new other Device honest reads check found = one_failed old new honest reads
  first_unread T old new other Memory honest reads check found = tt

  -- the first can, and the second can't
  pub second_unread : (T : Type 0) (device device_now old new : DeviceState) (first : Directory) → format.Describes device.store first → (error : CmdError)
      → IsTrue old.honest → OnlyReads (told_device {T = T} (Err error)) old new
      → (error ≡ Check → HasHeaderFault format old.store) → error ≢ NotFound → IsRefused form files format most device device_now old new (refusal_of Second error)
  second_unread T device device_now old new first described Check honest reads check found = ((first, described), check refl)
  second_unread T device device_now old new first described NotFound honest reads check found = absurd (found refl)
  second_unread T device device_now old new first described Device honest reads check found = ((first, described), one_failed old new honest reads)
  second_unread T device device_now old new first described Memory honest reads check found = tt

  -- both can
  module _ (device device_read device_now other other_read other_now : DeviceState) (same : device_read ≡ device) (other_same : other_read ≡ other)
      (first second : Directory) (described : format.Describes device.store first) (other_described : format.Describes other.store second) where
    abbrev since_read : Compared
    since_read = compared_in form files format first second device_read device_now other_read other_now

    abbrev in_all : Compared
    in_all = compared_in form files format first second device device_now other other_now

    pub compared : (all : Bool) (result : Result Comparison CompareError) → IfOk result (TellsAll all form since_read most)
        → IfOk result (IsComparison all form files format most device device_now other other_now)
    compared all (Ok comparison) tells = record {
      first = first;
      second = second;
      described = described;
      other_described = other_described;
      tells =
          subst (λ (old : DeviceState). TellsAll all form (compared_in form files format first second old device_now other other_now) most comparison) same
          (subst (λ (old : DeviceState). TellsAll all form (compared_in form files format first second device_read device_now old other_now) most comparison) other_same tells);
    }
    compared all (Err error) tells = tt

    too_large : (error : CompareError) → IsTooLarge in_all most error → IsRefused form files format most device device_now other other_now error
    too_large (refusals.TooLarge side) large =
        record { first = first; second = second; described = described; other_described = other_described; large = large }
    too_large refusals.Memory large = tt
    too_large (refusals.Check side) large = absurd large
    too_large (refusals.Device side) large = absurd large

    pub refused : (result : Result Comparison CompareError) → IfErr result (IsTooLarge since_read most)
        → IfErr result (IsRefused form files format most device device_now other other_now)
    refused (Ok comparison) large = tt
    refused (Err error) large =
        too_large error
        (subst (λ (old : DeviceState). IsTooLarge (compared_in form files format first second old device_now other other_now) most error) same
        (subst (λ (old : DeviceState). IsTooLarge (compared_in form files format first second device_read device_now old other_now) most error) other_same large))
