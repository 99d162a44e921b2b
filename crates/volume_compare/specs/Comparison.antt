-- What is told of two volumes that are compared.
use Rattle.std.specs.Prelude.{◌≡◌, ◌≤◌, ℕ, Bool, List, ◌++◌, Option, string_bytes}
use Rattle.a2_device.specs.Device.{DeviceState}
use Rattle.vol_layout.specs.declared.form.PlaceForm.{PlaceForm}
use Rattle.vol_format.specs.Directory.{Directory, entries}
use Rattle.vol_format.specs.Meaning.{Meaning}
use Rattle.file_formats.specs.Files.{FileMeaning}
use Rattle.file_formats.specs.Listing.{HasHeaderFault}
use Rattle.file_cmds.specs.ReadingOn.{FailedBetween}
use Rattle.volume_compare.specs.CompareText.{are_equal, compare_text}
use Rattle.volume_compare.specs.Findings.{AreToldAloneUpTo, AreToldUpTo, Compared, Told, compared_in, first_bytes, second_bytes}
use Rattle.volume_compare.specs.TooLarge.{IsTooLarge}
use Rattle.volume_compare.specs.declared.error.CompareError.{CompareError}
use Rattle.volume_compare.specs.declared.error.CompareError.TheVariants.{Check, Device, TooLarge, Memory}
use Rattle.volume_compare.specs.declared.finding.Side.TheVariants.{First, Second}
use Rattle.volume_compare.specs.declared.report.Comparison.{Comparison}

-- Of the files of two volumes that were read it is told what they are, in the order of the first, and behind them those
-- of the second that have no partner, in its order; and whether nothing but that files are the same.
pub record TellsAll (all : Bool) (form : PlaceForm) (compared : Compared) (most : ℕ)
    (comparison : Comparison) : Type 0 where
  pub told : List (Option Told)
  pub others : List (Option Told)
  pub are_told : AreToldUpTo compared (entries compared.first.directory) told
  pub are_others : AreToldAloneUpTo compared (entries compared.second.directory) others
  pub few : first_bytes (told ++ others) ≤ most
  pub few_others : second_bytes (told ++ others) ≤ most
  pub text : string_bytes comparison.text ≡ compare_text all form (told ++ others)
  pub equal : comparison.equal ≡ are_equal (told ++ others)

-- so of what the headers, the directories and the maps of two stores say
pub record IsComparison (all : Bool) (form : PlaceForm) (files : FileMeaning) (format : Meaning) (most : ℕ)
    (device device_now other other_now : DeviceState) (comparison : Comparison) : Type 0 where
  pub first : Directory
  pub second : Directory
  pub described : format.Describes device.store first
  pub other_described : format.Describes other.store second
  pub tells : TellsAll all form (compared_in form files format first second device device_now other other_now) most
      comparison

-- their files have too many bytes
pub record IsTooLargeIn (form : PlaceForm) (files : FileMeaning) (format : Meaning) (most : ℕ)
    (device device_now other other_now : DeviceState) (error : CompareError) : Type 0 where
  pub first : Directory
  pub second : Directory
  pub described : format.Describes device.store first
  pub other_described : format.Describes other.store second
  pub large : IsTooLarge (compared_in form files format first second device device_now other other_now) most error

-- Why two volumes are not compared. The second is looked at where the first can be read.
abbrev pub IsRefused : PlaceForm → FileMeaning → Meaning → ℕ → DeviceState → DeviceState → DeviceState → DeviceState
    → CompareError → Type 0
IsRefused form files format most device device_now other other_now (Check First) = HasHeaderFault format device.store
IsRefused form files format most device device_now other other_now (Device First) = FailedBetween device device_now
IsRefused form files format most device device_now other other_now (Check Second) =
    ((first : Directory) × format.Describes device.store first) × HasHeaderFault format other.store
IsRefused form files format most device device_now other other_now (Device Second) =
    ((first : Directory) × format.Describes device.store first) × FailedBetween other other_now
IsRefused form files format most device device_now other other_now (TooLarge side) =
    IsTooLargeIn form files format most device device_now other other_now (TooLarge side)
IsRefused form files format most device device_now other other_now Memory = Unit {0}
