-- What holds of the format of a volume holds of the volume as it is read.
use Rattle.std.proofs.Common.{◌≡◌, ◌∙◌, ap, sym, subst, refl, Bool, List}
use Rattle.a2_device.specs.Device.{DeviceState}
use Rattle.dos_format.specs.Dos.{DosRules, dos_meaning}
use Rattle.pro_format.specs.Pro.{pro_meaning}
use Rattle.vol_format.specs.Fits.{Fits}
use Rattle.shop_jobs.specs.declared.input.FileSystem.{FileSystem}
use Rattle.shop_jobs.specs.declared.input.FileSystem.TheVariants as systems
use Rattle.shop_jobs.specs.declared.input.VolumeOptions.{VolumeOptions}
use Rattle.shop_replies.specs.Volume.{HasUnitsOf}
use Rattle.shop_volumes.specs.VolumeFormat.{IsFormatOf}
use Rattle.shop_volumes.specs.declared.volume_format.VolumeFormat.{VolumeFormat}
use Rattle.shop_volumes.specs.declared.volume_format.VolumeFormat.TheVariants.{Dos, Prodos}

module _ (options : VolumeOptions) (reserved : List Bool) (format : VolumeFormat) (of : IsFormatOf options reserved format) where
  module _ (rules : DosRules) (is : format ≡ Dos rules) where
    dos : IsFormatOf options reserved (Dos rules)
    dos = subst (IsFormatOf options reserved) is of

    pub of_dos : (P : FileSystem → Bool → List Bool → Type 0) → P systems.Dos rules.data_disk rules.reserved
        → P options.file_system options.data_disk reserved
    of_dos P holds =
        subst (λ (system : FileSystem). P system options.data_disk reserved) (sym dos.0)
        (subst (λ (r : DosRules). P systems.Dos r.data_disk r.reserved) dos.1 holds)

    pub fits_dos : (device : DeviceState) → HasUnitsOf options.file_system device → Fits (dos_meaning rules.data_disk rules.reserved) device
    fits_dos device units =
        let of_disk = subst (λ (system : FileSystem). HasUnitsOf system device) dos.0 units in
        record { unit = of_disk.0; places = of_disk.1 }

  module _ (kept : List Bool) (is : format ≡ Prodos kept) where
    prodos : IsFormatOf options reserved (Prodos kept)
    prodos = subst (IsFormatOf options reserved) is of

    pub of_prodos : (P : FileSystem → Bool → List Bool → Type 0) → P systems.Prodos options.data_disk kept
        → P options.file_system options.data_disk reserved
    of_prodos P holds =
        subst (λ (system : FileSystem). P system options.data_disk reserved) (sym prodos.0)
        (subst (λ (r : List Bool). P systems.Prodos options.data_disk r) prodos.1 holds)

    pub fits_prodos : (device : DeviceState) → HasUnitsOf options.file_system device → Fits (pro_meaning kept) device
    fits_prodos device units =
        let of_blocks = subst (λ (system : FileSystem). HasUnitsOf system device) prodos.0 units in
        record { unit = of_blocks.0; places = (of_blocks.1, of_blocks.2) }
