-- The format of a volume.
use Rattle.std.specs.Prelude.{◌≡◌, Bool, List}
use Rattle.shop_jobs.specs.declared.input.FileSystem.TheVariants as systems
use Rattle.shop_jobs.specs.declared.input.VolumeOptions.{VolumeOptions}
use Rattle.shop_volumes.specs.declared.volume_format.VolumeFormat.{VolumeFormat}
use Rattle.shop_volumes.specs.declared.volume_format.VolumeFormat.TheVariants.{Dos, Prodos}

-- the format of a volume that is read so, where these places are reserved
abbrev pub IsFormatOf : VolumeOptions → List Bool → VolumeFormat → Type 0
IsFormatOf options reserved (Dos format) =
    (options.file_system ≡ systems.Dos) × (format ≡ record { data_disk = options.data_disk; reserved = reserved })
IsFormatOf options reserved (Prodos format) = (options.file_system ≡ systems.Prodos) × (format ≡ reserved)
