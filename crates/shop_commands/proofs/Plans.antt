-- How a volume is extracted, by the words of a job.
use Rattle.std.proofs.Common.{◌≡◌, ◌∙◌, ap, Bool, List, []}
use Rattle.vol_layout.specs.declared.form.PlaceForm.{PlaceForm}
use Rattle.volume_extract.specs.Extraction.{plan_of}
use Rattle.shop_jobs.specs.declared.folders.ExtractOptions.{ExtractOptions}
use Rattle.shop_jobs.specs.declared.input.VolumeOptions.{VolumeOptions}
use Rattle.shop_replies.specs.Volume.{form_of, meaning_of}
use Rattle.shop_volumes.specs.VolumeFiles.{files_of}
use Rattle.shop_commands.specs.Extracting.{options_of, own_of, plan_for}

pub said_plan : (volume : VolumeOptions) (options : ExtractOptions) (form : PlaceForm) (reserved : List Bool)
    → form ≡ form_of volume.file_system → reserved ≡ []
    → plan_of form (options_of options) (files_of volume.file_system) (meaning_of volume.file_system volume.data_disk reserved) (own_of volume.file_system)
    ≡ plan_for volume options
said_plan volume options form reserved same none =
    let system = volume.file_system in
    ap (λ (f : PlaceForm). plan_of f (options_of options) (files_of system) (meaning_of system volume.data_disk reserved) (own_of system)) same
    ∙ ap (λ (places : List Bool). plan_of (form_of system) (options_of options) (files_of system) (meaning_of system volume.data_disk places) (own_of system)) none
