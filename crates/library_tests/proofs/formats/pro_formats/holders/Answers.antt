use Rattle.std.proofs.Common.{◌<◌, get_or, subst, sym}
use Rattle.std.specs.List.{All}
use Rattle.std.proofs.lemmas.List.{get_or_default}
use Rattle.a2_device.specs.declared.part.Part.{Part}
use Rattle.vol_format.specs.Directory.{entries}
use Rattle.pro_format.specs.Pro.{directory_with}
use Rattle.pro_format.specs.ProVolume.{tree_of, map_in, system_of}
use Rattle.library_tests.proofs.formats.pro_formats.holders.Goals as goal

pub holder-requires-clause-files : goal.holder-requires-clause-files
holder-requires-clause-files c =
    let checked = c.in-Ok.checked in
    let told : All (λ (part : Part). part.file < entries (directory_with (system_of checked.volume) (tree_of checked.volume) (map_in checked.volume).units)) checked.parts.items =
    λ k d within. c.in-Ok.ensures.told.in_files (get_or checked.parts.items k d) (k, within, get_or_default checked.parts.items k (get_or checked.parts.items k d) d within) in
    subst (λ v. All (λ (part : Part). part.file < entries (directory_with (system_of v) (tree_of v) (map_in v).units)) c.parts.result.now) (sym c.volume.ensures)
    (subst (All (λ (part : Part). part.file < entries (directory_with (system_of checked.volume) (tree_of checked.volume) (map_in checked.volume).units))) (sym c.parts.ensures) told)
