use Rattle.std.proofs.Common.{◌∙◌, ap}
use Rattle.pro_bitmap.specs.Bitmap.{free_count_of}
use Rattle.pro_format.specs.ProVolume.{tree_of, map_in, system_of}
use Rattle.file_formats.specs.lemmas.ProShown.{free_count-pro}
use Rattle.file_formats.proofs.pro.ProdosFileFormat.free_count.Goals as goal

pub returns : goal.returns
returns g c =
    let v = c.args.volume.now in
    c.free_count.ensures ∙ ap free_count_of c.map.ensures ∙ free_count-pro (system_of v) (tree_of v) (map_in v) v.fitted.total
