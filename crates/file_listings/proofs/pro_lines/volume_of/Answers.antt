use Rattle.std.proofs.Common.{◌∙◌, ap, length, sym}
use Rattle.pro_bitmap.specs.Bitmap.{free_count_of}
use Rattle.pro_dir.specs.Entry.{name_of}
use Rattle.pro_dir.specs.Listed.{directory_of}
use Rattle.pro_dir.specs.Volume.{Directory as Tree, total_blocks}
use Rattle.pro_format.specs.ProVolume.{tree_of, map_in, system_of}
use Rattle.pro_format.specs.lemmas.ProDirectory.{length-listed}
use Rattle.file_formats.specs.lemmas.ProShown.{free_count-pro}
use Rattle.file_listings.proofs.RowLines.{told_of}
use Rattle.file_listings.specs.ProLines.{directory_in}
use Rattle.file_listings.proofs.pro_lines.volume_of.Goals as goal

pub returns : goal.returns
returns g c =
    let v = c.args.volume.now in
    let tree = tree_of v in
    told_of (directory_in v) c.entries.result.now c.free_count.result c.total.result c.name.result.now
    (ap length (c.entries.ensures ∙ ap (λ (tree : Tree). tree.entries) (ap directory_of c.directory.ensures))
    ∙ sym (length-listed (total_blocks tree.header) tree.entries))
    (c.free_count.ensures ∙ ap free_count_of c.map.ensures ∙ free_count-pro (system_of v) tree (map_in v) v.fitted.total)
    (c.total.ensures ∙ ap (λ (tree : Tree). total_blocks tree.header) (ap directory_of c.directory-2.ensures))
    (c.name.ensures ∙ ap (λ (tree : Tree). name_of tree.header) (ap directory_of c.directory-3.ensures))
