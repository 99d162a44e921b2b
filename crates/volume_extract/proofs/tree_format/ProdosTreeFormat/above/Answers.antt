use Rattle.std.proofs.Common.{◌<◌, ap, sym, subst, length}
use Rattle.pro_dir.specs.Listed.{directory_of}
use Rattle.pro_dir.specs.Volume.{Directory as Tree}
use Rattle.pro_format.specs.ProVolume.{tree_of, map_in, system_of}
use Rattle.file_formats.proofs.ProEntries.{in_tree}
use Rattle.volume_extract.proofs.TreeNames.{is_above_by}
use Rattle.volume_extract.proofs.tree_format.ProdosTreeFormat.above.Goals as goal

pub parent-requires : goal.parent-requires
parent-requires g c =
    let v = c.args.volume.now in subst (λ (tree : Tree). c.args.entry < length tree.entries) (sym (ap directory_of c.directory.ensures)) (in_tree (system_of v) (tree_of v) (map_in v).units c.args.entry c.requires)

pub returns : goal.returns
returns g c =
    let v = c.args.volume.now in
    is_above_by (system_of v) (tree_of v) (map_in v).units _ (ap (λ (tree : Tree). tree.entries) (ap directory_of c.directory.ensures)) c.args.entry c.requires
    c.parent.result c.parent.ensures.before c.parent.ensures.directory c.parent.ensures.below c.parent.ensures.top
