use Rattle.std.proofs.Common.{ap, sym, subst, ◌<◌, length}
use Rattle.pro_dir.specs.Listed.{directory_of}
use Rattle.pro_dir.specs.Volume.{Directory as Tree}
use Rattle.pro_format.specs.ProVolume.{tree_of, map_in, system_of}
use Rattle.file_formats.specs.FileNames.{name_view}
use Rattle.file_formats.proofs.ProEntries.{in_tree, matches-pro}
use Rattle.file_formats.proofs.pro.ProdosFileFormat.matches.Goals as goal

pub is_name-requires : goal.is_name-requires
is_name-requires g c =
    let v = c.args.volume.now in subst (λ (tree : Tree). c.args.file < length tree.entries) (sym (ap directory_of c.directory.ensures)) (in_tree (system_of v) (tree_of v) (map_in v).units c.args.file c.requires)

pub returns : goal.returns
returns g c =
    let v = c.args.volume.now in
    matches-pro (system_of v) (tree_of v) (map_in v).units c.args.file c.requires (name_view c.args.name) c.is_name.result _ (ap directory_of c.directory.ensures) c.is_name.ensures
