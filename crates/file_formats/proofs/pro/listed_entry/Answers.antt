use Rattle.std.proofs.Common.{◌∙◌, ap, sym, subst, ◌<◌, length}
use Rattle.pro_dir.specs.Listed.{directory_of}
use Rattle.pro_dir.specs.Volume.{Directory as Tree}
use Rattle.pro_format.specs.ProVolume.{tree_of, map_in, system_of}
use Rattle.file_formats.proofs.ProEntries.{in_tree, in_shown, shown-pro}
use Rattle.file_formats.proofs.pro.listed_entry.Goals as goal

pub path_into-requires : goal.path_into-requires
path_into-requires g c =
    let v = c.args.volume.now in subst (λ (tree : Tree). c.args.entry < length tree.entries) (sym (ap directory_of c.directory.ensures)) (in_tree (system_of v) (tree_of v) (map_in v).units c.args.entry c.requires)

pub bounds-entries-entry : goal.bounds-entries-entry
bounds-entries-entry g c =
    let v = c.args.volume.now in in_shown (system_of v) (tree_of v) (map_in v).units c.args.entry c.requires c.entries.result.now (c.entries.ensures ∙ ap (λ (tree : Tree). tree.entries) (ap directory_of c.directory-2.ensures))

pub returns : goal.returns
returns g c =
    let v = c.args.volume.now in shown-pro (system_of v) (tree_of v) (map_in v).units c.args.entry c.requires c.entries.result.now _ c.path_into.new.path.items c.with_path.result
    (c.entries.ensures ∙ ap (λ (tree : Tree). tree.entries) (ap directory_of c.directory-2.ensures)) c.with_path.ensures
    _ (ap directory_of c.directory.ensures) c.in_ok-path_into.ensures
