use Rattle.std.proofs.Common.{◌∙◌, ap}
use Rattle.pro_dir.specs.Listed.{directory_of}
use Rattle.pro_dir.specs.Volume.{Directory as Tree}
use Rattle.pro_format.specs.ProVolume.{tree_of, map_in, system_of}
use Rattle.file_formats.proofs.ProEntries.{in_shown}
use Rattle.edit_formats.proofs.NamedEntries.{access-pro}
use Rattle.edit_formats.proofs.pro_edits.ProdosEditableFormat.keeps_name.Goals as goal

pub bounds-entries-file : goal.bounds-entries-file
bounds-entries-file g c =
    let v = c.args.volume.now in in_shown (system_of v) (tree_of v) (map_in v).units c.args.file c.requires c.entries.result.now (c.entries.ensures ∙ ap (λ (tree : Tree). tree.entries) (ap directory_of c.directory.ensures))

pub returns : goal.returns
returns g c =
    let v = c.args.volume.now in
    access-pro (system_of v) (tree_of v) (map_in v).units c.args.file c.requires c.entries.result.now _
    (c.entries.ensures ∙ ap (λ (tree : Tree). tree.entries) (ap directory_of c.directory.ensures))
    0x40 c.access.result.0 c.can_rename.result c.access.ensures c.can_rename.ensures
