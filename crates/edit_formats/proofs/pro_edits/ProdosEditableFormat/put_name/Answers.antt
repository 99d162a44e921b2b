use Rattle.std.proofs.Common.{◌∙◌, ap, refl}
use Rattle.pro_dir.specs.Listed.{directory_of}
use Rattle.pro_dir.specs.Volume.{Directory as Tree}
use Rattle.pro_format.specs.ProVolume.{tree_of, map_in, system_of}
use Rattle.file_formats.proofs.ProEntries.{in_shown}
use Rattle.edit_formats.proofs.NamedEntries.{name-pro}
use Rattle.edit_formats.proofs.pro_edits.ProdosEditableFormat.put_name.Goals as goal

pub bounds-entries-file : goal.bounds-entries-file
bounds-entries-file g c =
    let v = c.args.volume.now in in_shown (system_of v) (tree_of v) (map_in v).units c.args.file c.requires.file c.entries.result.now (c.entries.ensures ∙ ap (λ (tree : Tree). tree.entries) (ap directory_of c.directory.ensures))

pub returns : goal.returns
returns g c =
    let v = c.args.volume.now in
    name-pro (system_of v) (tree_of v) (map_in v).units c.args.file c.requires.file c.entries.result.now _
    (c.entries.ensures ∙ ap (λ (tree : Tree). tree.entries) (ap directory_of c.directory.ensures))
    c.args.name.now c.pro_name.result c.args.unit.now c.set_name.new.unit _ c.pro_name.ensures refl c.set_name.ensures
