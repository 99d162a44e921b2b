use Rattle.std.proofs.Common.{◌∙◌, ap}
use Rattle.pro_dir.specs.Listed.{directory_of}
use Rattle.pro_dir.specs.Volume.{Directory as Tree}
use Rattle.pro_format.specs.ProVolume.{tree_of, map_in, system_of}
use Rattle.file_formats.proofs.ProEntries.{in_shown}
use Rattle.edit_formats.proofs.EntryWrites.{lock-pro}
use Rattle.edit_formats.specs.ProEdits.{pro_locked}
use Rattle.edit_formats.proofs.pro_edits.ProdosEditableFormat.put_lock.Goals as goal

pub bounds-entries-file : goal.bounds-entries-file
bounds-entries-file g c =
    let v = c.args.volume.now in in_shown (system_of v) (tree_of v) (map_in v).units c.args.file c.requires.file c.entries.result.now (c.entries.ensures ∙ ap (λ (tree : Tree). tree.entries) (ap directory_of c.directory.ensures))

pub returns : goal.returns
returns g c =
    let v = c.args.volume.now in
    lock-pro (system_of v) (tree_of v) (map_in v).units c.args.file c.requires.file c.entries.result.now _
    (c.entries.ensures ∙ ap (λ (tree : Tree). tree.entries) (ap directory_of c.directory.ensures))
    c.args.on c.locked_access.result c.args.unit.now c.set_access.new.unit (c.locked_access.ensures ∙ ap (pro_locked c.args.on) c.access.ensures) c.set_access.ensures
