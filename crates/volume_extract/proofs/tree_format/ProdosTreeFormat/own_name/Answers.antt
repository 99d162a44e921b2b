use Rattle.std.proofs.Common.{◌∙◌, ap, sym, get_or}
use Rattle.pro_dir.specs.Listed.{directory_of}
use Rattle.pro_dir.specs.Volume.{Directory as Tree}
use Rattle.pro_dir.specs.Entry.{name_of}
use Rattle.pro_dir.specs.declared.entry.Entry.{Entry}
use Rattle.pro_format.specs.Pro.{no_slot}
use Rattle.pro_format.specs.ProVolume.{tree_of, map_in, system_of}
use Rattle.file_formats.proofs.ProEntries.{in_shown}
use Rattle.volume_extract.proofs.TreeNames.{own_name, short_name, shown_entry}
use Rattle.volume_extract.proofs.tree_format.ProdosTreeFormat.own_name.Goals as goal

pub bounds-entries-entry : goal.bounds-entries-entry
bounds-entries-entry g c =
    let v = c.args.volume.now in in_shown (system_of v) (tree_of v) (map_in v).units c.args.entry c.requires c.entries.result.now (c.entries.ensures ∙ ap (λ (tree : Tree). tree.entries) (ap directory_of c.directory.ensures))

pub returns-clause-name : goal.returns-clause-name
returns-clause-name g c =
    let v = c.args.volume.now in
    let is = c.entries.ensures ∙ ap (λ (tree : Tree). tree.entries) (ap directory_of c.directory.ensures) in
    c.name.ensures
    ∙ ap (λ (entry : Entry). name_of entry.bytes)
    (shown_entry c.entries.result.now (tree_of v).entries c.args.entry _
    (in_shown (system_of v) (tree_of v) (map_in v).units c.args.entry c.requires c.entries.result.now is) is)
    ∙ sym (own_name (system_of v) (tree_of v) (map_in v).units c.args.entry c.requires)

pub returns-clause-short : goal.returns-clause-short
returns-clause-short g c = short_name (get_or c.entries.result.now c.args.entry no_slot).bytes _ c.name.ensures
