use Rattle.std.proofs.Common.{◌≤◌, ◌∙◌, ap, arith, length, sym}
use Rattle.std.proofs.lemmas.List.{get_or_past}
use Rattle.pro_dir.specs.Listed.{directory_of}
use Rattle.pro_dir.specs.Volume.{Directory as Tree, total_blocks}
use Rattle.vol_format.specs.Directory.{Listed, no_entry}
use Rattle.pro_format.specs.Pro.{directory_with}
use Rattle.pro_format.specs.ProVolume.{map_in, system_of, tree_of}
use Rattle.pro_format.specs.lemmas.ProDirectory.{length-listed}
use Rattle.file_listings.proofs.pro_steps.path_in.Goals as goal

pub listed_entry-requires : goal.listed_entry-requires
listed_entry-requires g c =
    let tree = tree_of c.args.volume.now in
    omega (arith, c.if-file-entries.true, ap length (c.entries.ensures ∙ ap (λ (tree : Tree). tree.entries) (ap directory_of c.directory.ensures)), length-listed (total_blocks tree.header) tree.entries)

-- no entry has the number, and so there is no path
pub returns : goal.returns
returns g c =
    let volume = c.args.volume.now in
    let tree = tree_of volume in
    let listed = (directory_with (system_of volume) tree (map_in volume).units).listed in
    let past : length listed ≤ c.args.file = omega (arith, c.if-file-entries.false, ap length (c.entries.ensures ∙ ap (λ (tree : Tree). tree.entries) (ap directory_of c.directory.ensures)), length-listed (total_blocks tree.header) tree.entries) in
    c.clear.ensures.items ∙ ap (λ (entry : Listed). entry.path) (sym (get_or_past listed c.args.file no_entry past))
