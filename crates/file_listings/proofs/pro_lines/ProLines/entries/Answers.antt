use Rattle.std.proofs.Common.{◌∙◌, ap, length, sym}
use Rattle.pro_dir.specs.Listed.{directory_of}
use Rattle.pro_dir.specs.Volume.{Directory as Tree, total_blocks}
use Rattle.pro_format.specs.ProVolume.{tree_of}
use Rattle.pro_format.specs.lemmas.ProDirectory.{length-listed}
use Rattle.file_listings.specs.ProLines.{listed_in}
use Rattle.file_listings.proofs.RowLines.{length-lines}
use Rattle.file_listings.proofs.pro_lines.ProLines.entries.Goals as goal

pub returns : goal.returns
returns g c =
    let tree = tree_of c.args.self.now.volume in
    let listed = listed_in c.args.self.now in
    ap length (c.entries.ensures ∙ ap (λ (tree : Tree). tree.entries) (ap directory_of c.directory.ensures))
    ∙ sym (length-listed (total_blocks tree.header) tree.entries) ∙ sym (length-lines listed.style listed.directory listed.facts)
