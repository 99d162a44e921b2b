use Rattle.std.proofs.Common.{◌∙◌, ap}
use Rattle.pro_dir.specs.Listed.{directory_of}
use Rattle.pro_dir.specs.Volume.{Directory as Tree}
use Rattle.pro_format.specs.ProVolume.{tree_of, map_in, system_of}
use Rattle.file_formats.proofs.ProEntries.{in_shown, eof-pro, body-pro}
use Rattle.file_formats.proofs.pro.ProdosFileFormat.body.Goals as goal

pub bounds-entries-file : goal.bounds-entries-file
bounds-entries-file g c =
    let v = c.args.volume.now in in_shown (system_of v) (tree_of v) (map_in v).units c.args.file c.requires c.entries.result.now (c.entries.ensures ∙ ap (λ (tree : Tree). tree.entries) (ap directory_of c.directory.ensures))

pub returns : goal.returns
returns g c =
    let v = c.args.volume.now in body-pro (system_of v) (tree_of v) (map_in v).units c.args.file c.requires c.sized.result (λ body. body.items) c.eof.result _ c.args.text.items
    (eof-pro (system_of v) (tree_of v) (map_in v).units c.args.file c.requires c.entries.result.now _ c.eof.result (c.entries.ensures ∙ ap (λ (tree : Tree). tree.entries) (ap directory_of c.directory.ensures)) c.eof.ensures)
    c.sized.ensures
