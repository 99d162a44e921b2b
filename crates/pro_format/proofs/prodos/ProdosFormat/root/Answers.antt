use Rattle.pro_format.specs.ProVolume.{tree_of, map_in, system_of}
use Rattle.pro_format.proofs.Readers.{within, root-pro}
use Rattle.pro_format.proofs.prodos.ProdosFormat.root.Goals as goal

pub bounds-entries-file : goal.bounds-entries-file
bounds-entries-file g c = let v = c.args.volume.now in within (system_of v) (tree_of v) (map_in v).units c.entries.result.now c.args.file c.entries.ensures c.requires

pub returns : goal.returns
returns g c =
    let v = c.args.volume.now in
    root-pro (system_of v) (tree_of v) (map_in v).units c.entries.result.now c.args.file _ c.entries.ensures c.requires
    c.root.result c.total.result c.storage.result c.key.result c.root.ensures c.total.ensures c.storage.ensures c.key.ensures
