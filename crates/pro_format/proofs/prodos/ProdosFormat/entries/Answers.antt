use Rattle.pro_format.specs.ProVolume.{tree_of, map_in, system_of}
use Rattle.pro_format.proofs.Readers.{entries-pro}
use Rattle.pro_format.proofs.prodos.ProdosFormat.entries.Goals as goal

pub returns : goal.returns
returns g c = let v = c.args.volume.now in entries-pro (system_of v) (tree_of v) (map_in v).units c.entries.result.now c.entries.ensures
