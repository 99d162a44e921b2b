use Rattle.std.proofs.Common.{◌∙◌}
use Rattle.pro_format.specs.ProVolume.{tree_of, map_in, system_of}
use Rattle.pro_format.proofs.Readers.{free-pro}
use Rattle.pro_format.proofs.prodos.ProdosFormat.is_free.Goals as goal

pub returns : goal.returns
returns g c = let v = c.args.volume.now in c.is_free.ensures ∙ free-pro (system_of v) (tree_of v) (map_in v).units c.args.place c.requires
