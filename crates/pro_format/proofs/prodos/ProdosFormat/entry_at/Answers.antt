use Rattle.pro_format.specs.ProVolume.{tree_of, map_in, system_of}
use Rattle.pro_format.proofs.Readers.{within, place-pro, slot-pro}
use Rattle.pro_format.proofs.prodos.ProdosFormat.entry_at.Goals as goal

pub bounds-entries-file : goal.bounds-entries-file
bounds-entries-file g c = let v = c.args.volume.now in within (system_of v) (tree_of v) (map_in v).units c.entries.result.now c.args.file c.entries.ensures c.requires

pub returns-clause-place : goal.returns-clause-place
returns-clause-place g c = let v = c.args.volume.now in place-pro (system_of v) (tree_of v) (map_in v).units c.entries.result.now c.args.file _ c.entries.ensures c.requires

pub returns-clause-slot : goal.returns-clause-slot
returns-clause-slot g c = let v = c.args.volume.now in slot-pro (system_of v) (tree_of v) (map_in v).units c.entries.result.now c.args.file _ c.entries.ensures c.requires
