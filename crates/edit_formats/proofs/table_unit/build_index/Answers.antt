use Rattle.edit_formats.proofs.TableWrites.{index_unit}
use Rattle.edit_formats.proofs.table_unit.build_index.Goals as goal

pub returns : goal.returns
returns c =
    index_unit c.requires.file.0 c.args.parts.now c.args.places.now c.args.at c.put_bodies.result c.put_bodies.new.unit c.requires.file.1 c.requires.at c.requires.index
    c.put_bodies.ensures.end c.put_bodies.ensures.unit
