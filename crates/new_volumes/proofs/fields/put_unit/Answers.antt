use Rattle.std.proofs.Common.{arith}
use Rattle.a2_media.specs.lemmas.Written.{written_whole}
use Rattle.new_volumes.proofs.fields.put_unit.Goals as goal

pub returns : goal.returns
returns c = written_whole c.args.image.now c.args.at _ c.args.unit.now c.copy_from_slice.new.self c.requires (omega arith) c.copy_from_slice.ensures.after
