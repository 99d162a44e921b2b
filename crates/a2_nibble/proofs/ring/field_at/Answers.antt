use Rattle.std.proofs.Common.{arith}
use Rattle.a2_nibble.proofs.CopyLemmas.{field_at-copied}
use Rattle.a2_nibble.proofs.ring.field_at.Goals as goal

pub returns : goal.returns
returns c = field_at-copied c.args.nibbles.now _ c.copy_to.new.to c.copy_to-2.new.to c.args.place c.min-head.result
    (omega arith) c.min-head.ensures (omega arith) (omega arith) c.copy_to.ensures c.copy_to-2.ensures
