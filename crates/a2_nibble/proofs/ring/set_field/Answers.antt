use Rattle.std.proofs.Common.{arith}
use Rattle.a2_nibble.proofs.CopyLemmas.{field_at-written, SameOutside-written}
use Rattle.a2_nibble.proofs.ring.set_field.Goals as goal

pub returns-clause-written : goal.returns-clause-written
returns-clause-written c = field_at-written c.args.field.now c.args.nibbles.now c.copy_to.new.to c.copy_to-2.new.to c.args.place c.min-head.result
    (omega arith) c.min-head.ensures (omega arith) c.copy_to.ensures c.copy_to-2.ensures

pub returns-clause-others : goal.returns-clause-others
returns-clause-others c = SameOutside-written c.args.field.now c.args.nibbles.now c.copy_to.new.to c.copy_to-2.new.to c.args.place c.min-head.result
    (omega arith) c.min-head.ensures (omega arith) c.copy_to.ensures c.copy_to-2.ensures
