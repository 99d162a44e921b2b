use Rattle.a2_nibble.proofs.CopyLemmas.{StandsAt-copied, nibble_at-uncopied}
use Rattle.a2_nibble.proofs.make.put.Goals as goal

pub returns-clause-written : goal.returns-clause-written
returns-clause-written c = StandsAt-copied c.args.nibbles.now _ c.args.place _ c.copy_to.ensures c.requires

pub returns-clause-others : goal.returns-clause-others
returns-clause-others c = nibble_at-uncopied c.args.nibbles.now _ c.args.place _ c.copy_to.ensures
