use Rattle.std.proofs.Common.{subst}
use Rattle.a2_nibble.specs.Search.{FindsBelow}
use Rattle.a2_nibble.proofs.AnswerLemmas.{FindsBelow-from}
use Rattle.a2_nibble.proofs.fields.first_of.Goals as goal

pub returns-in-None : goal.returns-in-None
returns-in-None c = FindsBelow-from c.args.nibbles.now c.args.track c.args.sector c.args.place c.requires.place
    (subst (FindsBelow c.args.nibbles.now c.args.track c.args.sector c.args.place) c.in-None.is c.requires.below)
    c.field_from.result c.field_from.ensures.found c.field_from.ensures.none
