use Rattle.a2_image.proofs.ConvertLemmas.{MadeFieldsBelow}
use Rattle.a2_image.proofs.nibble.made_fields.Given as goal

abbrev pub invariant-loop-number : goal.invariant-loop-number
invariant-loop-number g l = MadeFieldsBelow l.volume l.fields.items l.number
