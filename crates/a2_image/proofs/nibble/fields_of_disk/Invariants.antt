use Rattle.a2_image.proofs.KeptLemmas.{FieldsBelow}
use Rattle.a2_image.proofs.nibble.fields_of_disk.Given as goal

abbrev pub invariant-loop-track : goal.invariant-loop-track
invariant-loop-track g l = FieldsBelow l.bytes l.fields.items l.track
