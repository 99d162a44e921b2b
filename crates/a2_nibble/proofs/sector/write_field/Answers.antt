use Rattle.std.proofs.Common.{ℕ, sym, ap, ◌∙◌, subst}
use Rattle.a2_nibble.specs.Field.{IsEncoded}
use Rattle.a2_nibble.specs.Track.{SameOutside, field_at}
use Rattle.a2_nibble.specs.Sector.{IsFieldOf, WritesSector}
use Rattle.a2_nibble.proofs.WriteLemmas.{keeps_others, same_fields, written_sector}
use Rattle.a2_nibble.proofs.AnswerLemmas.{same_answer}
use Rattle.a2_nibble.proofs.sector.write_field.Goals as goal
use Rattle.a2_nibble.proofs.sector.write_field.Goals.{After-set_field}

writes : (c : After-set_field) (t s : ℕ) → IsFieldOf c.args.nibbles.now t s c.args.field.volume c.args.field.data_at →
    WritesSector c.args.nibbles.now c.set_field.new.nibbles t s c.args.content.now
writes c t s h = record {
  volume = c.args.field.volume;
  data_at = c.args.field.data_at;
  field = h;
  written = subst (IsEncoded c.args.content.now)
      (sym c.set_field.ensures.written ∙ ap (field_at c.set_field.new.nibbles) c.from.ensures) c.encode_sector.ensures.encoded;
  others = subst (SameOutside c.args.nibbles.now c.set_field.new.nibbles) c.from.ensures c.set_field.ensures.others;
}

pub returns-clause-writes : goal.returns-clause-writes
returns-clause-writes c = writes c

pub returns-clause-ok : goal.returns-clause-ok
returns-clause-ok c = λ t s h. written_sector _ _ t s _ (writes c t s h)

pub returns-clause-others : goal.returns-clause-others
returns-clause-others c = λ t s lt ls h. keeps_others _ _ t s _ (writes c t s h) lt ls

pub returns-clause-answers : goal.returns-clause-answers
returns-clause-answers c = λ t s answer. same_answer _ _ t s
    (same_fields _ _ c.requires.0 c.requires.1 _ (writes c c.requires.0 c.requires.1 c.requires.2) t s) answer
