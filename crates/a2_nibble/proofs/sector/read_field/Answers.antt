use Rattle.std.proofs.Common.{ℕ, ap, subst, ◌∙◌}
use Rattle.a2_nibble.specs.Field.{Gives}
use Rattle.a2_nibble.specs.Sector.{IsFieldOf, SectorOf}
use Rattle.a2_nibble.specs.Track.{field_at}
use Rattle.a2_nibble.proofs.OneLemmas.{one_content}
use Rattle.a2_nibble.proofs.sector.read_field.Goals as goal
use Rattle.a2_nibble.proofs.sector.read_field.Goals.{After-decode_sector}

content_is : (c : After-decode_sector) (t s : ℕ) → IsFieldOf c.args.nibbles.now t s c.args.field.volume c.args.field.data_at →
    SectorOf c.args.nibbles.now t s c.decode_sector.new.content
content_is c t s h = record {
  volume = c.args.field.volume;
  data_at = c.args.field.data_at;
  field = h;
  gives = subst (λ bytes. Gives bytes c.decode_sector.new.content)
      (c.field_at.ensures ∙ ap (field_at c.args.nibbles.now) c.from.ensures) c.decode_sector.ensures;
}

pub returns-clause-content : goal.returns-clause-content
returns-clause-content c = content_is c

pub returns-clause-only : goal.returns-clause-only
returns-clause-only c = λ t s other h k. one_content c.args.nibbles.now t s other c.decode_sector.new.content k (content_is c t s h)
