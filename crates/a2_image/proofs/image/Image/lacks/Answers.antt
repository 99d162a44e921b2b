use Rattle.std.proofs.lemmas.Bool.{both_ways, false≢true}
use Rattle.a2_image.proofs.ImageLemmas.{plain_there}
use Rattle.a2_image.proofs.image.Image.lacks.Goals as goal

pub returns-else-is_nibble : goal.returns-else-is_nibble
returns-else-is_nibble g c = (
  λ e. absurd (both_ways _ c.if-is_nibble.false e),
  λ none. absurd (plain_there c.args.self.now c.self.inside.order c.self.inside.bytes.items c.self.inside.fields.items c.self.view_is c.self.invariant
      (λ e. false≢true (c.if-is_nibble.ensures.1 e)) c.requires.disk c.args.track c.args.sector c.requires.exists.0 c.requires.exists.1 none),
)
