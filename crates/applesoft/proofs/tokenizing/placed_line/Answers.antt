use Rattle.applesoft.specs.Tokens.{IsRead}
use Rattle.applesoft.proofs.Split.{some_at}
use Rattle.applesoft.proofs.Texts.{placed_as}
use Rattle.applesoft.proofs.tokenizing.placed_line.Goals as goal

pub returns-in-None-clause-none : goal.returns-in-None-clause-none
returns-in-None-clause-none g c line read placed =
    c.in-None.ensures.none line.link (placed_as _ _ c.args.text.now c.in-Some.line.number c.in-Some.line.body.items line
    (some_at c.in_ok-line.field-0 c.in-Some.line c.in-Some.is (λ l. IsRead c.args.text.now l.number l.body.items) c.in_ok-line.ensures.some) read placed)
