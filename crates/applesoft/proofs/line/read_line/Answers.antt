use Rattle.applesoft.proofs.Bodies.{no_read}
use Rattle.applesoft.proofs.Split.{none_at}
use Rattle.applesoft.proofs.line.read_line.Goals as goal

pub returns-in-None-clause-none : goal.returns-in-None-clause-none
returns-in-None-clause-none g c =
    no_read c.args.text.now c.without_spaces-text.result.now c.split_digits.result.1.now c.without_spaces-text.ensures c.split_digits.ensures.rest
    (none_at c.in_ok-body.field-0 c.in-None.is c.in_ok-body.ensures.none)
